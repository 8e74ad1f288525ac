-- Document 02, CR 2: a list of names, bit by bit, and as the second program reads it.
use Prim.Native.Nat.{ℕ, suc, ◌+◌, ◌*◌, ◌-◌, ◌^◌, ◌≤◌, ◌<◌, min}
use mathlib.Core.Path.{◌≡◌, refl, sym, ◌∙◌, ap, ap₂, subst}
use mathlib.Core.Bool.{Bool, true, false, ◌||◌}
use mathlib.Core.List.{List, [], ◌∷◌, ◌++◌, append_assoc, append-nil}
use native.Mathlib.Omega.{arith}
use lib.ListN.{length, take, drop, get_or, length-append, length-take, length-drop}
use lib.Seq.{get_or-take}
use lib.Dec.{ltb}
use borrow.Author.Tests.{ltb-true, ltb-false, lt-ltb, le-ltb}
use Rattle.meaning.specs.Words.{Action}
use Rattle.meaning.specs.Numbers.{given, first_of}
use Rattle.fields.specs.Fields.{digit, number, field, bits, at, packed, size, form}
use Rattle.fields.proofs.Laws.{length-bits, number-add, number_at}
use Rattle.fields.proofs.Packed.{field_byte, field_byte_first}
use Rattle.record_form.specs.Record.{Bytes}
use Rattle.name_list.specs.Names.{Entry, EntryGood, entry_form, first_byte, list_form, entries, entries_read, list_broken, action_number, Rising}
use Rattle.name_list.proofs.Good.{good_long}
use Rattle.name_list.proofs.Packed.{good_packs, packed_good}
-- Two lists that are taken with the same entries, or that give every action the same name, are the same bytes; an action has at most one
-- entry.
pub use Rattle.name_list.proofs.Packed.{one_packing as list_one_packing, one_entry}
pub use Rattle.name_list.proofs.Meaning.{one_list}
use Rattle.name_list.specs.Read.{list_size, list_refusal}
use Rattle.named.specs.Listing.{list_at}
use Rattle.demands.specs.Texts.{bytes}
use Rattle.demands.specs.Names.{entry_bits, packed_list, list_front, list_number}

-- ---- the bits of an entry

module _ (d k n : ℕ) (hd : d < 2) (hk : k < 64) (hn : n < 256) where
  abbrev a : List ℕ
  a = bits 1 d

  abbrev b : List ℕ
  b = bits 1 0

  abbrev c : List ℕ
  c = bits 6 k

  abbrev e : List ℕ
  e = bits 8 n

  abbrev l : List ℕ
  l = a ++ b ++ c ++ e

  long : length l ≡ 16
  long =
      omega (arith, length-append (a ++ b ++ c) e, length-append (a ++ b) c, length-append a b, length-bits 1 d, length-bits 1 0, length-bits 6 k, length-bits 8 n)

  -- a field of it, by what stands before and behind
  field_at : (before : List ℕ) (w v : ℕ) (behind : List ℕ) (i : ℕ) → l ≡ before ++ bits w v ++ behind → length before ≡ i → v < 2 ^ w → number (at l) i w ≡ v
  field_at before w v behind i same size h =
      ap₂ (λ (x : List ℕ) (m : ℕ). number (at x) m w) same (sym size) ∙ number_at before behind w v h

  first_eight : number (at l) 0 8 ≡ 128 * d + k
  first_eight =
      number-add (at l) 0 1 7
      ∙ ap₂ (λ (x y : ℕ). x * 2 ^ 7 + y)
      (field_at [] 1 d (b ++ c ++ e) 0 (append_assoc (a ++ b) c e ∙ append_assoc a b (c ++ e) ∙ ap (λ (x : List ℕ). a ++ x) (sym (append_assoc b c e))) refl hd)
      (number-add (at l) 1 1 6
      ∙ ap₂ (λ (x y : ℕ). x * 2 ^ 6 + y)
      (field_at a 1 0 (c ++ e) 1 (append_assoc (a ++ b) c e) (length-bits 1 d) (omega arith))
      (field_at (a ++ b) 6 k e 2 refl (omega (arith, length-append a b, length-bits 1 d, length-bits 1 0)) hk))
      ∙ (let z : d * 128 + (0 * 64 + k) ≡ 128 * d + k = omega arith in z)

  next_eight : number (at l) 8 8 ≡ n
  next_eight =
      field_at (a ++ b ++ c) 8 n [] 8 (sym (append-nil l)) (omega (arith, length-append (a ++ b) c, length-append a b, length-bits 1 d, length-bits 1 0, length-bits 6 k)) hn

  two_bytes : form l ≡ (128 * d + k) ∷ n ∷ []
  unfolding form packed
  two_bytes = ap (λ (m : ℕ). packed (at l) (size m)) long ∙ ap₂ (λ (x y : ℕ). x ∷ y ∷ []) first_eight next_eight

entry-packed : (x : Entry) → EntryGood x → form (entry_bits x.action (length x.name)) ++ x.name ≡ entry_form x
entry-packed x good = ap (λ (f : List ℕ). f ++ x.name) (go x.action good.action_fits)
  where
    short : length x.name < 256
    short = omega (arith, good.most)

    go : (y : Action) → action_number y ≤ 63 → form (entry_bits y (length x.name)) ≡ first_byte y ∷ length x.name ∷ []
    go (Action.input k) h =
        two_bytes 0 k (length x.name) (omega arith) (omega (arith, h)) short
        ∙ ap (λ (f : ℕ). f ∷ length x.name ∷ []) (let z : 128 * 0 + k ≡ k = omega arith in z)
    go (Action.output k) h = two_bytes 1 k (length x.name) (omega arith) (omega (arith, h)) short

list_packed : (least : ℕ) (es : List Entry) → Rising least es → packed_list es ≡ list_form es
unfolding packed_list list_form Rising
list_packed least [] h = refl
list_packed least (x ∷ es) h = ap₂ ◌++◌ (entry-packed x h.1) (list_packed (suc (first_byte x.action)) es h.2)

-- ==== A list. "A name list is packed entries .., with first bytes strictly rising": what is taken is the packing of its entries, bit by bit,
-- which keep the rules (`Rising`, `EntryGood`),
pub list_taken : (list : List ℕ) → Bytes list → list_broken list ≡ false → (list ≡ packed_list (entries list)) × Rising 0 (entries list) × (length list ≤ 8192)
list_taken list small e =
    let g = good_packs list small e in
    (g.packed ∙ sym (list_packed 0 (entries list) g.rising), g.rising, good_long list e)

-- and any entries that keep them, in at most 8,192 bytes, are taken and read back. So nothing else is broken than what breaks a rule.
pub list_back : (es : List Entry) → Rising 0 es → length (packed_list es) ≤ 8192 → (list_broken (packed_list es) ≡ false) × (entries (packed_list es) ≡ es)
list_back es rising few =
    let same = list_packed 0 es rising in
    subst (λ (l : List ℕ). (list_broken l ≡ false) × (entries l ≡ es)) (sym same) (packed_good es rising (omega (arith, ap length same, few)))

-- Two entries worked out: `?0 switch` is 00 06 and `!2 old-tile` 82 08, each before its name.
abbrev pub two_names : List Entry
two_names = record { action = Action.input 0; name = bytes "switch" } ∷ record { action = Action.output 2; name = bytes "old-tile" } ∷ []

pub two-packed : packed_list two_names ≡ (0 ∷ 6 ∷ bytes "switch") ++ (130 ∷ 8 ∷ bytes "old-tile")
unfolding packed_list form packed number bits digit
two-packed = refl

pub two-read : entries ((0 ∷ 6 ∷ bytes "switch") ++ (130 ∷ 8 ∷ bytes "old-tile")) ≡ two_names
unfolding entries entries_read
two-read = refl

-- The two bytes in front of a list are its length, most significant first, as `name_list::size` answers it.
pub size-read : (input : List ℕ) → Bytes input → list_size input ≡ field input 0 16
size-read input small =
    (let z : 256 * get_or input 0 0 + get_or input 1 0 ≡ get_or input 0 0 * 2 ^ 8 + get_or input 1 0 = omega arith in z)
    ∙ ap (λ (n : ℕ). get_or input 0 0 * 2 ^ 8 + n) (sym (field_byte input 1 (small 1)))
    ∙ sym (field_byte_first input 0 8 (small 0))

lists_by_size : (number : ℕ) (input : List ℕ)
    → list_refusal number (take 2 input) (list_at input)
    ≡ first_of (given 7 (ltb (length input) 2 || ltb (length input) (2 + list_size input))) (given number (list_broken (list_at input)))
unfolding list_refusal
lists_by_size number input = ap (λ (t : Bool). first_of (given 7 t) (given number (list_broken (list_at input)))) (go (ltb (length input) 2) refl)
  where
    short : (t : Bool) → ltb (length input) 2 ≡ t → ltb (length (take 2 input)) 2 ≡ t
    short true e = lt-ltb (length (take 2 input)) 2 (omega (arith, length-take 2 input, ltb-true (length input) 2 e))
    short false e = le-ltb (length (take 2 input)) 2 (omega (arith, length-take 2 input, ltb-false (length input) 2 e))

    size : list_size (take 2 input) ≡ list_size input
    size = ap₂ (λ (a b : ℕ). 256 * a + b) (get_or-take 2 input 0 0 (omega arith)) (get_or-take 2 input 1 0 (omega arith))

    held : length (list_at input) ≡ min (list_size input) (length input - 2)
    held = length-take (list_size input) (drop 2 input) ∙ ap (min (list_size input)) (length-drop 2 input)

    long : 2 ≤ length input → (t : Bool) → ltb (length input) (2 + list_size input) ≡ t → ltb (length (list_at input)) (list_size input) ≡ t
    long h true e = lt-ltb (length (list_at input)) (list_size input) (omega (arith, held, ltb-true (length input) (2 + list_size input) e, h))
    long h false e = le-ltb (length (list_at input)) (list_size input) (omega (arith, held, ltb-false (length input) (2 + list_size input) e, h))

    go : (t : Bool) → ltb (length input) 2 ≡ t
        → ltb (length (take 2 input)) 2 || ltb (length (list_at input)) (list_size (take 2 input)) ≡ ltb (length input) 2 || ltb (length input) (2 + list_size input)
    go true e = ap (λ (t : Bool). t || ltb (length (list_at input)) (list_size (take 2 input))) (short true e) ∙ sym (ap (λ (t : Bool). t || ltb (length input) (2 + list_size input)) e)
    go false e =
        ap₂ (λ (s : Bool) (n : ℕ). s || ltb (length (list_at input)) n) (short false e) size
        ∙ long (ltb-false (length input) 2 e) (ltb (length input) (2 + list_size input)) refl
        ∙ sym (ap (λ (t : Bool). t || ltb (length input) (2 + list_size input)) e)

-- ==== The lists of the second program: "Missing bytes of a list are 7 .. (7 stands before 11 and 12)". `name_list::refused` is given what
-- was read of the two bytes and of the list that they announce.
pub demand_1_lists : (number : ℕ) (input : List ℕ) → Bytes input → list_refusal number (take 2 input) (list_front input) ≡ list_number number input
demand_1_lists number input small =
    subst
    (λ (n : ℕ). list_refusal number (take 2 input) (take n (drop 2 input))
    ≡ first_of (given 7 (ltb (length input) 2 || ltb (length input) (2 + n))) (given number (list_broken (take n (drop 2 input)))))
    (size-read input small) (lists_by_size number input)

-- a list that is not refused is not broken
pub good : (number : ℕ) (input : List ℕ) → list_number (suc number) input ≡ 0 → list_broken (list_front input) ≡ false
good number input z = go (ltb (length input) 2 || ltb (length input) (2 + field input 0 16)) (list_broken (list_front input)) refl z
  where
    go : (t b : Bool) → list_broken (list_front input) ≡ b → first_of (given 7 t) (given (suc number) b) ≡ 0 → list_broken (list_front input) ≡ false
    go true b e h = absurd (omega (arith, h))
    go false true e h = absurd (omega (arith, h))
    go false false e h = e
