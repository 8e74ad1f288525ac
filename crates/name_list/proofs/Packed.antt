-- A list that is not broken is its entries, packed, and these keep the rules; and any entries that keep them are taken and read back.
-- So there is one packing of a list of entries, and at most one entry for an action.
use Prim.Native.Nat.{ℕ, zero, suc, ◌+◌, ◌/◌, ◌%◌, ◌≤◌, ◌<◌}
use mathlib.Core.Path.{◌≡◌, refl, sym, ◌∙◌, ap, ap₂, subst}
use mathlib.Core.Bool.{Bool, true, false, ◌||◌, not, cond}
use mathlib.Core.List.{List, [], ◌∷◌, ◌++◌}
use native.Mathlib.Omega.{arith}
use lib.ListN.{length, drop, length-append, take-append-drop}
use lib.Seq.{drop-drop, take-append_seam, drop-append_seam}
use lib.Dec.{ltb, eqb}
use borrow.Author.Tests.{ltb-true, ltb-false, le-ltb, eq-eqb, ne_eqb}
use Rattle.laws.specs.Bytes.{Bytes}
use Rattle.laws.proofs.Tests.{or_split, neither}
use Rattle.laws.proofs.Bytes.{Bytes-drop}
use Rattle.meaning.specs.Words.{Action}
use Rattle.name_list.specs.Names.{Entry, first_byte, entry_form, list_form, action_read, entry_read, entries_read, entries, AllInside, action_number, EntryGood, Rising}
use Rattle.name_list.specs.Names.{first, name_size, entry_size, name_read, any_outside, entry_broken, entries_broken, list_broken}
use Rattle.name_list.proofs.Lists.{Whole, good_step, broken_step, broken-end, read_step, read-end, name-long}
use Rattle.name_list.proofs.Good.{byte_read, good_entries}

-- ---- the bytes of a name

all-inside : (l : List ℕ) → any_outside l ≡ false → AllInside l
unfolding any_outside AllInside
all-inside [] e = tt
all-inside (b ∷ rest) e =
    let s = or_split (ltb b 33 || ltb 126 b) (any_outside rest) e in
    let t = or_split (ltb b 33) (ltb 126 b) s.0 in
    (ltb-false b 33 t.0, ltb-false 126 b t.1, all-inside rest s.1)

none-outside : (l : List ℕ) → AllInside l → any_outside l ≡ false
unfolding any_outside AllInside
none-outside [] h = refl
none-outside (b ∷ rest) h = neither (neither (le-ltb b 33 h.0) (le-ltb 126 b h.1)) (none-outside rest h.2)

-- ---- what is taken is packed

no_bytes : (l : List ℕ) → length l ≤ 0 → l ≡ []
no_bytes [] h = refl
no_bytes (b ∷ rest) h = absurd (omega arith)

front-two : (l : List ℕ) → 2 ≤ length l → l ≡ first l ∷ name_size l ∷ drop 2 l
front-two [] h = absurd (omega arith)
front-two (a ∷ []) h = absurd (omega arith)
front-two (a ∷ b ∷ rest) h = refl

number_small : (b : ℕ) → action_number (action_read b) ≤ 63
number_small b = go (eqb (b / 128) 0)
  where
    go : (t : Bool) → action_number (cond t (Action.input (b % 64)) (Action.output (b % 64))) ≤ 63
    go true = omega arith
    go false = omega arith

-- These entries, packed, are the list, and keep the rules.
pub record Packs (least : ℕ) (es : List Entry) (l : List ℕ) : Type 0 where
  pub packed : l ≡ list_form es
  pub rising : Rising least es

packs_none : (least : ℕ) (l : List ℕ) (es : List Entry) → length l ≤ 0 → es ≡ [] → Packs least es l
packs_none least l es h e = subst (λ (x : List Entry). Packs least x l) (sym e) (record { packed = no_bytes l h ∙ (unfold list_form in refl); rising = unfold Rising in tt })

-- one entry more
packs_more : (least : ℕ) (l : List ℕ) (es : List Entry) → Bytes l → Whole least l → Packs (suc (first l)) es (drop (entry_size l) l) → Packs least (entry_read l ∷ es) l
packs_more least l es small w rest = record { packed = whole; rising = unfold Rising in (order, good, further) }
  where
    own : first_byte (entry_read l).action ≡ first l
    own = byte_read (first l) (small 0) w.zero_bit

    order : least ≤ first_byte (entry_read l).action
    order = omega (arith, own, w.rises)

    long : length (name_read l) ≡ name_size l
    long = name-long least l w

    good : EntryGood (entry_read l)
    good =
        record {
          action_fits = number_small (first l);
          some = omega (arith, long, w.some);
          most = omega (arith, long, w.most);
          inside = all-inside (name_read l) w.inside;
        }

    further : Rising (suc (first_byte (entry_read l).action)) es
    further = subst (λ (b : ℕ). Rising (suc b) es) (sym own) rest.rising

    behind : name_read l ++ list_form es ≡ drop 2 l
    behind =
        ap (λ (x : List ℕ). name_read l ++ x) (sym rest.packed ∙ sym (drop-drop (name_size l) 2 l))
        ∙ take-append-drop (name_size l) (drop 2 l)

    whole : l ≡ list_form (entry_read l ∷ es)
    whole =
        front-two l (omega (arith, w.there))
        ∙ (λ i. sym own i ∷ sym long i ∷ sym behind i)
        ∙ (unfold list_form in refl)

packs_by : (most least : ℕ) (l : List ℕ) → Bytes l → entries_broken (suc most) least l ≡ false
    → (entries_broken most (suc (first l)) (drop (entry_size l) l) ≡ false → Packs (suc (first l)) (entries_read most (drop (entry_size l) l)) (drop (entry_size l) l))
    → (t : Bool) → (t ≡ true → 0 < length l) → (t ≡ false → length l ≤ 0) → Packs least (entries_read (suc most) l) l
packs_by most least l small e on false y n = packs_none least l (entries_read (suc most) l) (n refl) (read-end (suc most) l (n refl))
packs_by most least l small e on true y n =
    let g = good_step (suc most) least l (y refl) e in
    let same : most ≡ g.less = omega (arith, g.counted) in
    subst (λ (es : List Entry). Packs least es l) (sym (read_step most l (y refl)))
    (packs_more least l (entries_read most (drop (entry_size l) l)) small g.whole
    (on (ap (λ (k : ℕ). entries_broken k (suc (first l)) (drop (entry_size l) l)) same ∙ g.behind)))

packs : (most least : ℕ) (l : List ℕ) → Bytes l → entries_broken most least l ≡ false → Packs least (entries_read most l) l
packs zero least l small e = packs_none least l (entries_read zero l) (ltb-false 0 (length l) (unfold entries_broken in e)) (unfold entries_read in refl)
packs (suc most) least l small e =
    packs_by most least l small e (λ f. packs most (suc (first l)) (drop (entry_size l) l) (Bytes-drop (entry_size l) l small) f)
    (ltb 0 (length l)) (ltb-true 0 (length l)) (ltb-false 0 (length l))

-- "what a packed list means": the entries that it packs
pub good_packs : (list : List ℕ) → Bytes list → list_broken list ≡ false → Packs 0 (entries list) list
unfolding entries
good_packs list small e = packs (length list) 0 list small (good_entries list e)

-- Two lists that are taken, with the same entries, are the same bytes.
pub one_packing : (l m : List ℕ) → Bytes l → Bytes m → list_broken l ≡ false → list_broken m ≡ false → entries l ≡ entries m → l ≡ m
one_packing l m sl sm el em e = (good_packs l sl el).packed ∙ ap list_form e ∙ sym (good_packs m sm em).packed

-- ---- what is packed is taken, and read back

-- a first byte by the rules, and its action
pub first_good : (a : Action) → action_number a ≤ 63 → (first_byte a / 64 % 2 ≡ 0) × (action_read (first_byte a) ≡ a)
first_good (Action.input k) h =
    let q : k / 128 ≡ 0 = omega arith in
    let r : k % 64 ≡ k = omega arith in
    (omega arith, ap (λ (t : Bool). cond t (Action.input (k % 64)) (Action.output (k % 64))) (eq-eqb (k / 128) 0 q) ∙ ap Action.input r)
first_good (Action.output k) h =
    let q : (128 + k) / 128 ≡ 0 → ⊥ = λ z. omega (arith, z) in
    let r : (128 + k) % 64 ≡ k = omega arith in
    let two : (128 + k) / 64 ≡ 2 = omega arith in
    (ap (λ (n : ℕ). n % 2) two, ap (λ (t : Bool). cond t (Action.input ((128 + k) % 64)) (Action.output ((128 + k) % 64))) (ne_eqb ((128 + k) / 128) 0 q) ∙ ap Action.output r)

-- One entry, with anything behind it.
module _ (least : ℕ) (e : Entry) (rest : List ℕ) (order : least ≤ first_byte e.action) (good : EntryGood e) where
  abbrev l : List ℕ
  l = entry_form e ++ rest

  name_back : name_read l ≡ e.name
  name_back = take-append_seam e.name rest

  size_back : entry_size l ≡ length (entry_form e)
  size_back = let a : 2 + length e.name ≡ suc (suc (length e.name)) = omega arith in a

  rest_back : drop (entry_size l) l ≡ rest
  rest_back = ap (λ (n : ℕ). drop n l) size_back ∙ drop-append_seam (entry_form e) rest

  entry_back : entry_read l ≡ e
  entry_back = λ i. record { action = (first_good e.action good.action_fits).1 i; name = name_back i }

  entry-taken : entry_broken least l ≡ false
  unfolding entry_broken
  entry-taken =
      neither (le-ltb (length l) (entry_size l) (omega (arith, length-append e.name rest)))
      (neither (ap not (eq-eqb (first_byte e.action / 64 % 2) 0 (first_good e.action good.action_fits).0))
      (neither (le-ltb (first_byte e.action) least order)
      (neither (neither (le-ltb (length e.name) 1 good.some) (le-ltb 40 (length e.name) good.most))
      (ap any_outside name_back ∙ none-outside e.name good.inside))))

-- They are taken and read back.
pub record Back (most least : ℕ) (es : List Entry) : Type 0 where
  pub taken : entries_broken most least (list_form es) ≡ false
  pub read : entries_read most (list_form es) ≡ es

back : (es : List Entry) (most least : ℕ) → length (list_form es) ≤ most → Rising least es → Back most least es
unfolding list_form Rising
back [] most least h r = record { taken = broken-end most least [] (omega arith); read = read-end most [] (omega arith) }
back (e ∷ es) zero least h r = absurd (omega (arith, length-append (entry_form e) (list_form es)))
back (e ∷ es) (suc most) least h r =
    let rest = back es most (suc (first_byte e.action)) (omega (arith, length-append e.name (list_form es))) r.2 in
    let l = entry_form e ++ list_form es in
    record {
      taken =
          broken_step most least l (omega arith)
          ∙ neither (entry-taken least e (list_form es) r.0 r.1)
          (ap (entries_broken most (suc (first_byte e.action))) (rest_back least e (list_form es) r.0 r.1) ∙ rest.taken);
      read =
          read_step most l (omega arith)
          ∙ ap₂ ◌∷◌ (entry_back least e (list_form es) r.0 r.1)
          (ap (entries_read most) (rest_back least e (list_form es) r.0 r.1) ∙ rest.read);
    }

-- Entries by the rules, in at most 8,192 bytes, are taken, and are the entries of their packing.
pub packed_good : (es : List Entry) → Rising 0 es → length (list_form es) ≤ 8192 → (list_broken (list_form es) ≡ false) × (entries (list_form es) ≡ es)
unfolding list_broken entries
packed_good es r h =
    let b = back es (length (list_form es)) 0 (omega arith) r in
    (neither (le-ltb 8192 (length (list_form es)) h) b.taken, b.read)

-- ---- at most one entry for an action

pub behind-above : (least : ℕ) (ys : List Entry) (f : Entry) (zs : List Entry) → Rising least (ys ++ (f ∷ zs)) → least ≤ first_byte f.action
unfolding Rising
behind-above least [] f zs r = r.0
behind-above least (y ∷ ys) f zs r = omega (arith, r.0, behind-above (suc (first_byte y.action)) ys f zs r.2)

pub one_entry : (least : ℕ) (xs : List Entry) (e : Entry) (ys : List Entry) (f : Entry) (zs : List Entry) → Rising least (xs ++ (e ∷ (ys ++ (f ∷ zs)))) → e.action ≡ f.action → ⊥
unfolding Rising
one_entry least [] e ys f zs r same = omega (arith, behind-above (suc (first_byte e.action)) ys f zs r.2, ap first_byte same)
one_entry least (x ∷ xs) e ys f zs r same = one_entry (suc (first_byte x.action)) xs e ys f zs r.2 same
