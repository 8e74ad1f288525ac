-- Where a name stands in a list that is not broken.
use Prim.Native.Nat.{ℕ, zero, suc, ◌+◌, ◌≤◌, ◌<◌}
use mathlib.Core.Path.{◌≡◌, refl, sym, ◌∙◌, ap, ap₂, subst}
use mathlib.Core.Bool.{Bool, true, false, cond}
use mathlib.Core.List.{List, [], ◌∷◌}
use native.Mathlib.Nat.{zero-add, add-zero}
use native.Mathlib.Omega.{arith}
use lib.ListN.{length, take, drop, length-drop}
use lib.Seq.{drop-drop}
use lib.Dec.{ltb, eqb}
use denote.Ref.{Bor}
use borrow.Author.Tests.{ltb-true, ltb-false, eq-eqb, ne_eqb}
use Rattle.name_list.specs.Names.{Entry, first_byte, entry_form, first, name_size, entry_size, entry_read, entries_broken, list_broken, entries_read, entries}
use Rattle.name_list.specs.declared.Front.{Front}
use Rattle.name_list.specs.Front.{IsFront}
use Rattle.names.specs.Lookup.{Span, name_span, Part}
use Rattle.name_list.proofs.Good.{byte_read, good_entries}
use Rattle.name_list.proofs.Lists.{Good, good_step, read_step, read-end, name-long}

-- A part, so many bytes on.
abbrev pub shifted : ℕ → Span → Span
shifted i p = record { start = i + p.start; size = p.size }

-- What a lookup has left from byte i on: entries that break no rule, and the name where the whole list has it.
pub record Left (list : List ℕ) (wanted i : ℕ) : Type 0 where
  pub most : ℕ
  pub least : ℕ
  pub good : entries_broken most least (drop i list) ≡ false
  pub span : name_span (entries list) wanted ≡ shifted i (name_span (entries_read most (drop i list)) wanted)

pub left-all : (list : List ℕ) (wanted : ℕ) → list_broken list ≡ false → Left list wanted 0
left-all list wanted e =
    record { most = length list; least = 0; good = good_entries list e; span = all }
  where
    shift_none : (p : Span) → p ≡ shifted 0 p
    shift_none p = λ i. record { start = sym (zero-add p.start) i; size = p.size }

    all : name_span (entries list) wanted ≡ shifted 0 (name_span (entries_read (length list) list) wanted)
    all = unfold entries in (shift_none (name_span (entries_read (length list) list) wanted))

-- the name of the entry at the front, or of one behind it
pub span_by : (e : Entry) (rest : List Entry) (wanted : ℕ) (t : Bool) → eqb (first_byte e.action) wanted ≡ t
    → name_span (e ∷ rest) wanted ≡ cond t (record { start = 2; size = length e.name }) (shifted (length (entry_form e)) (name_span rest wanted))
unfolding name_span
span_by e rest wanted t h =
    ap (λ (b : Bool). cond b (record { start = 2; size = length e.name }) (shifted (length (entry_form e)) (name_span rest wanted))) h

-- A name stands inside its list, and has at most 40 bytes.
pub record Inside (p : Span) (l : List ℕ) : Type 0 where
  pub within : p.start + p.size ≤ length l
  pub short : p.size ≤ 40

inside-none : (l : List ℕ) (wanted : ℕ) (es : List Entry) → es ≡ [] → Inside (name_span es wanted) l
inside-none l wanted es e = subst (λ (x : List Entry). Inside (name_span x wanted) l) (sym e) none
  where
    none : Inside (name_span [] wanted) l
    none = unfold name_span in (record { within = omega arith; short = omega arith })

-- one entry more at the front
module _ (most least : ℕ) (l : List ℕ) (wanted : ℕ) (e : entries_broken (suc most) least l ≡ false)
    (on : entries_broken most (suc (first l)) (drop (entry_size l) l) ≡ false → Inside (name_span (entries_read most (drop (entry_size l) l)) wanted) (drop (entry_size l) l)) where
  abbrev behind : List ℕ
  behind = drop (entry_size l) l

  inside_by : Good (suc most) least l → (t : Bool) → eqb (first_byte (entry_read l).action) wanted ≡ t → Inside (name_span (entry_read l ∷ entries_read most behind) wanted) l
  inside_by step true h =
      subst (λ (p : Span). Inside p l) (sym (span_by (entry_read l) (entries_read most behind) wanted true h))
      (record {
        within = omega (arith, step.whole.there, name-long least l step.whole);
        short = omega (arith, step.whole.most, name-long least l step.whole);
      })
  inside_by step false h =
      let same : most ≡ step.less = omega (arith, step.counted) in
      let rest = on (ap (λ (n : ℕ). entries_broken n (suc (first l)) behind) same ∙ step.behind) in
      subst (λ (p : Span). Inside p l) (sym (span_by (entry_read l) (entries_read most behind) wanted false h))
      (record {
        within = omega (arith, rest.within, length-drop (entry_size l) l, step.whole.there, name-long least l step.whole);
        short = rest.short;
      })

  inside_step : (t : Bool) → (t ≡ true → 0 < length l) → (t ≡ false → length l ≤ 0) → Inside (name_span (entries_read (suc most) l) wanted) l
  inside_step false y n = inside-none l wanted (entries_read (suc most) l) (read-end (suc most) l (n refl))
  inside_step true y n =
      subst (λ (es : List Entry). Inside (name_span es wanted) l) (sym (read_step most l (y refl)))
      (inside_by (good_step (suc most) least l (y refl) e) (eqb (first_byte (entry_read l).action) wanted) refl)

span-inside : (most least : ℕ) (l : List ℕ) (wanted : ℕ) → entries_broken most least l ≡ false → Inside (name_span (entries_read most l) wanted) l
span-inside zero least l wanted e = inside-none l wanted (entries_read zero l) (unfold entries_read in refl)
span-inside (suc most) least l wanted e =
    inside_step most least l wanted e (λ f. span-inside most (suc (first l)) (drop (entry_size l) l) wanted f)
    (ltb 0 (length l)) (ltb-true 0 (length l)) (ltb-false 0 (length l))

pub name-inside : (list : List ℕ) (wanted : ℕ) → list_broken list ≡ false → Inside (name_span (entries list) wanted) list
unfolding entries
name-inside list wanted e = span-inside (length list) 0 list wanted (good_entries list e)

module _ (list : List ℕ) (wanted i : ℕ) (left : Left list wanted i) where
  abbrev l : List ℕ
  l = drop i list

  -- no entry can be split off: nothing is left
  pub left_end : i ≤ length list → length l < entry_size l → name_span (entries list) wanted ≡ record { start = length list; size = 0 }
  left_end at h = go (ltb 0 (length l)) (ltb-true 0 (length l)) (ltb-false 0 (length l))
    where
      none : i ≡ length list → shifted i (name_span [] wanted) ≡ record { start = length list; size = 0 }
      none same = unfold name_span in (λ j. record { start = (add-zero i ∙ same) j; size = 0 })

      go : (t : Bool) → (t ≡ true → 0 < length l) → (t ≡ false → length l ≤ 0) → name_span (entries list) wanted ≡ record { start = length list; size = 0 }
      go true y n = absurd (omega (arith, (good_step left.most left.least l (y refl) left.good).whole.there))
      go false y n =
          left.span
          ∙ ap (λ (es : List Entry). shifted i (name_span es wanted)) (read-end left.most l (n refl))
          ∙ none (omega (arith, n refl, length-drop i list))

  module _ (h : 0 < length l) (small : first l < 256) where
    step : Good left.most left.least l
    step = good_step left.most left.least l h left.good

    own : first_byte (entry_read l).action ≡ first l
    own = byte_read (first l) small step.whole.zero_bit

    long : length (entry_read l).name ≡ name_size l
    long = name-long left.least l step.whole

    abbrev later : List Entry
    later = entries_read step.less (drop (entry_size l) l)

    read : entries_read left.most l ≡ entry_read l ∷ later
    read = ap (λ (n : ℕ). entries_read n l) step.counted ∙ read_step step.less l h

    by : (t : Bool) → eqb (first l) wanted ≡ t
        → name_span (entries list) wanted
        ≡ shifted i (cond t (record { start = 2; size = name_size l }) (shifted (entry_size l) (name_span later wanted)))
    by t e =
        left.span
        ∙ ap (λ (es : List Entry). shifted i (name_span es wanted)) read
        ∙ ap (shifted i) (span_by (entry_read l) later wanted t (ap (λ (b : ℕ). eqb b wanted) own ∙ e))
        ∙ ap₂ (λ (n m : ℕ). shifted i (cond t (record { start = 2; size = n }) (shifted m (name_span later wanted)))) long
        (let a : length (entry_form (entry_read l)) ≡ entry_size l = omega (arith, long) in a)

    pub left_here : first l ≡ wanted → name_span (entries list) wanted ≡ record { start = i + 2; size = name_size l }
    left_here e = by true (eq-eqb (first l) wanted e)

    pub left_on : (first l ≡ wanted → ⊥) → Left list wanted (i + entry_size l)
    left_on e =
        let next : drop (entry_size l) l ≡ drop (i + entry_size l) list = drop-drop (entry_size l) i list in
        record {
          most = step.less;
          least = suc (first l);
          good = ap (entries_broken step.less (suc (first l))) (sym next) ∙ step.behind;
          span =
              by false (ne_eqb (first l) wanted e)
              ∙ ap (λ (x : List ℕ). shifted i (shifted (entry_size l) (name_span (entries_read step.less x) wanted))) next
              ∙ further (name_span (entries_read step.less (drop (i + entry_size l) list)) wanted);
        }
      where
        further : (p : Span) → shifted i (shifted (entry_size l) p) ≡ shifted (i + entry_size l) p
        further p =
            let a : i + (entry_size l + p.start) ≡ i + entry_size l + p.start = omega arith in
            λ j. record { start = a j; size = p.size }

-- ---- a part of a slice

pub part_at : (p : Span) (s r : Bor (List ℕ)) (start size : ℕ) → p ≡ record { start = start; size = size } → r.ref_ptr.0 ≡ s.ref_ptr.0 → r.ref_ptr.1 ≡ s.ref_ptr.1 + start
    → r.now ≡ take size (drop start s.now) → Part p s r
part_at p s r start size e a b h =
    subst (λ (q : Span). Part q s r) (sym e) (record { place = λ i. (a i, b i); bytes = h })

-- what is left of a list from a byte on, as a part of it
abbrev pub left_of : Bor (List ℕ) → ℕ → Bor (List ℕ)
left_of list at = record { ref_ptr = (list.ref_ptr.0, list.ref_ptr.1 + at); now = drop at list.now }

pub front_at : (list s : Bor (List ℕ)) (at : ℕ) (f : Front) → s.ref_ptr.0 ≡ list.ref_ptr.0 → s.ref_ptr.1 ≡ list.ref_ptr.1 + at → s.now ≡ drop at list.now
    → IsFront s f → IsFront (left_of list at) f
front_at list s at f a b h front =
    subst (λ (x : Bor (List ℕ)). IsFront x f) (λ i. record { ref_ptr = (a i, b i); now = h i }) front
