-- The rows of a front through one line: what closing leaves, what a new input and an output make of it; and with one cut alone.
use Prim.Native.Nat.{ℕ, suc, ◌+◌, ◌*◌, ◌-◌, ◌≤◌, ◌<◌}
use mathlib.Core.Path.{◌≡◌, refl, sym, ap, ap₂, ◌∙◌, subst}
use mathlib.Core.Bool.{Bool, true, false}
use mathlib.Core.List.{List, []}
use native.Mathlib.Nat.{add-zero, add-suc}
use native.Mathlib.Numerals.{add-one}
use native.Mathlib.Omega.{arith}
use lib.ListN.{length}
use lib.Dec.{eqb}
use borrow.Author.Tests.{le-leb, lt-leb, eqb-true, eqb-false}
use Rattle.laws.specs.Places.{first}
use Rattle.laws.proofs.Places.{first-same, length-first}
use Rattle.meaning.specs.Words.{Action, Line}
use Rattle.meaning.specs.Limits.{last_stamp}
use Rattle.meaning.specs.Numbers.{property_refusal}
use Rattle.meaning.specs.Matcher.{Lengths}
use Rattle.meaning.specs.Step.{Held, Front, lengths}
use Rattle.meaning.proofs.Fronts.{closed-first, input_by, open_after_output, open_after_input}
use Rattle.property.specs.Meant.{action_of, meant}
use Rattle.property.specs.declared.Property.{Property}
use Rattle.matcher.specs.declared.Cut.{Cut}
use Rattle.matcher.specs.Sets.{set_of, Fits, Moved}
use Rattle.rows.specs.declared.Span.{Span}
use Rattle.rows.specs.Rows.{longer, shorter, word, with, Room}
use Rattle.rows.proofs.Rows.{tall-with, room-with, word_here, word-there, word_elsewhere, count-longer, word-longer, room-longer, count-shorter, word-shorter, room-shorter}
use Rattle.held.specs.Held.{line_at, with_input, Closes}
use Rattle.cuts.specs.Steps.{line_of, front_closed, front_then, front_after}
use Rattle.cuts.specs.Fronts.{cut_at, with_cut, set_at, held_at, front_of, Usable, Holds, Appended}
use Rattle.cuts.proofs.Sweeps.{cut_same, line_same, held_same, line_kept, cut_tall, cut_room, cut_others, cut_here, cut_there}

-- ---- closing: the first d give their places up, and nothing is moved

module _ (p : Property) (rows : List (List ℕ)) (s : Span) (j T d : ℕ) (usable : Usable p rows s j) (closes : Closes p.ub rows s T d) where
  cut_left : (i : ℕ) → cut_at rows (shorter s d) j i ≡ cut_at rows s j (d + i)
  cut_left i = cut_same _ _ _ _ (word-shorter rows s d (2 + 2 * j) i) (word-shorter rows s d (3 + 2 * j) i)

  held-left : (i : ℕ) → i < s.count - d → held_at rows (shorter s d) j i ≡ held_at rows s j (d + i)
  held-left i h =
      held_same _ _ _ _ (line_same _ _ _ _ (word-shorter rows s d 1 i) (word-shorter rows s d 0 i))
      (ap set_of (cut_left (suc i) ∙ ap (cut_at rows s j) (add-suc d i)))

  pub front-left : front_of rows (shorter s d) j ≡ front_closed p T (set_at rows s j 0) (first (held_at rows s j) s.count)
  front-left =
      ap₂ (λ (x : Lengths) (l : List (Held Lengths)). record { before = x; held = l })
      (ap set_of (cut_left 0 ∙ ap (cut_at rows s j) (add-zero d)))
      (ap (first (held_at rows (shorter s d) j)) (count-shorter s d)
      ∙ first-same (held_at rows (shorter s d) j) (λ i. held_at rows s j (d + i)) (s.count - d) held-left)
      ∙ sym
      (closed-first (meant p) (lengths (meant p)) T (line_at rows s) (set_at rows s j) d s.count closes.within
      (λ i l. lt-leb T (word rows s 0 i + 2 * p.ub) (closes.closed i l))
      (λ l. le-leb T (word rows s 0 d + 2 * p.ub) (closes.next l)))

  pub usable-left : Usable p rows (shorter s d) j
  usable-left =
      let counted : (shorter s d).count ≡ s.count - d = count-shorter s d in
      let some : d ≤ s.count = closes.within in
      record {
        formed = usable.formed;
        room = room-shorter rows s d usable.room;
        there = usable.there;
        stamps = λ i l. subst (λ (x : ℕ). x ≤ last_stamp) (sym (word-shorter rows s d 0 i)) (usable.stamps (d + i) (omega arith));
        fits = λ i l. subst (Fits p) (sym (cut_left i)) (usable.fits (d + i) (omega arith));
      }

-- ---- a new input: one cut more, then its stamp and number behind the last

pub rows-appended : (p : Property) (rows after : List (List ℕ)) (s : Span) (j action n : ℕ) (c : Cut) → Usable p rows s j → s.count < 64 → n ≡ s.count + 1
    → Moved p (cut_at rows s j s.count) (Action.input action) c → after ≡ with_cut rows s j n c → Appended p s j action rows after
rows-appended p rows after s j action n c u few e m q =
    subst (Appended p s j action rows) (sym (q ∙ ap (λ (i : ℕ). with_cut rows s j i c) (e ∙ add-one s.count)))
    (record {
      tall = cut_tall rows s j (suc s.count) c u.room u.there few;
      others = cut_others rows s j (suc s.count) c u.room u.there few;
      room = cut_room rows s j (suc s.count) c u.room u.there few;
      moved = subst (Moved p (cut_at rows s j s.count) (Action.input action)) (sym (cut_here rows s j (suc s.count) c u.room u.there few)) m;
      kept = λ i h. cut_there rows s j (suc s.count) c u.room u.there few i (omega arith) (λ (w : i ≡ suc s.count). omega arith);
    })

module _ (p : Property) (before mid : List (List ℕ)) (s : Span) (j action stamp : ℕ) (usable : Usable p before s j) (few : s.count < 64) (in_time : stamp ≤ last_stamp)
    (new : Appended p s j action before mid) where
  abbrev half : List (List ℕ)
  half = with mid s 0 s.count stamp

  abbrev after : List (List ℕ)
  after = with_input mid s action stamp

  shared : 1 < length mid
  shared = new.room.shared

  half_room : Room half s
  half_room = room-with mid s 0 s.count stamp new.room (omega (arith, shared)) (omega arith)

  half_shared : 1 < length half
  half_shared = half_room.shared

  -- what stands in the rows then
  stamp-last : word after s 0 s.count ≡ stamp
  stamp-last =
      word_elsewhere half s 1 s.count action 0 s.count (λ (e : 0 ≡ 1). omega arith)
      ∙ word_here mid s 0 s.count stamp new.room (omega (arith, shared)) (omega arith)

  number-last : word after s 1 s.count ≡ action
  number-last = word_here half s 1 s.count action half_room half_shared (omega arith)

  stamp-kept : (i : ℕ) → i < s.count → word after s 0 i ≡ word before s 0 i
  stamp-kept i h =
      word_elsewhere half s 1 s.count action 0 i (λ (e : 0 ≡ 1). omega arith)
      ∙ word-there mid s 0 s.count stamp new.room (omega (arith, shared)) (omega arith) i (omega arith) (λ (e : i ≡ s.count). omega arith)
      ∙ ap (λ (l : Line). l.stamp) (line_kept s j before mid new.others i)

  number-kept : (i : ℕ) → i < s.count → word after s 1 i ≡ word before s 1 i
  number-kept i h =
      word-there half s 1 s.count action half_room half_shared (omega arith) i (omega arith) (λ (e : i ≡ s.count). omega arith)
      ∙ word_elsewhere mid s 0 s.count stamp 1 i (λ (e : 1 ≡ 0). omega arith)
      ∙ new.others 1 i (λ (e : 1 ≡ 2 + 2 * j). omega arith) (λ (e : 1 ≡ 3 + 2 * j). omega arith)

  cut_after : (i : ℕ) → cut_at after (longer s) j i ≡ cut_at mid s j i
  cut_after i = cut_same _ _ _ _ (own (2 + 2 * j) (λ (e : 2 + 2 * j ≡ 0). omega arith) (λ (e : 2 + 2 * j ≡ 1). omega arith))
      (own (3 + 2 * j) (λ (e : 3 + 2 * j ≡ 0). omega arith) (λ (e : 3 + 2 * j ≡ 1). omega arith))
    where
      own : (k : ℕ) → (k ≡ 0 → ⊥) → (k ≡ 1 → ⊥) → word after (longer s) k i ≡ word mid s k i
      own k x y = word-longer after s k i ∙ word_elsewhere half s 1 s.count action k i y ∙ word_elsewhere mid s 0 s.count stamp k i x

  line-long : (i : ℕ) → line_at after (longer s) i ≡ line_at after s i
  line-long i = line_same _ _ _ _ (word-longer after s 1 i) (word-longer after s 0 i)

  pub holds-appended : Holds p (front_then p (Action.input action) (line_of false action stamp) (front_of before s j)) after (longer s) j
  holds-appended =
      record {
        front =
            ap (λ (n : ℕ). record { before = set_at after (longer s) j 0; held = first (held_at after (longer s) j) n }) (count-longer s)
            ∙ sym
            (input_by (meant p) (lengths (meant p)) action (line_of false action stamp) (line_at before s) (line_at after (longer s)) (set_at before s j)
            (set_at after (longer s) j) s.count
            (λ i h. sym (line-long i ∙ line_same _ _ _ _ (number-kept i h) (stamp-kept i h)))
            (sym (line-long s.count ∙ line_same _ _ _ _ number-last stamp-last))
            (λ i h. ap set_of (sym (cut_after i ∙ new.kept i (omega arith))))
            (sym (ap set_of (cut_after (suc s.count)) ∙ new.moved.set stamp)));
        usable =
            record {
              formed = usable.formed;
              room = room-longer after s (room-with half s 1 s.count action half_room half_shared (omega arith)) few;
              there = subst (λ (n : ℕ). 3 + 2 * j < n) (sym (tall-with half s 1 s.count action ∙ tall-with mid s 0 s.count stamp ∙ new.tall)) usable.there;
              stamps = λ i h. stamps i (subst (λ (n : ℕ). i < n) (count-longer s) h) (eqb i s.count) (eqb-true i s.count) (eqb-false i s.count);
              fits = λ i h. fits i (subst (λ (n : ℕ). i ≤ n) (count-longer s) h) (eqb i (suc s.count)) (eqb-true i (suc s.count)) (eqb-false i (suc s.count));
            };
      }
    where
      stamps : (i : ℕ) → i < suc s.count → (x : Bool) → (x ≡ true → i ≡ s.count) → (x ≡ false → i ≡ s.count → ⊥) → word after (longer s) 0 i ≤ last_stamp
      stamps i h true y n = subst (λ (x : ℕ). x ≤ last_stamp) (sym (word-longer after s 0 i ∙ ap (word after s 0) (y refl) ∙ stamp-last)) in_time
      stamps i h false y n =
          let d : i ≡ s.count → ⊥ = n refl in
          subst (λ (x : ℕ). x ≤ last_stamp) (sym (word-longer after s 0 i ∙ stamp-kept i (omega arith))) (usable.stamps i (omega arith))

      fits : (i : ℕ) → i ≤ suc s.count → (x : Bool) → (x ≡ true → i ≡ suc s.count) → (x ≡ false → i ≡ suc s.count → ⊥) → Fits p (cut_at after (longer s) j i)
      fits i h true y n = subst (Fits p) (sym (cut_after i ∙ ap (cut_at mid s j) (y refl))) new.moved.fits
      fits i h false y n =
          let d : i ≡ suc s.count → ⊥ = n refl in subst (Fits p) (sym (cut_after i ∙ new.kept i (omega arith))) (usable.fits i (omega arith))

-- ---- a line: closing, and then the one or the other

pub line_after : (p : Property) (f g : Front Lengths) (action stamp : ℕ) (output output' : Bool) → g ≡ front_closed p stamp f.before f.held → output ≡ output'
    → front_then p (action_of output' action) (line_of output' action stamp) g ≡ front_after p f (line_of output action stamp)
line_after p f g action stamp output output' e q =
    ap (front_then p (action_of output' action) (line_of output' action stamp)) e ∙ ap (λ (o : Bool). front_after p f (line_of o action stamp)) (sym q)

pub holds_as : (p : Property) (f g : Front Lengths) (rows : List (List ℕ)) (s : Span) (j : ℕ) → f ≡ g → Holds p f rows s j → Holds p g rows s j
holds_as p f g rows s j e h = record { front = h.front ∙ e; usable = h.usable }

pub holds-count : (p : Property) (f : Front Lengths) (rows : List (List ℕ)) (s : Span) (j : ℕ) → Holds p f rows s j → s.count ≡ length f.held
holds-count p f rows s j h = sym (length-first (held_at rows s j) s.count) ∙ ap (λ (g : Front Lengths). length g.held) h.front

-- How many are open after a line, from the number closed.
module _ (p : Property) (rows : List (List ℕ)) (s : Span) (j action stamp d : ℕ) (closes : Closes p.ub rows s stamp d) where
  closed_is : front_closed p stamp (set_at rows s j 0) (first (held_at rows s j) s.count)
      ≡ record { before = set_at rows s j d; held = first (λ i. held_at rows s j (d + i)) (s.count - d) }
  closed_is =
      closed-first (meant p) (lengths (meant p)) stamp (line_at rows s) (set_at rows s j) d s.count closes.within
      (λ i l. lt-leb stamp (word rows s 0 i + 2 * p.ub) (closes.closed i l))
      (λ l. le-leb stamp (word rows s 0 d + 2 * p.ub) (closes.next l))

  pub open_at-output : (output : Bool) → output ≡ true → s.count - d ≡ length (front_after p (front_of rows s j) (line_of output action stamp)).held
  open_at-output output q =
      sym (length-first (λ i. held_at rows s j (d + i)) (s.count - d))
      ∙ open_after_output (meant p) (lengths (meant p)) action (line_of true action stamp) _ _ closed_is
      ∙ ap (λ (o : Bool). length (front_after p (front_of rows s j) (line_of o action stamp)).held) (sym q)

  pub open_at-input : (output : Bool) → output ≡ false → s.count - d + 1 ≡ length (front_after p (front_of rows s j) (line_of output action stamp)).held
  open_at-input output q =
      add-one (s.count - d)
      ∙ ap suc (sym (length-first (λ i. held_at rows s j (d + i)) (s.count - d)))
      ∙ open_after_input (meant p) (lengths (meant p)) action (line_of false action stamp) _ _ closed_is
      ∙ ap (λ (o : Bool). length (front_after p (front_of rows s j) (line_of o action stamp)).held) (sym q)

-- ---- no open input: one cut stands alone

pub holds-one : (p : Property) (rows : List (List ℕ)) (s : Span) (j : ℕ) (c : Cut) → property_refusal (meant p) ≡ 0 → Room rows s → 3 + 2 * j < length rows → s.count ≡ 0 → Fits p c
    → Holds p (record { before = set_of c; held = [] }) (with_cut rows s j 0 c) s j
unfolding first
holds-one p rows s j c good room there none fit =
    record {
      front =
          ap₂ (λ (x : Lengths) (n : ℕ). record { before = x; held = first (held_at (with_cut rows s j 0 c) s j) n })
          (ap set_of (cut_here rows s j 0 c room there (omega arith))) none;
      usable =
          record {
            formed = good;
            room = cut_room rows s j 0 c room there (omega arith);
            there = subst (λ (n : ℕ). 3 + 2 * j < n) (sym (cut_tall rows s j 0 c room there (omega arith))) there;
            stamps = λ i h. let z : ⊥ = omega arith in absurd z;
            fits = λ i h.
                let q : i ≡ 0 = omega arith in
                subst (Fits p) (sym (ap (cut_at (with_cut rows s j 0 c) s j) q ∙ cut_here rows s j 0 c room there (omega arith))) fit;
          };
    }
