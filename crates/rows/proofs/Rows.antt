-- Laws of rows, above which no crate knows where an index stands: what a store changes, and spans.
use Prim.Native.Nat.{ℕ, suc, ◌+◌, ◌-◌, ◌≤◌, ◌<◌}
use mathlib.Core.Path.{◌≡◌, refl, sym, ap, subst, ◌∙◌}
use mathlib.Core.Bool.{Bool, true, false}
use mathlib.Core.List.{List, []}
use native.Mathlib.Omega.{arith}
use native.Mathlib.Numerals.{add-one}
use lib.ListN.{length, get_or, set, length-set}
use lib.Seq.{get_or-set_same, get_or-set_other}
use lib.Dec.{eqb}
use borrow.Author.Tests.{eqb-true, eqb-false}
use Rattle.rows.specs.declared.Span.{Span}
use Rattle.rows.specs.Rows.{spanning, none, place, longer, shorter, word, with, Within, Room}

-- Places: each is one of the 65, two indices have two,
place-below : (s : Span) (i : ℕ) → place s i < 65
unfolding place
place-below s i = omega arith

place-one : (s : Span) (i j : ℕ) → i ≤ 64 → j ≤ 64 → place s i ≡ place s j → i ≡ j
unfolding place
place-one s i j h k e = omega (arith, e)

-- from the first place on an index stands at its own, and the places of those that are left are the ones they had.
place-first : (n i : ℕ) → i ≤ 64 → place (spanning n) i ≡ i
unfolding place
place-first n i h = omega arith

place-left : (s : Span) (d i : ℕ) → place (shorter s d) i ≡ place s (d + i)
unfolding place shorter
place-left s d i = omega arith

-- A store
module _ (rows : List (List ℕ)) (s : Span) (k i v : ℕ) where
  pub tall-with : length (with rows s k i v) ≡ length rows
  unfolding with
  tall-with = length-set rows k _

  -- changes no other row,
  row_there : (m : ℕ) → (m ≡ k → ⊥) → get_or (with rows s k i v) m [] ≡ get_or rows m []
  unfolding with
  row_there m d = get_or-set_other rows k m _ [] d

  pub word_elsewhere : (m j : ℕ) → (m ≡ k → ⊥) → word (with rows s k i v) s m j ≡ word rows s m j
  unfolding word
  word_elsewhere m j d = ap (λ (l : List ℕ). get_or l (place s j) 0) (row_there m d)

  module _ (room : Room rows s) (x : k < length rows) (y : i ≤ 64) where
    row_here : get_or (with rows s k i v) k [] ≡ set (get_or rows k []) (place s i) v
    unfolding with
    row_here = get_or-set_same rows k _ [] x

    -- leaves every row its places,
    pub room-with : Room (with rows s k i v) s
    room-with =
        record {
          long = λ m z. long m (subst (λ (n : ℕ). m < n) tall-with z) (eqb m k) (eqb-true m k) (eqb-false m k);
          shared = subst (λ (n : ℕ). 1 < n) (sym tall-with) room.shared;
          within = room.within;
        }
      where
        long : (m : ℕ) → m < length rows → (t : Bool) → (t ≡ true → m ≡ k) → (t ≡ false → m ≡ k → ⊥) → length (get_or (with rows s k i v) m []) ≡ 65
        long m z true t f =
            ap (λ (j : ℕ). length (get_or (with rows s k i v) j [])) (t refl) ∙ ap length row_here ∙ length-set (get_or rows k []) (place s i) v ∙ room.long k x
        long m z false t f = ap length (row_there m (f refl)) ∙ room.long m z

    -- changes the one word,
    pub word_here : word (with rows s k i v) s k i ≡ v
    unfolding word
    word_here =
        ap (λ (l : List ℕ). get_or l (place s i) 0) row_here
        ∙ get_or-set_same (get_or rows k []) (place s i) v 0 (subst (λ (n : ℕ). place s i < n) (sym (room.long k x)) (place-below s i))

    -- and no other of its row.
    pub word-there : (j : ℕ) → j ≤ 64 → (j ≡ i → ⊥) → word (with rows s k i v) s k j ≡ word rows s k j
    unfolding word
    word-there j z d =
        ap (λ (l : List ℕ). get_or l (place s j) 0) row_here
        ∙ get_or-set_other (get_or rows k []) (place s i) (place s j) v 0 (λ e. d (place-one s j i z y e))

-- Spans: so many from the first place on,
pub word-spanning : (rows : List (List ℕ)) (n k i : ℕ) → i ≤ 64 → word rows (spanning n) k i ≡ get_or (get_or rows k []) i 0
unfolding word
word-spanning rows n k i h = ap (λ (j : ℕ). get_or (get_or rows k []) j 0) (place-first n i h)

pub within_none : Within none
within_none = record { begins = omega arith; few = omega arith }

pub room-none : (rows : List (List ℕ)) (s : Span) → Room rows s → Room rows none
room-none rows s r = record { long = r.long; shared = r.shared; within = within_none }

-- one more than before,
pub count-longer : (s : Span) → (longer s).count ≡ suc s.count
unfolding longer
count-longer s = add-one s.count

pub word-longer : (rows : List (List ℕ)) (s : Span) (k i : ℕ) → word rows (longer s) k i ≡ word rows s k i
unfolding word longer place
word-longer rows s k i = refl

begins-longer : (s : Span) → s.start ≤ 64 → (longer s).start ≤ 64
unfolding longer
begins-longer s h = h

pub room-longer : (rows : List (List ℕ)) (s : Span) → Room rows s → s.count < 64 → Room rows (longer s)
room-longer rows s r h = record { long = r.long; shared = r.shared; within = record { begins = begins-longer s r.within.begins; few = omega (arith, count-longer s) } }

-- and without the first d: what is left stands where it stood.
pub count-shorter : (s : Span) (d : ℕ) → (shorter s d).count ≡ s.count - d
unfolding shorter
count-shorter s d = refl

pub word-shorter : (rows : List (List ℕ)) (s : Span) (d k i : ℕ) → word rows (shorter s d) k i ≡ word rows s k (d + i)
unfolding word
word-shorter rows s d k i = ap (λ (j : ℕ). get_or (get_or rows k []) j 0) (place-left s d i)

begins-shorter : (s : Span) (d : ℕ) → (shorter s d).start ≤ 64
unfolding shorter
begins-shorter s d = let below : place s d < 65 = place-below s d in omega arith

pub room-shorter : (rows : List (List ℕ)) (s : Span) (d : ℕ) → Room rows s → Room rows (shorter s d)
room-shorter rows s d r =
    record { long = r.long; shared = r.shared; within = record { begins = begins-shorter s d; few = omega (arith, r.within.few, count-shorter s d) } }
