-- Moments can be given to an order exactly if each line may stand before each later one, as far as the two go.
use Prim.Native.Nat.{ℕ, ◌+◌, ◌*◌, ◌≤◌, max}
use mathlib.Core.List.{List, [], ◌∷◌, ◌++◌}
use mathlib.Core.Path.{◌≡◌}
use mathlib.Core.Bool.{false, ◌||◌}
use native.Mathlib.Omega.{arith}
use lib.ListN.{length}
use lib.Dec.{ltb}
use borrow.Author.Tests.{ltb-false}
use lib.IntN.{ℤ, pos, ◌-ℤ◌}
use lib.Signed.{◌≤ℤ◌}
use Rattle.laws.proofs.Tests.{or_split}
use Rattle.meaning.specs.Limits.{last_bound}
use Rattle.meaning.specs.Words.{Action, Property, Line}
use Rattle.meaning.specs.Node.{Window, Given, NeverFall, Timed}
use Rattle.meaning.specs.Numbers.{length_outside, bounds_outside, property_refusal}
use Rattle.meaning.proofs.Refusals.{none_first}
use Rattle.meaning.proofs.Whole.{le_out, le_in, minus_sum}
use Rattle.meaning.proofs.Lists.{All, done, also, all_head, all_tail, all_append, all_left, all_right, all_map, all_both, all_of}

-- bounds that refusal 2 lets through, as far as the theorems need them
pub record Bounds (p : Property) : Type 0 where
  pub least : 1 ≤ p.LB
  pub order : p.LB ≤ p.UB

-- a property that no refusal names has such bounds
pub good_bounds : (p : Property) → property_refusal p ≡ 0 → Bounds p
good_bounds p e =
    let f : bounds_outside p.LB p.UB ≡ false =
    (none_first 1 (bounds_outside p.LB p.UB) (none_first 0 (length_outside (length p.sequence)) e).1).0 in
    let g : (ltb p.LB 1 || ltb p.UB p.LB ≡ false) × (ltb last_bound p.UB ≡ false) =
    or_split (ltb p.LB 1 || ltb p.UB p.LB) (ltb last_bound p.UB) f in
    let h : (ltb p.LB 1 ≡ false) × (ltb p.UB p.LB ≡ false) = or_split (ltb p.LB 1) (ltb p.UB p.LB) g.0 in
    record { least = ltb-false p.LB 1 h.0; order = ltb-false p.UB p.LB h.1 }

abbrev pub Stand : Property → Action → ℕ → Action → ℕ → Type 0
Stand p (Action.input j) a (Action.input k) b = a + p.LB ≤ b + p.UB
Stand p (Action.input j) a (Action.output k) b = a + 2 * p.LB ≤ b
Stand p (Action.output j) b (Action.input k) a = b ≤ a + 2 * p.UB
Stand p (Action.output j) a (Action.output k) b = a + p.LB ≤ b + p.UB

abbrev pub May : Property → Line → Line → Type 0
May p l m = Stand p l.action l.stamp m.action m.stamp

pub data Pairs (p : Property) : List Line → Type 0 where
  none : Pairs p []
  first : {l : Line} {ls : List Line} → All (May p l) ls → Pairs p ls → Pairs p (l ∷ ls)

-- each line of the first list may stand before each of the second
abbrev pub Cross : Property → List Line → List Line → Type 0
Cross p u v = All (λ x. All (May p x) v) u

pub pairs_append : {p : Property} {u v : List Line} → Pairs p u → Pairs p v → Cross p u v → Pairs p (u ++ v)
pairs_append none k c = k
pairs_append (first a r) k c = first (all_append a (all_head c)) (pairs_append r k (all_tail c))

pub pairs_left : {p : Property} (u v : List Line) → Pairs p (u ++ v) → Pairs p u
pairs_left [] v h = none
pairs_left (x ∷ u) v (first a r) = first (all_left u v a) (pairs_left u v r)

pub pairs_right : {p : Property} (u v : List Line) → Pairs p (u ++ v) → Pairs p v
pairs_right [] v h = h
pairs_right (x ∷ u) v (first a r) = pairs_right u v r

pub pairs_cross : {p : Property} (u v : List Line) → Pairs p (u ++ v) → Cross p u v
pairs_cross [] v h = done
pairs_cross (x ∷ u) v (first a r) = also (all_right u v a) (pairs_cross u v r)

pub never_fall_tail : (m : ℤ) (ms : List ℤ) → NeverFall (m ∷ ms) → NeverFall ms
never_fall_tail m [] h = tt
never_fall_tail m (n ∷ ms) h = h.1

-- from moments to pairs
module _ (p : Property) where
  window_stand : (x : Action) (a : ℕ) (y : Action) (b : ℕ) (m n : ℤ)
      → Window p x a m → Window p y b n → m ≤ℤ n → Stand p x a y b
  window_stand (Action.input j) a (Action.input k) b m n v w h =
      omega (arith, le_out v.0, le_out w.1, le_out h)
  window_stand (Action.input j) a (Action.output k) b m n v w h =
      omega (arith, le_out v.0, le_out w.1, le_out h, minus_sum b p.LB)
  window_stand (Action.output j) a (Action.input k) b m n v w h =
      omega (arith, le_out v.0, le_out w.1, le_out h, minus_sum a p.UB)
  window_stand (Action.output j) a (Action.output k) b m n v w h =
      omega (arith, le_out v.0, le_out w.1, le_out h, minus_sum a p.UB, minus_sum b p.LB)

  skip_one : (m n : ℤ) (ms : List ℤ) → NeverFall (m ∷ n ∷ ms) → NeverFall (m ∷ ms)
  skip_one m n [] h = tt
  skip_one m n (k ∷ ms) h = (le_in m k (omega (arith, le_out h.0, le_out h.1.0)), h.1.1)

  head-stands : (l : Line) (m : ℤ) → Window p l.action l.stamp m → (ls : List Line) (ms : List ℤ)
      → Given p ls ms → NeverFall (m ∷ ms) → All (May p l) ls
  head-stands l m w [] ms g f = done
  head-stands l m w (k ∷ ls) [] g f = absurd g
  head-stands l m w (k ∷ ls) (n ∷ ms) g f =
      also (window_stand l.action l.stamp k.action k.stamp m n w g.0 f.0)
      (head-stands l m w ls ms g.1 (skip_one m n ms f))

  given_pairs : (ls : List Line) (ms : List ℤ) → Given p ls ms → NeverFall ms → Pairs p ls
  given_pairs [] ms g f = none
  given_pairs (l ∷ ls) [] g f = absurd g
  given_pairs (l ∷ ls) (m ∷ ms) g f =
      first (head-stands l m g.0 ls ms g.1 f) (given_pairs ls ms g.1 (never_fall_tail m ms f))

  pub timed_pairs : (ls : List Line) → Timed p ls → Pairs p ls
  timed_pairs ls t = given_pairs ls t.moments t.given t.never_fall

-- from pairs to moments: the earliest ones, each counted from UB before zero
abbrev pub low : Property → Action → ℕ → ℕ
low p (Action.input k) t = t + p.LB + p.UB
low p (Action.output k) t = t

abbrev pub Under : Property → ℕ → Action → ℕ → Type 0
Under p m (Action.input k) t = m ≤ t + p.UB + p.UB
Under p m (Action.output k) t = m + p.LB ≤ t + p.UB

unfoldable pub earliest : Property → ℕ → List Line → List ℤ
earliest p m [] = []
earliest p m (l ∷ ls) =
    (pos (max m (low p l.action l.stamp)) -ℤ pos p.UB) ∷ earliest p (max m (low p l.action l.stamp)) ls

module _ (p : Property) (b : Bounds p) where
  stand_under : (x : Action) (s : ℕ) (y : Action) (t : ℕ) → Stand p x s y t → Under p (low p x s) y t
  stand_under (Action.input j) s (Action.input k) t h = omega arith
  stand_under (Action.input j) s (Action.output k) t h = omega arith
  stand_under (Action.output j) s (Action.input k) t h = omega arith
  stand_under (Action.output j) s (Action.output k) t h = omega arith

  own_under : (x : Action) (t : ℕ) → Under p (low p x t) x t
  own_under (Action.input j) t = omega (arith, b.order)
  own_under (Action.output j) t = omega (arith, b.order)

  pub zero_under : (x : Action) (t : ℕ) → Under p 0 x t
  zero_under (Action.input j) t = omega arith
  zero_under (Action.output j) t = omega (arith, b.order)

  max_under : (m n : ℕ) (x : Action) (t : ℕ) → Under p m x t → Under p n x t → Under p (max m n) x t
  max_under m n (Action.input j) t h k = omega arith
  max_under m n (Action.output j) t h k = omega arith

  in_window : (m : ℕ) (x : Action) (t : ℕ) → low p x t ≤ m → Under p m x t → Window p x t (pos m -ℤ pos p.UB)
  in_window m (Action.input j) t h k = (
    le_in (pos (t + p.LB)) (pos m -ℤ pos p.UB) (omega (arith, minus_sum m p.UB)),
    le_in (pos m -ℤ pos p.UB) (pos (t + p.UB)) (omega (arith, minus_sum m p.UB)),
  )
  in_window m (Action.output j) t h k = (
    le_in (pos t -ℤ pos p.UB) (pos m -ℤ pos p.UB) (omega (arith, minus_sum m p.UB, minus_sum t p.UB)),
    le_in (pos m -ℤ pos p.UB) (pos t -ℤ pos p.LB) (omega (arith, minus_sum m p.UB, minus_sum t p.LB)),
  )

  pub earliest-given : (m : ℕ) (ls : List Line) → All (λ l. Under p m l.action l.stamp) ls → Pairs p ls → Given p ls (earliest p m ls)
  unfolding earliest
  earliest-given m [] u c = tt
  earliest-given m (l ∷ ls) (also h u) (first a c) =
      let low' : ℕ = low p l.action l.stamp in (
        in_window (max m low') l.action l.stamp (omega arith)
            (max_under m low' l.action l.stamp h (own_under l.action l.stamp)),
        earliest-given (max m low') ls
            (all_map
            (λ k e. max_under m low' k.action k.stamp e.0 (stand_under l.action l.stamp k.action k.stamp e.1))
            (all_both u a))
            c,
      )

  pub earliest-never_fall : (m : ℕ) (ls : List Line) → NeverFall (earliest p m ls)
  unfolding earliest
  earliest-never_fall m [] = tt
  earliest-never_fall m (l ∷ []) = tt
  earliest-never_fall m (l ∷ k ∷ ls) =
      let n : ℕ = max m (low p l.action l.stamp) in
      let n' : ℕ = max n (low p k.action k.stamp) in (
        le_in (pos n -ℤ pos p.UB) (pos n' -ℤ pos p.UB) (omega (arith, minus_sum n p.UB, minus_sum n' p.UB)),
        earliest-never_fall n (k ∷ ls),
      )

  pub pairs_timed : (ls : List Line) → Pairs p ls → Timed p ls
  pairs_timed ls c =
      record {
        moments = earliest p 0 ls;
        given = earliest-given 0 ls (all_of (λ l. zero_under l.action l.stamp) ls) c;
        never_fall = earliest-never_fall 0 ls;
      }
