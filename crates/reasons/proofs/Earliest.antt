-- The earliest moments of an order: the running maximum of the windows' lower ends. They exist where moments can be given, and are unique.
use Prim.Native.Nat.{ℕ, max}
use mathlib.Core.Path.{◌≡◌, refl, ap₂}
use mathlib.Core.List.{List, [], ◌∷◌}
use native.Mathlib.Omega.{arith}
use lib.IntN.{ℤ, pos, negsuc, ◌-ℤ◌}
use lib.Signed.{◌≤ℤ◌}
use Rattle.meaning.specs.Words.{Action, Property, Line}
use Rattle.meaning.specs.Node.{Window, Given, NeverFall, Timed}
use Rattle.meaning.proofs.Whole.{le_out, le_in, minus_sum}
use Rattle.meaning.proofs.Lists.{all_of}
use Rattle.meaning.proofs.Pairs.{Bounds, Pairs, never_fall_tail, low, earliest, zero_under, earliest-given, earliest-never_fall, timed_pairs}
use Rattle.reasons.specs.Reasons.{NoneLater, Earliest}

module _ (p : Property) where
  -- none of these moments is below m, counted from UB before 0
  abbrev Above : ℕ → List ℤ → Type 0
  Above m [] = Unit {0}
  Above m (n ∷ ns) = (pos m -ℤ pos p.UB) ≤ℤ n

  low_first : (a : Action) (t : ℕ) (n : ℤ) → Window p a t n → (pos (low p a t) -ℤ pos p.UB) ≤ℤ n
  low_first (Action.input k) t n w = le_in _ n (omega (arith, le_out w.0, minus_sum (low p (Action.input k) t) p.UB))
  low_first (Action.output k) t n w = w.0

  later : (m k : ℕ) (n : ℤ) → (pos m -ℤ pos p.UB) ≤ℤ n → (pos k -ℤ pos p.UB) ≤ℤ n → (pos (max m k) -ℤ pos p.UB) ≤ℤ n
  later m k n h i = le_in _ n (omega (arith, le_out h, le_out i, minus_sum m p.UB, minus_sum k p.UB, minus_sum (max m k) p.UB))

  above-next : (m : ℕ) (n : ℤ) (ns : List ℤ) → (pos m -ℤ pos p.UB) ≤ℤ n → NeverFall (n ∷ ns) → Above m ns
  above-next m n [] h f = tt
  above-next m n (k ∷ ns) h f = le_in _ k (omega (arith, le_out h, le_out f.0))

  none_later : (m : ℕ) (ls : List Line) (ns : List ℤ) → Given p ls ns → NeverFall ns → Above m ns → NoneLater (earliest p m ls) ns
  unfolding earliest
  none_later m [] [] g f h = tt
  none_later m [] (n ∷ ns) g f h = absurd g
  none_later m (l ∷ ls) [] g f h = absurd g
  none_later m (l ∷ ls) (n ∷ ns) g f h =
      let first : (pos (max m (low p l.action l.stamp)) -ℤ pos p.UB) ≤ℤ n =
      later m (low p l.action l.stamp) n h (low_first l.action l.stamp n g.0) in
      (first, none_later (max m (low p l.action l.stamp)) ls ns g.1 (never_fall_tail n ns f) (above-next _ n ns first f))

  -- no window begins more than UB before 0
  from_zero : (ls : List Line) (ns : List ℤ) → Given p ls ns → Above 0 ns
  from_zero [] [] g = tt
  from_zero [] (n ∷ ns) g = absurd g
  from_zero (l ∷ ls) [] g = absurd g
  from_zero (l ∷ ls) (n ∷ ns) g =
      le_in _ n (omega (arith, le_out (low_first l.action l.stamp n g.0), minus_sum 0 p.UB, minus_sum (low p l.action l.stamp) p.UB))

  -- They exist,
  pub earliest_exists : Bounds p → (order : List Line) → Pairs p order → Earliest p order (earliest p 0 order)
  earliest_exists b order c =
      record {
        given = earliest-given p b 0 order (all_of (λ (l : Line). zero_under p b l.action l.stamp) order) c;
        never_fall = earliest-never_fall p b 0 order;
        least = λ others g f. none_later 0 order others g f (from_zero order others g);
      }

  pub timed-earliest : Bounds p → (order : List Line) → Timed p order → Earliest p order (earliest p 0 order)
  timed-earliest b order t = earliest_exists b order (timed_pairs p order t)

  -- and are unique.
  same_moment : (m n : ℤ) → m ≤ℤ n → n ≤ℤ m → m ≡ n
  same_moment (pos a) (pos b) h k = let e : a ≡ b = omega (arith, le_out h, le_out k) in λ i. pos (e i)
  same_moment (pos a) (negsuc b) h k = absurd h.le
  same_moment (negsuc a) (pos b) h k = absurd k.le
  same_moment (negsuc a) (negsuc b) h k = let e : a ≡ b = omega (arith, le_out h, le_out k) in λ i. negsuc (e i)

  both_ways : (ms ns : List ℤ) → NoneLater ms ns → NoneLater ns ms → ms ≡ ns
  both_ways [] [] h k = refl
  both_ways [] (n ∷ ns) h k = absurd h
  both_ways (m ∷ ms) [] h k = absurd h
  both_ways (m ∷ ms) (n ∷ ns) h k = ap₂ (λ (x : ℤ) (xs : List ℤ). x ∷ xs) (same_moment m n h.0 k.0) (both_ways ms ns h.1 k.1)

  pub earliest_unique : (order : List Line) (ms ns : List ℤ) → Earliest p order ms → Earliest p order ns → ms ≡ ns
  earliest_unique order ms ns h k = both_ways ms ns (h.least ns k.given k.never_fall) (k.least ms h.given h.never_fall)
