-- Where a new output may stand in an order: behind the last output and behind all inputs that have closed.
use Prim.Native.Nat.{◌+◌, ◌*◌, ◌≤◌, ◌<◌}
use mathlib.Core.Path.{◌≡◌, refl, ap}
use mathlib.Core.Logic.{◌⊎◌, inl, inr}
use mathlib.Core.Bool.{Bool, true, false, not}
use mathlib.Core.List.{List, [], ◌∷◌, ◌++◌}
use native.Mathlib.Omega.{arith}
use lib.Dec.{T, leb, leb→le, nleb→lt}
use Rattle.meaning.specs.Words.{Property, Line}
use Rattle.meaning.proofs.Lists.{All, done, also, all_head, all_tail}
use Rattle.meaning.proofs.Pairs.{Bounds, May, Pairs, none, first}
use Rattle.meaning.proofs.Channels.{IsIn, IsOut, In, Out, in_or_out, out-out, in_out, out_in, in_out_asks, in_in_asks}

module _ {p : Property} (b : Bounds p) (y : Line) (o : Out y) where
  pub record Place (u : List Line) : Type 0 where
    pub front : List Line
    pub back : List Line
    pub stands : u ≡ front ++ back
    pub before : All (λ z. May p z y) front
    pub after : All (λ z. In z × May p y z) back

  -- all of these may stand behind it, or it has a place such that an input before all of these may stand before it
  data Placed (u : List Line) : Type 0 where
    waits : All (λ z. In z × May p y z) u → Placed u
    placed : Place u → ((x : Line) → In x → All (May p x) u → May p x y) → Placed u

  more_placed : (z : Line) {u : List Line} → May p z y → Place u → Place (z ∷ u)
  more_placed z m q =
      record { front = z ∷ q.front; back = q.back; stands = ap (λ (l : List Line). z ∷ l) q.stands; before = also m q.before; after = q.after }

  first-placed : (z : Line) {u : List Line} → May p z y → All (λ x. In x × May p y x) u → Place (z ∷ u)
  first-placed z {u} m h = record { front = z ∷ []; back = u; stands = refl; before = also m done; after = h }

  places : (u : List Line) → Pairs p u → All (λ (z : Line). z.stamp ≤ y.stamp) u → Placed u
  places [] none done = waits done
  places (z ∷ u) (first may r) (also low rest) = pick (in_or_out z.action) (places u r rest)
    where
      -- an output, stamped no later
      by_output : Out z → Placed u → Placed (z ∷ u)
      by_output h (waits k) =
          placed (first-placed z (out-out p b z y h o low) k)
          (λ x i m. in_out p x y i o (omega (arith, low, in_out_asks p x z i h (all_head m))))
      by_output h (placed q f) = placed (more_placed z (out-out p b z y h o low) q) (λ x i m. f x i (all_tail m))

      -- an input, closed or open
      by_input : In z → Placed u → (t : Bool) → (T t → y.stamp ≤ z.stamp + 2 * p.UB) → (T (not t) → z.stamp + 2 * p.UB < y.stamp) → Placed (z ∷ u)
      by_input h (placed q f) t opens closed = placed (more_placed z (f z h may) q) (λ x i m. f x i (all_tail m))
      by_input h (waits k) true opens closed = waits (also (h, out_in p y z o h (opens tt)) k)
      by_input h (waits k) false opens closed =
          placed (first-placed z (in_out p z y h o (omega (arith, closed tt, b.order))) k)
          (λ x i m. in_out p x y i o (omega (arith, closed tt, b.order, in_in_asks p x z i h (all_head m))))

      pick : IsIn z.action ⊎ IsOut z.action → Placed u → Placed (z ∷ u)
      pick (inl h) q = by_input h q (leb y.stamp (z.stamp + 2 * p.UB)) (leb→le _ _) (nleb→lt _ _)
      pick (inr h) q = by_output h q

  pub place : (u : List Line) → Pairs p u → All (λ (z : Line). z.stamp ≤ y.stamp) u → Place u
  place u c low = go (places u c low)
    where
      go : Placed u → Place u
      go (waits h) = record { front = []; back = u; stands = refl; before = done; after = h }
      go (placed q f) = q
