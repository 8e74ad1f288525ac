-- A sequence given place by place: when an action number in it is above 63.
use Prim.Native.Nat.{ℕ, zero, suc, ◌<◌, ◌≤◌}
use mathlib.Core.Path.{◌≡◌, refl, sym, ap₂}
use mathlib.Core.Bool.{Bool, true, false, ◌||◌}
use mathlib.Core.List.{List, [], ◌∷◌}
use native.Mathlib.Nat.{not-suc-le-zero, le_of_suc-le-suc}
use lib.Dec.{ltb}
use lib.ListN.{length, get_or, take}
use Rattle.std.specs.List.{list_any}
use Rattle.meaning.specs.Words.{Action}
use Rattle.meaning.specs.Numbers.{action_above, any_action_above}
use Rattle.laws.specs.Places.{first}
use Rattle.laws.proofs.Tests.{or_split}
use Rattle.property.specs.Meant.{action_of}

pub above_of : (b : Bool) (k : ℕ) → action_above (action_of b k) ≡ ltb 63 k
above_of true k = refl
above_of false k = refl

-- a number above 63 among those of the sequence
pub above_some : (f : ℕ → Bool) (l : List ℕ) (n : ℕ) → n ≤ length l
    → list_any (λ k. ltb 63 k) (take n l) ≡ any_action_above (first (λ i. action_of (f i) (get_or l i 0)) n)
unfolding first
above_some f l zero h = refl
above_some f [] (suc n) h = absurd (not-suc-le-zero h)
above_some f (k ∷ l) (suc n) h = ap₂ ◌||◌ (sym (above_of (f zero) k)) (above_some (λ i. f (suc i)) l n (le_of_suc-le-suc h))

pub not-above : (f : ℕ → Action) (n : ℕ) → any_action_above (first f n) ≡ false → (i : ℕ) → i < n → action_above (f i) ≡ false
unfolding first
not-above f zero e i h = absurd (not-suc-le-zero h)
not-above f (suc n) e zero h = (or_split (action_above (f zero)) (any_action_above (first (λ i. f (suc i)) n)) e).0
not-above f (suc n) e (suc i) h =
    not-above (λ i. f (suc i)) n (or_split (action_above (f zero)) (any_action_above (first (λ i. f (suc i)) n)) e).1 i
    (le_of_suc-le-suc h)
