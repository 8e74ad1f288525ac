-- Parts of a list of bytes.
use Prim.Native.Nat.{ℕ, zero, suc, ◌+◌, ◌<◌}
use mathlib.Core.Path.{sym, subst}
use mathlib.Core.List.{List, [], ◌∷◌}
use native.Mathlib.Omega.{arith}
use lib.ListN.{take, drop}
use lib.Seq.{get_or-drop}
use Rattle.laws.specs.Bytes.{Bytes}

pub Bytes-drop : (n : ℕ) (s : List ℕ) → Bytes s → Bytes (drop n s)
Bytes-drop n s b i = subst (λ (x : ℕ). x < 256) (sym (get_or-drop n s i 0)) (b (n + i))

pub Bytes-take : (n : ℕ) (s : List ℕ) → Bytes s → Bytes (take n s)
Bytes-take zero s b i = omega arith
Bytes-take (suc n) [] b i = omega arith
Bytes-take (suc n) (x ∷ s) b zero = b zero
Bytes-take (suc n) (x ∷ s) b (suc i) = Bytes-take n s (λ j. b (suc j)) i
