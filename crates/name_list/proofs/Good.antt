-- A list that is not broken, and its first bytes.
use Prim.Native.Nat.{ℕ, ◌+◌, ◌/◌, ◌%◌, ◌≤◌, ◌<◌}
use mathlib.Core.Path.{◌≡◌, refl, ◌∙◌, ap}
use mathlib.Core.Bool.{Bool, true, false, cond}
use mathlib.Core.List.{List}
use native.Mathlib.Omega.{arith}
use lib.ListN.{length}
use lib.Dec.{ltb, eqb}
use borrow.Author.Tests.{ltb-false, eqb-true, eqb-false}
use Rattle.meaning.specs.Words.{Action}
use Rattle.laws.proofs.Tests.{or_split}
use Rattle.name_list.specs.Names.{first_byte, action_read, entries_broken, list_broken}

-- A first byte is that of the action read from it.
pub byte_read : (b : ℕ) → b < 256 → b / 64 % 2 ≡ 0 → first_byte (action_read b) ≡ b
byte_read b h z = go (eqb (b / 128) 0) refl
  where
    by : Bool → ℕ
    by t = first_byte (cond t (Action.input (b % 64)) (Action.output (b % 64)))

    go : (t : Bool) → eqb (b / 128) 0 ≡ t → first_byte (action_read b) ≡ b
    go true e =
        let q : b / 128 ≡ 0 = eqb-true (b / 128) 0 e in
        let k : b % 64 ≡ b = omega (arith, q) in
        ap by e ∙ k
    go false e =
        let q : b / 128 ≡ 0 → ⊥ = eqb-false (b / 128) 0 e in
        let k : 128 + b % 64 ≡ b = omega (arith, q) in
        ap by e ∙ k

-- A list that is not broken is short, and none of its entries breaks a rule.
good_both : (list : List ℕ) → list_broken list ≡ false → (ltb 8192 (length list) ≡ false) × (entries_broken (length list) 0 list ≡ false)
unfolding list_broken
good_both list e = or_split (ltb 8192 (length list)) (entries_broken (length list) 0 list) e

pub good_long : (list : List ℕ) → list_broken list ≡ false → length list ≤ 8192
good_long list e = ltb-false 8192 (length list) (good_both list e).0

pub good_entries : (list : List ℕ) → list_broken list ≡ false → entries_broken (length list) 0 list ≡ false
good_entries list e = (good_both list e).1
