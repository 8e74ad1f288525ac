-- A printed number reads back: the value of its digits is the number, so no two numbers print alike.
use Prim.Native.Nat.{ℕ, zero, suc, ◌+◌, ◌-◌, ◌*◌, ◌/◌, ◌%◌, ◌^◌, ◌≤◌, ◌<◌}
use mathlib.Core.Path.{◌≡◌, refl, sym, ap, ◌∙◌}
use mathlib.Core.List.{List, [], ◌∷◌, ◌++◌}
use native.Mathlib.Omega.{arith}
use lib.Dec.{T, ltb, ltb→lt, nltb→le}
use mathlib.Core.Bool.{Bool, true, false, not}
use Rattle.line_text.specs.Text.{digit, digits, decimal}
use Rattle.line_text.proofs.Digits.{digits_small, digits_more, front_fits}

-- The value of a list of digits behind a number that was read before: each is ten times what came before and itself.
unfoldable pub value_from : ℕ → List ℕ → ℕ
value_from before [] = before
value_from before (b ∷ l) = value_from (10 * before + (b - 48)) l

unfoldable pub value : List ℕ → ℕ
value l = value_from 0 l

value_last : (before : ℕ) (l : List ℕ) (b : ℕ) → value_from before (l ++ b ∷ []) ≡ 10 * value_from before l + (b - 48)
unfolding value_from
value_last before [] b = refl
value_last before (x ∷ l) b = value_last (10 * before + (x - 48)) l b

small_reads_back : (most v : ℕ) → v < 10 → value (digits (suc most) v) ≡ v
unfolding value value_from
small_reads_back most v small = rw (digits_small most v small) (omega arith)

more_reads_back : (most v : ℕ) → 10 ≤ v → value (digits most (v / 10)) ≡ v / 10 → value (digits (suc most) v) ≡ v
unfolding value
more_reads_back most v more front =
    ap value (digits_more most v more)
    ∙ value_last 0 (digits most (v / 10)) (digit (v % 10))
    ∙ omega arith

digits_read_back : (most v : ℕ) → v < 10 ^ suc most → value (digits (suc most) v) ≡ v
digits_read_back zero v fits = small_reads_back zero v fits
digits_read_back (suc most) v fits = go (digits_read_back most (v / 10) (front_fits most v fits)) (ltb v 10) (ltb→lt v 10) (nltb→le v 10)
  where
    go : value (digits (suc most) (v / 10)) ≡ v / 10 → (small : Bool) → (T small → v < 10) → (T (not small) → 10 ≤ v) → value (digits (suc (suc most)) v) ≡ v
    go front true is is-not = small_reads_back (suc most) v (is tt)
    go front false is is-not = more_reads_back (suc most) v (is-not tt) front

pub decimal_reads_back : (v : ℕ) → v < 2 ^ 64 → value (decimal v) ≡ v
unfolding decimal
decimal_reads_back v fits = digits_read_back 19 v (omega arith)

pub decimal_injective : (v v' : ℕ) → v < 2 ^ 64 → v' < 2 ^ 64 → decimal v ≡ decimal v' → v ≡ v'
decimal_injective v v' fits fits' same = sym (decimal_reads_back v fits) ∙ ap value same ∙ decimal_reads_back v' fits'
