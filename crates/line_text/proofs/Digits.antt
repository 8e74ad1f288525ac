-- The digits of a number below 2 ^ 64, one by one.
use Prim.Native.Nat.{ℕ, zero, suc, ◌+◌, ◌/◌, ◌%◌, ◌^◌, ◌≤◌, ◌<◌}
use mathlib.Core.Path.{◌≡◌, sym, ap, subst, ◌∙◌}
use mathlib.Core.Bool.{Bool, true, false, not, cond}
use mathlib.Core.List.{List, [], ◌∷◌, ◌++◌}
use native.Mathlib.Nat.{pow-suc, div-lt_iff_lt-mul}
use native.Mathlib.Omega.{arith}
use borrow.Author.Tests.{lt-ltb, le-ltb}
use lib.ListN.{length, length-append}
use lib.Dec.{T, ltb, ltb→lt, nltb→le, lit<}
use Rattle.line_text.specs.Text.{digit, digits, decimal}

pub digits_small : (most v : ℕ) → v < 10 → digits (suc most) v ≡ digit v ∷ []
unfolding digits
digits_small most v small = simp (lt-ltb v 10 small)

pub digits_more : (most v : ℕ) → 10 ≤ v → digits (suc most) v ≡ digits most (v / 10) ++ digit (v % 10) ∷ []
unfolding digits
digits_more most v more = simp (le-ltb v 10 more)

length_digits : (most v : ℕ) → length (digits most v) ≤ most
unfolding digits
length_digits zero v = omega arith
length_digits (suc most) v = go (length_digits most (v / 10)) (ltb v 10)
  where
    go : length (digits most (v / 10)) ≤ most → (small : Bool) → length (cond small (digit v ∷ []) (digits most (v / 10) ++ digit (v % 10) ∷ [])) ≤ suc most
    go front true = omega arith
    go front false = omega (arith, length-append (digits most (v / 10)) (digit (v % 10) ∷ []))

pub length-decimal : (v : ℕ) → length (decimal v) ≤ 20
unfolding decimal
length-decimal v = length_digits 20 v

-- A number's tenth has one digit less.
pub front_fits : (most v : ℕ) → v < 10 ^ suc (suc most) → v / 10 < 10 ^ suc most
front_fits most v fits = (div-lt_iff_lt-mul (lit< tt)).1 (subst (λ (n : ℕ). v < n) (pow-suc 10 (suc most)) fits)

-- Where the number has no more digits, allowing one more changes nothing.
one_more : (most v : ℕ) → v < 10 ^ suc most → digits (suc most) v ≡ digits (suc (suc most)) v
one_more zero v fits = digits_small 0 v fits ∙ sym (digits_small 1 v fits)
one_more (suc most) v fits = go (one_more most (v / 10) (front_fits most v fits)) (ltb v 10) (ltb→lt v 10) (nltb→le v 10)
  where
    go : digits (suc most) (v / 10) ≡ digits (suc (suc most)) (v / 10) → (small : Bool) → (T small → v < 10) → (T (not small) → 10 ≤ v) → digits (suc (suc most)) v ≡ digits (suc (suc (suc most))) v
    go front true is is-not = digits_small (suc most) v (is tt) ∙ sym (digits_small (suc (suc most)) v (is tt))
    go front false is is-not =
        digits_more (suc most) v (is-not tt)
        ∙ ap (λ (l : List ℕ). l ++ digit (v % 10) ∷ []) front
        ∙ sym (digits_more (suc (suc most)) v (is-not tt))

pub decimal_small : (v : ℕ) → v < 10 → decimal v ≡ digit v ∷ []
unfolding decimal
decimal_small v small = digits_small 19 v small

pub decimal_more : (v : ℕ) → 10 ≤ v → v < 2 ^ 64 → decimal v ≡ decimal (v / 10) ++ digit (v % 10) ∷ []
unfolding decimal
decimal_more v more fits =
    digits_more 19 v more
    ∙ ap (λ (l : List ℕ). l ++ digit (v % 10) ∷ []) (one_more 18 (v / 10) (omega arith))

-- The room that a number's tenth leaves for its last digit.
pub length_more : (v : ℕ) → 10 ≤ v → v < 2 ^ 64 → length (decimal v) ≡ length (decimal (v / 10)) + 1
length_more v more fits = ap length (decimal_more v more fits) ∙ length-append (decimal (v / 10)) (digit (v % 10) ∷ [])
