-- A number that is printed is that number in decimal.
use Prim.Native.Nat.{ℕ, zero, suc, ◌+◌, ◌*◌, ◌-◌, ◌/◌, ◌%◌, ◌^◌, ◌≤◌, ◌<◌}
use mathlib.Core.Path.{◌≡◌, refl, ◌∙◌, ap}
use mathlib.Core.Bool.{Bool, true, false, cond}
use mathlib.Core.List.{List, [], ◌∷◌, ◌++◌}
use native.Mathlib.Nat.{pow-suc}
use native.Mathlib.Omega.{arith}
use lib.Dec.{ltb}
use borrow.Author.Tests.{ltb-true, ltb-false}
use Rattle.line_text.specs.Text.{digit, digits, decimal}
use Rattle.demands.specs.Listing.{AllDigits, NoZeroFirst, read_digits, InDecimal}

read_on : (b : ℕ) (xs ys : List ℕ) → read_digits b (xs ++ ys) ≡ read_digits (read_digits b xs) ys
unfolding read_digits
read_on b [] ys = refl
read_on b (x ∷ xs) ys = read_on (b * 10 + (x - 48)) xs ys

read_one : (b d : ℕ) → read_digits b (digit d ∷ []) ≡ b * 10 + d
unfolding read_digits
read_one b d = let e : b * 10 + (48 + d - 48) ≡ b * 10 + d = omega arith in e

digits-read : (most v : ℕ) → v < 10 ^ most → read_digits 0 (digits most v) ≡ v
unfolding read_digits digits
digits-read zero v h = omega arith
digits-read (suc most) v h = go (ltb v 10) (ltb-true v 10) (ltb-false v 10) (digits-read most (v / 10))
  where
    go : (b : Bool) → (b ≡ true → v < 10) → (b ≡ false → 10 ≤ v) → (v / 10 < 10 ^ most → read_digits 0 (digits most (v / 10)) ≡ v / 10)
        → read_digits 0 (cond b (digit v ∷ []) (digits most (v / 10) ++ digit (v % 10) ∷ [])) ≡ v
    go true y n ih = read_one 0 v ∙ (let e : 0 * 10 + v ≡ v = omega arith in e)
    go false y n ih =
        let p : 10 ^ suc most ≡ 10 ^ most * 10 = pow-suc 10 most in
        read_on 0 (digits most (v / 10)) (digit (v % 10) ∷ [])
        ∙ ap (λ (b : ℕ). read_digits b (digit (v % 10) ∷ [])) (ih (omega arith))
        ∙ read_one (v / 10) (v % 10)
        ∙ (let e : v / 10 * 10 + v % 10 ≡ v = omega arith in e)

all_on : (xs : List ℕ) (d : ℕ) → AllDigits xs → d < 10 → AllDigits (xs ++ digit d ∷ [])
unfolding AllDigits
all_on [] d h l = (omega arith, omega arith, tt)
all_on (x ∷ xs) d h l = (h.0, h.1, all_on xs d h.2 l)

all_digits_of : (most v : ℕ) → AllDigits (digits most v)
unfolding AllDigits digits
all_digits_of zero v = tt
all_digits_of (suc most) v = go (ltb v 10) (ltb-true v 10) (all_digits_of most (v / 10))
  where
    go : (b : Bool) → (b ≡ true → v < 10) → AllDigits (digits most (v / 10)) → AllDigits (cond b (digit v ∷ []) (digits most (v / 10) ++ digit (v % 10) ∷ []))
    go true y ih = let l : v < 10 = y refl in (omega arith, omega arith, tt)
    go false y ih = all_on (digits most (v / 10)) (v % 10) ih (omega arith)

-- the first digit is there, and it is not that of 0 where the number is not
abbrev Begins : List ℕ → Type 0
Begins [] = ⊥
Begins (d ∷ rest) = 48 < d

begins_on : (xs ys : List ℕ) → Begins xs → Begins (xs ++ ys)
begins_on [] ys h = absurd h
begins_on (x ∷ xs) ys h = h

begins_of : (most v : ℕ) → v < 10 ^ most → 0 < v → Begins (digits most v)
unfolding digits
begins_of zero v h some = let z : ⊥ = omega arith in absurd z
begins_of (suc most) v h some = go (ltb v 10) (ltb-false v 10) (begins_of most (v / 10))
  where
    go : (b : Bool) → (b ≡ false → 10 ≤ v) → (v / 10 < 10 ^ most → 0 < v / 10 → Begins (digits most (v / 10)))
        → Begins (cond b (digit v ∷ []) (digits most (v / 10) ++ digit (v % 10) ∷ []))
    go true n ih = omega arith
    go false n ih =
        let p : 10 ^ suc most ≡ 10 ^ most * 10 = pow-suc 10 most in
        let l : 10 ≤ v = n refl in
        begins_on (digits most (v / 10)) (digit (v % 10) ∷ []) (ih (omega arith) (omega arith))

begun_first : (xs : List ℕ) → Begins xs → NoZeroFirst xs
begun_first [] h = absurd h
begun_first (d ∷ []) h = tt
begun_first (d ∷ e ∷ rest) h = h

pub decimal-reads : (v : ℕ) → v < 2 ^ 64 → InDecimal v (decimal v)
unfolding decimal
decimal-reads v h =
    let low : v < 10 ^ 20 = omega arith in
    record { all_digits = all_digits_of 20 v; no_zero_first = first v low; reads = digits-read 20 v low }
  where
    first : (v : ℕ) → v < 10 ^ 20 → NoZeroFirst (digits 20 v)
    first zero l = unfold digits in tt
    first (suc v) l = begun_first (digits 20 (suc v)) (begins_of 20 (suc v) l (omega arith))
