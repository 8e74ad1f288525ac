-- "Order where several hold": laws of the first refusal of several, of a refusal that is given or not, and of what a refusal leaves.
use Prim.Native.Nat.{ℕ, zero, suc}
use mathlib.Core.Path.{◌≡◌, refl}
use mathlib.Core.Bool.{Bool, true, false}
use native.Mathlib.Omega.{arith}
use Rattle.meaning.specs.Numbers.{given, first_of}
use Rattle.meaning.specs.Calls.{unless_refused}

-- none of two
pub first_of-none : (x : ℕ) {y : ℕ} → first_of x y ≡ 0 → (x ≡ 0) × (y ≡ 0)
first_of-none zero e = (refl, e)
first_of-none (suc x) e = let z : ⊥ = omega arith in absurd z

-- the first one decides, and where it is not given the later one
pub first_of-given : (x y : ℕ) → (x ≡ 0 → ⊥) → first_of x y ≡ x
first_of-given zero y h = absurd (h refl)
first_of-given (suc x) y h = refl

pub first_of_later : (x : ℕ) {y z : ℕ} → (x ≡ 0 → y ≡ z) → first_of x y ≡ first_of x z
first_of_later zero h = h refl
first_of_later (suc x) h = refl

-- of three, however they are taken together
pub first_of-first : (x y z : ℕ) → first_of x (first_of y z) ≡ first_of (first_of x y) z
first_of-first zero y z = refl
first_of-first (suc x) y z = refl

pub given-none : (n : ℕ) (t : Bool) → given (suc n) t ≡ 0 → t ≡ false
given-none n true e = let z : ⊥ = omega arith in absurd z
given-none n false e = refl

-- a refusal that is not given, before others
pub none_first : (n : ℕ) (t : Bool) {y : ℕ} → first_of (given (suc n) t) y ≡ 0 → (t ≡ false) × (y ≡ 0)
none_first n t e = let r = first_of-none (given (suc n) t) e in (given-none n t r.0, r.1)

-- what is taken, and what is refused
pub unless_taken : {A : Type 0} (n : ℕ) (new old : A) → n ≡ 0 → unless_refused n new old ≡ new
unless_taken zero new old e = refl
unless_taken (suc n) new old e = let z : ⊥ = omega arith in absurd z

pub unless_kept : {A : Type 0} (n : ℕ) (new old : A) → (n ≡ 0 → ⊥) → unless_refused n new old ≡ old
unless_kept zero new old h = absurd (h refl)
unless_kept (suc n) new old h = refl
