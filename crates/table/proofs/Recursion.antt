-- Laws of the meaning's matcher: how its questions go on at a smaller length, and what they do not look at.
use Prim.Native.Nat.{ℕ, zero, suc, ◌+◌, ◌-◌, ◌≤◌, ◌<◌}
use mathlib.Core.Path.{◌≡◌, refl, sym, ap, ap₂, ◌∙◌}
use mathlib.Core.Bool.{Bool, true, false, cond, not, ◌&&◌}
use native.Mathlib.Omega.{arith}
use native.Mathlib.Numerals.{unary_clauses, add-one}
use lib.Dec.{ltb}
use borrow.Author.Tests.{not-true, not-false, lt-ltb, le-ltb, ltb-true}
use Rattle.meaning.specs.Words.{Action}
use Rattle.meaning.specs.Matcher.{same, ends, goes_on, fall_back}

pub ends_down : (s : ℕ → Action) (i l : ℕ) → 0 < i → i ≤ l → ends s i l ≡ same (s (i - 1)) (s (l - 1)) && ends s (i - 1) (l - 1)
unfolding ends
ends_down s zero l h e = let z : ⊥ = omega arith in absurd z
ends_down s (suc i) zero h e = let z : ⊥ = omega arith in absurd z
ends_down s (suc i) (suc l) h e = simp unary_clauses

module _ (s : ℕ → Action) (i l : ℕ) (pos : 0 < i) (le : i ≤ l) (r : Bool) (e : r ≡ same (s (i - 1)) (s (l - 1))) where
  pub ends_mismatch : not r ≡ true → false ≡ ends s i l
  ends_mismatch h = ap (λ (b : Bool). b && ends s (i - 1) (l - 1)) (sym (not-true r h) ∙ e) ∙ sym (ends_down s i l pos le)

  pub ends_match : not r ≡ false → ends s i l ≡ ends s (i - 1) (l - 1)
  ends_match h = ends_down s i l pos le ∙ ap (λ (b : Bool). b && ends s (i - 1) (l - 1)) (sym e ∙ not-false r h)

pub ends-none : (s : ℕ → Action) (i l : ℕ) → i ≤ 0 → true ≡ ends s i l
unfolding ends
ends-none s zero l h = refl
ends-none s (suc i) l h = let z : ⊥ = omega arith in absurd z

module _ (s : ℕ → Action) (n k j : ℕ) (a : Action) where
  pub goes_on-there : j < n → (r e : Bool) → r ≡ same (s j) a → r ≡ true → e ≡ ends s j k → e ≡ goes_on s n k j a
  goes_on-there h r e q t d =
      d ∙ ap₂ (λ (x y : Bool). x && y && ends s j k) (sym (lt-ltb j n h)) (sym t ∙ q)

  pub goes_on_other : j < n → (r : Bool) → r ≡ same (s j) a → r ≡ false → false ≡ goes_on s n k j a
  goes_on_other h r q t = ap₂ (λ (x y : Bool). x && y && ends s j k) (sym (lt-ltb j n h)) (sym t ∙ q)

  pub goes_on_past : n ≤ j → false ≡ goes_on s n k j a
  goes_on_past h = ap (λ (x : Bool). x && same (s j) a && ends s j k) (sym (le-ltb j n h))

pub fall_back_here : (s : ℕ → Action) (n k j : ℕ) (a : Action) → goes_on s n k j a ≡ true → j + 1 ≡ fall_back s n k a j
unfolding fall_back
fall_back_here s n k zero a e = ap (λ (b : Bool). cond b 1 0) (sym e)
fall_back_here s n k (suc j) a e = add-one (suc j) ∙ ap (λ (b : Bool). cond b (suc (suc j)) (fall_back s n k a j)) (sym e)

pub fall_back-none : (s : ℕ → Action) (n k j : ℕ) (a : Action) → goes_on s n k j a ≡ false → j ≡ 0 → 0 ≡ fall_back s n k a j
unfolding fall_back
fall_back-none s n k zero a e z = ap (λ (b : Bool). cond b 1 0) (sym e)
fall_back-none s n k (suc j) a e z = let w : ⊥ = omega arith in absurd w

pub fall_back_down : (s : ℕ → Action) (n k j : ℕ) (a : Action) → goes_on s n k j a ≡ false → (j ≡ 0 → ⊥)
    → fall_back s n k a (j - 1) ≡ fall_back s n k a j
unfolding fall_back
fall_back_down s n k zero a e z = absurd (z refl)
fall_back_down s n k (suc j) a e z =
    ap (fall_back s n k a) (let q : suc j - 1 ≡ j = omega arith in q)
    ∙ ap (λ (b : Bool). cond b (suc (suc j)) (fall_back s n k a j)) (sym e)

-- Only the places of the sequence count.
module _ (s t : ℕ → Action) (n : ℕ) (agree : (i : ℕ) → i < n → s i ≡ t i) where
  ends_agree : (j k : ℕ) → j ≤ k → k ≤ n → ends s j k ≡ ends t j k
  unfolding ends
  ends_agree zero k h l = refl
  ends_agree (suc j) zero h l = refl
  ends_agree (suc j) (suc k) h l =
      ap₂ (λ (x y : Bool). x && y)
      (ap₂ same (agree j (omega arith)) (agree k (omega arith)))
      (ends_agree j k (omega arith) (omega arith))

  goes_on_agree : (k j : ℕ) (a : Action) → j ≤ k → k ≤ n → goes_on s n k j a ≡ goes_on t n k j a
  goes_on_agree k j a h l = go (ltb j n) (ltb-true j n)
    where
      go : (b : Bool) → (b ≡ true → j < n) → b && same (s j) a && ends s j k ≡ b && same (t j) a && ends t j k
      go true e = ap₂ (λ (x : Action) (y : Bool). same x a && y) (agree j (e refl)) (ends_agree j k h l)
      go false e = refl

  pub fall_back_agree : (k j : ℕ) (a : Action) → j ≤ k → k ≤ n → fall_back s n k a j ≡ fall_back t n k a j
  unfolding fall_back
  fall_back_agree k zero a h l = ap (λ (b : Bool). cond b 1 0) (goes_on_agree k zero a h l)
  fall_back_agree k (suc j) a h l =
      ap₂ (λ (b : Bool) (x : ℕ). cond b (suc (suc j)) x) (goes_on_agree k (suc j) a h l) (fall_back_agree k j a (omega arith) l)

-- An action that the sequence does not name leads to 0.
module _ (s : ℕ → Action) (n k : ℕ) (a : Action) (unnamed : (i : ℕ) → i < n → same (s i) a ≡ false) where
  goes_on_unnamed : (j : ℕ) → goes_on s n k j a ≡ false
  goes_on_unnamed j = go (ltb j n) (ltb-true j n)
    where
      go : (b : Bool) → (b ≡ true → j < n) → b && same (s j) a && ends s j k ≡ false
      go true e = ap (λ (x : Bool). x && ends s j k) (unnamed j (e refl))
      go false e = refl

  pub fall_back_unnamed : (j : ℕ) → fall_back s n k a j ≡ 0
  unfolding fall_back
  fall_back_unnamed zero = ap (λ (b : Bool). cond b 1 0) (goes_on_unnamed zero)
  fall_back_unnamed (suc j) =
      ap (λ (b : Bool). cond b (suc (suc j)) (fall_back s n k a j)) (goes_on_unnamed (suc j)) ∙ fall_back_unnamed j
