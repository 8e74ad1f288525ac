-- Tests and what they say: of two tests, of two actions, of two verdicts, of the numbers up to n.
use Prim.Native.Nat.{ℕ, zero, suc, ◌≤◌, ◌<◌}
use mathlib.Core.Path.{◌≡◌, refl, sym, ◌∙◌, ap, ap₂, subst}
use mathlib.Core.Logic.{◌⊎◌, inl, inr}
use mathlib.Core.Bool.{Bool, true, false, ◌&&◌, ◌||◌, true≢false}
use native.Mathlib.Omega.{arith}
use lib.Dec.{leb}
use borrow.Author.Tests.{leb-true, leb-false, eqb-true, eq-eqb}
use Rattle.meaning.specs.Words.{Action}
use Rattle.meaning.specs.Node.{Verdict, verdict_number}
use Rattle.meaning.specs.Matcher.{same, some_to}

pub not_true : (b : Bool) → (b ≡ true → ⊥) → b ≡ false
not_true true h = absurd (h refl)
not_true false h = refl

pub both : (a b : Bool) → (a && b ≡ true) → (a ≡ true) × (b ≡ true)
both true true e = (refl, refl)
both true false e = absurd (true≢false (sym e))
both false b e = absurd (true≢false (sym e))

pub and_true : {a b : Bool} → a ≡ true → b ≡ true → a && b ≡ true
and_true {a} {b} h k = rw h k

pub or_cases : (a b : Bool) → (a || b ≡ true) → (a ≡ true) ⊎ (b ≡ true)
or_cases true b e = inl refl
or_cases false b e = inr e

pub or_left : {a : Bool} (b : Bool) → a ≡ true → a || b ≡ true
or_left b h = rw h

pub or_right : (a : Bool) {b : Bool} → b ≡ true → a || b ≡ true
or_right true h = refl
or_right false h = h

-- two actions are the same
pub same_eq : (a b : Action) → same a b ≡ true → a ≡ b
same_eq (Action.input j) (Action.input k) e = ap Action.input (eqb-true j k e)
same_eq (Action.input j) (Action.output k) e = absurd (true≢false (sym e))
same_eq (Action.output j) (Action.input k) e = absurd (true≢false (sym e))
same_eq (Action.output j) (Action.output k) e = ap Action.output (eqb-true j k e)

pub same_refl : (a : Action) → same a a ≡ true
same_refl (Action.input k) = eq-eqb k k refl
same_refl (Action.output k) = eq-eqb k k refl

by_number : ℕ → Verdict
by_number zero = Verdict.clear
by_number (suc zero) = Verdict.suspect
by_number (suc (suc zero)) = Verdict.certain
by_number (suc (suc (suc n))) = Verdict.blind

numbered : (v : Verdict) → by_number (verdict_number v) ≡ v
unfolding by_number
numbered Verdict.clear = refl
numbered Verdict.suspect = refl
numbered Verdict.certain = refl
numbered Verdict.blind = refl

-- verdicts are told apart by their numbers
pub same_number : (v w : Verdict) → verdict_number v ≡ verdict_number w → v ≡ w
same_number v w e = sym (numbered v) ∙ ap by_number e ∙ numbered w

-- Some number up to n, or none.
pub some_to_found : (n : ℕ) (f : ℕ → Bool) → some_to n f ≡ true → (k : ℕ) × (k ≤ n) × (f k ≡ true)
unfolding some_to
some_to_found zero f e = (zero, omega arith, e)
some_to_found (suc n) f e = go (or_cases (f (suc n)) (some_to n f) e) (some_to_found n f)
  where
    go : (f (suc n) ≡ true) ⊎ (some_to n f ≡ true) → (some_to n f ≡ true → (k : ℕ) × (k ≤ n) × (f k ≡ true))
        → (k : ℕ) × (k ≤ suc n) × (f k ≡ true)
    go (inl h) r = (suc n, omega arith, h)
    go (inr h) r = ((r h).0, omega (arith, (r h).1), (r h).2)

pub some_to_here : (n : ℕ) (f : ℕ → Bool) (k : ℕ) → k ≤ n → f k ≡ true → some_to n f ≡ true
unfolding some_to
some_to_here zero f k h e = subst (λ (j : ℕ). f j ≡ true) (omega arith) e
some_to_here (suc n) f k h e = go (leb k n) (leb-true k n) (leb-false k n) (λ l. some_to_here n f k l e)
  where
    go : (c : Bool) → (c ≡ true → k ≤ n) → (c ≡ false → n < k) → (k ≤ n → some_to n f ≡ true) → f (suc n) || some_to n f ≡ true
    go true y z r = or_right (f (suc n)) (r (y refl))
    go false y z r =
        let l : n < k = z refl in
        or_left (some_to n f) (subst (λ (j : ℕ). f j ≡ true) (omega arith) e)

pub some_to-none : (n : ℕ) (f : ℕ → Bool) → ((k : ℕ) → k ≤ n → f k ≡ false) → some_to n f ≡ false
some_to-none n f h = not_true (some_to n f) (λ e. let t = some_to_found n f e in true≢false (sym t.2 ∙ h t.0 t.1))

pub some_to_false : (n : ℕ) (f : ℕ → Bool) → some_to n f ≡ false → (k : ℕ) → k ≤ n → f k ≡ false
some_to_false n f e k h = not_true (f k) (λ y. true≢false (sym (some_to_here n f k h y) ∙ e))

-- only the numbers up to n count
pub some_to_agree : (n : ℕ) (f g : ℕ → Bool) → ((k : ℕ) → k ≤ n → f k ≡ g k) → some_to n f ≡ some_to n g
unfolding some_to
some_to_agree zero f g h = h zero (omega arith)
some_to_agree (suc n) f g h = ap₂ ◌||◌ (h (suc n) (omega arith)) (some_to_agree n f g (λ k l. h k (omega arith)))
