-- The rules of `specs/Record.antt`, case by case.
use Prim.Native.Nat.{ℕ, zero, suc, ◌+◌, ◌-◌, ◌<◌, ◌≤◌}
use mathlib.Core.Bool.{Bool, true, false, not, ◌||◌, or-false, or-true}
use mathlib.Core.Path.{◌≡◌, refl, ap}
use native.Mathlib.Omega.{arith}
use lib.Dec.{ltb, eqb}
use borrow.Author.Tests.{lt-ltb, le-ltb, eq-eqb, ne_eqb, ltb-false}
use Rattle.laws.proofs.Tests.{or_split}
use Rattle.meaning.specs.Limits.{last_stamp}
use Rattle.record_form.specs.Record.{RecordAnswer, taken, refused, answered, broken, stamp_above, fields_refusal}

-- ---- refusal 4
pub stamp_past : (stamp before : ℕ) → last_stamp < stamp → stamp_above stamp before ≡ true
unfolding stamp_above
stamp_past stamp before h = simp (lt-ltb _ _ h)

pub before_past : (stamp before : ℕ) → last_stamp < before → stamp_above stamp before ≡ true
unfolding stamp_above
before_past stamp before h = simp (lt-ltb _ _ h, or-true)

pub none_past : (stamp before : ℕ) → stamp ≤ last_stamp → before ≤ last_stamp → stamp_above stamp before ≡ false
unfolding stamp_above
none_past stamp before h k = simp (le-ltb _ _ h, le-ltb _ _ k)

pub within : (stamp before : ℕ) → stamp_above stamp before ≡ false → (stamp ≤ last_stamp) × (before ≤ last_stamp)
unfolding stamp_above
within stamp before e =
    let p = or_split (ltb last_stamp stamp) (ltb last_stamp before) e in
    (ltb-false _ _ p.0, ltb-false _ _ p.1)

-- ---- refusal 8, by the kind
pub broken-none : (kind action : ℕ) (other : Bool) → kind < 3 → broken kind action other ≡ false
unfolding broken
broken-none zero action other h = refl
broken-none (suc zero) action other h = refl
broken-none (suc (suc zero)) action other h = refl
broken-none (suc (suc (suc kind))) action other h = let z : ⊥ = omega arith in absurd z

pub broken-end : (kind action : ℕ) (other : Bool) → kind ≡ 3 → broken kind action other ≡ (not (eqb action 0) || other)
unfolding broken
broken-end kind action other h = rw h (simp or-false)

pub broken-kind : (kind action : ℕ) (other : Bool) → 3 < kind → broken kind action other ≡ true
unfolding broken
broken-kind kind action other h = simp (lt-ltb _ _ h, or-true)

pub is_0 : (n : ℕ) → n ≡ 0 → not (eqb n 0) ≡ false
is_0 n h = ap not (eq-eqb _ _ h)

pub not_0 : (n : ℕ) → (n ≡ 0 → ⊥) → not (eqb n 0) ≡ true
not_0 n h = ap not (ne_eqb _ _ h)

-- ---- the answer to fields
abbrev pub fields_numbers : ℕ → ℕ → ℕ → ℕ → RecordAnswer
fields_numbers kind action less before =
    answered (fields_refusal kind action less before) (taken kind action (before + less))

module _ (kind action less before : ℕ) where
  pub answer-broken : broken kind action (not (eqb less 0)) ≡ true → refused 8 ≡ fields_numbers kind action less before
  unfolding fields_refusal answered
  answer-broken e = simp e

  pub answer-above : broken kind action (not (eqb less 0)) ≡ false → stamp_above (before + less) before ≡ true
      → refused 4 ≡ fields_numbers kind action less before
  unfolding fields_refusal answered
  answer-above e f = simp (e, f)

  pub answer-taken : broken kind action (not (eqb less 0)) ≡ false → before ≤ last_stamp → less ≤ last_stamp - before
      → taken kind action (before + less) ≡ fields_numbers kind action less before
  unfolding fields_refusal answered
  answer-taken e h k = simp (e, none_past (before + less) before (omega (arith, h, k)) h)
