-- Calls on what a fresh call gave back, in any order and with any numbers.
use Prim.Native.Nat.{ℕ}
use mathlib.Core.Path.{◌≡◌, refl, sym, ◌∙◌, ap}
use mathlib.Core.Bool.{true, not}
use mathlib.Core.List.{List}
use borrow.Author.Tests.{ne_eqb}
use native.Mathlib.Omega.{arith}
use Rattle.meaning.specs.Numbers.{property_refusal}
use Rattle.meaning.specs.Calls.{Call}
use Rattle.meaning.specs.Calls
use Rattle.meaning.specs.Step.{grown}
use Rattle.property.specs.Meant.{meant}
use Rattle.property.specs.Zeros.{zeros}
use Rattle.property.specs.declared.Property.{Property}
use Rattle.property.proofs.Refusal.{length-refused}
use Rattle.cuts.specs.Steps.{fresh_by, answer_by}
use Rattle.session_record.specs.declared.Session.{Session}
use Rattle.session_record.specs.Step.{Stepping}
use Rattle.session_record.specs.Record.{record_of, out_of_range}
use Rattle.session_record.specs.Step.{answer_of, no_session, fresh_of, stepped_of, stepped_through}
use Rattle.session_record.proofs.Range.{outside, crowded, fallen, held-blind, late, too_long, range_tests}
use Rattle.session_record.proofs.Steps.{named_refused, fresh-refused, fresh-taken}
use Rattle.session_record.proofs.Grown.{step_over, grown_record, grown_step}

module _ (p : Property) (good : property_refusal (meant p) ≡ 0) where
  -- the fresh call is taken
  pub fresh_record : (fresh_of p).session ≡ record_of p (fresh_by p)
  fresh_record = ap (λ (r : Stepping). r.session) (fresh-taken p good)

  -- The session after any calls is the record of the meaning's session over cuts,
  pub running_record : (ks : List Call) → stepped_through (fresh_of p).session ks ≡ record_of p (grown (meant p) ks)
  running_record ks = ap (λ (s : Session). stepped_through s ks) fresh_record ∙ grown_record p good ks

  -- and the next call is one step of that session: its answer and the record after it.
  pub running_step : (ks : List Call) (k : Call) → stepped_of (stepped_through (fresh_of p).session ks) k ≡ step_over p good (grown (meant p) ks) k
  running_step ks k = ap (λ (s : Session). stepped_of s k) (running_record ks) ∙ grown_step p good ks k

  pub running_answer : (ks : List Call) (k : Call) → (stepped_of (stepped_through (fresh_of p).session ks) k).answer ≡ answer_of (answer_by p (grown (meant p) ks) k)
  running_answer ks k = ap (λ (r : Stepping). r.answer) (running_step ks k)

-- The session of zeros is one that refusal 10 names: its property has no action.
pub zeros_named : out_of_range no_session ≡ true
zeros_named =
    range_tests no_session true (outside no_session) (crowded no_session) (fallen no_session) (held-blind no_session) (late no_session) (too_long no_session)
    (ap not (ne_eqb (property_refusal (meant zeros)) 0 (λ e. none (sym (length-refused zeros refl) ∙ e)))) refl refl refl refl refl refl
  where
    none : ◌≡◌ {A = ℕ} 1 0 → ⊥
    none e = omega arith

-- A call on what a refused fresh call gave back is refusal 10, and that comes back as it was.
pub refused_fresh_then : (p : Property) → (property_refusal (meant p) ≡ 0 → ⊥) → (k : Call)
    → ◌≡◌ {A = Stepping} (stepped_of (fresh_of p).session k) (record { answer = answer_of (Calls.refused 10); session = (fresh_of p).session })
refused_fresh_then p bad k =
    ap (λ (s : Session). stepped_of s k) given_back
    ∙ named_refused no_session k zeros_named
    ∙ ap (λ (s : Session). record { answer = answer_of (Calls.refused 10); session = s }) (sym given_back)
  where
    given_back : (fresh_of p).session ≡ no_session
    given_back = ap (λ (r : Stepping). r.session) (fresh-refused p (property_refusal (meant p)) refl bad)
