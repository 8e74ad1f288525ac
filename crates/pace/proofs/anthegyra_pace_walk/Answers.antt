-- `pace::anthegyra_pace_walk` meets its contract: the loop's number is that of as many walks as were asked.
use Prim.Native.Nat.{ℕ, zero, suc, ◌+◌}
use mathlib.Core.Path.{◌≡◌, refl, sym, ap, ◌∙◌}
use mathlib.Core.List.{List}
use native.Mathlib.Omega.{arith}
use native.Mathlib.Numerals.{add-one}
use Rattle.property.specs.Zeros.{zeros}
use Rattle.property.proofs.Refusal.{length-refused}
use Rattle.property_form.specs.Read.{PropertyRead}
use Rattle.session_record.specs.declared.Session.{Session}
use Rattle.session_record.specs.Step.{Stepping, no_session, fresh_of}
use Rattle.session_record.proofs.Steps.{fresh-refused}
use Rattle.session_record.proofs.Running.{zeros_named}
use Rattle.walk.specs.declared.Walked.{Walked}
use Rattle.walk.specs.Walk.{Walking, in_numbers, walk_of}
use Rattle.walk.proofs.Going.{walk_refused}
use Rattle.pace.specs.Pace.{last_taken}
use Rattle.pace.proofs.anthegyra_pace_walk.Goals as goal

none-taken : (s : Session) (trace : List ℕ) (budget : ℕ) → 0 ≡ last_taken s trace budget 0
unfolding last_taken
none-taken s trace budget = refl

one-taken : (s : Session) (trace : List ℕ) (budget i : ℕ) (w : Walked) → in_numbers w ≡ walk_of s trace budget → w.taken ≡ last_taken s trace budget (i + 1)
unfolding last_taken
one-taken s trace budget i w e = ap (λ (x : Walking). x.taken) e ∙ ap (last_taken s trace budget) (sym (add-one i))

-- On a session of zeros, which is that of a refused property, nothing is taken.
never_taken : (trace : List ℕ) (budget times : ℕ) → 0 ≡ last_taken no_session trace budget times
unfolding last_taken
never_taken trace budget zero = refl
never_taken trace budget (suc times) = sym (ap (λ (x : Walking). x.taken) (walk_refused no_session trace budget zeros_named))

zeros_fresh : (fresh_of zeros).session ≡ no_session
zeros_fresh = ap (λ (r : Stepping). r.session) (fresh-refused zeros 1 (length-refused zeros refl) (λ e. omega arith))

pub returns-in_default : goal.returns-in_default
returns-in_default c =
    never_taken c.args.trace.now c.args.budget c.args.times
    ∙ ap (λ (s : Session). last_taken s c.args.trace.now c.args.budget c.args.times) (sym zeros_fresh)
    ∙ ap (λ (r : PropertyRead). last_taken (fresh_of r.property).session c.args.trace.now c.args.budget c.args.times) c.in_default.ensures

pub loop-init : goal.loop-init
loop-init c = none-taken _ _ _

pub loop-preserved : goal.loop-preserved
loop-preserved c = one-taken _ _ _ _ c.walk-taken.result c.walk-taken.ensures
