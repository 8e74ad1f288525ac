-- `in_place::line` meets its contract: refused, one more line of the run, skipped, or the first line of a new run.
use Prim.Native.Nat.{ℕ, ◌≤◌, ◌<◌}
use mathlib.Core.Path.{◌≡◌, refl, sym, subst, ◌∙◌}
use mathlib.Core.Bool.{Bool, true, false, not}
use Rattle.std.proofs.lemmas.Result.{err_from_is_err_and}
use Rattle.outcomes.specs.declared.Refusal.TheVariants.{TooManyOpen}
use Rattle.outcomes.proofs.Same.{refusal_not_0}
use Rattle.meaning.specs.Limits.{most_open}
use Rattle.meaning.specs.Calls.{Call}
use Rattle.cuts.specs.Steps.{line_of}
use Rattle.session_record.specs.Lent.{held_in}
use Rattle.session_record.specs.Loan.{memory_in}
use Rattle.session_record.proofs.Ready.{open_usable}
use Rattle.answers.proofs.Lines.{line_refused, line-limit}
use Rattle.answers.proofs.Advances.{Leads, refused_leads, skipped_leads, begun_leads, crowded_is, next_leads}
use Rattle.in_place.proofs.line.Goals as goal
use Rattle.in_place.proofs.line.Goals.{After-run_on-reply, After-blinded-reply, After-begin_with-reply}

is_open : (b : Bool) → not b ≡ true → b ≡ false
is_open true e = sym e
is_open false e = refl

is_blind : (b : Bool) → not b ≡ false → b ≡ true
is_blind true e = refl
is_blind false e = sym e

pub returns-in_err-refused-clause-advanced : goal.returns-in_err-refused-clause-advanced
returns-in_err-refused-clause-advanced c =
    let p = err_from_is_err_and c.from_residual.result c.from_residual.ensures.1 in
    let lent = c.args.lent.now in
    let l = c.args.line in
    let refusal = c.in_err-refused.field-0.0 in
    rw (p.1, p.2)
    (refused_leads (memory_in lent) lent.ready (Call.line (line_of l.output l.action l.stamp)) refusal
    (line_refused lent.steps.now.property (held_in (memory_in lent)) l.output l.action l.stamp _ c.in_err-refused.ensures (refusal_not_0 refusal)))

pub returns-then-open_after-gt-MOST_OPEN-clause-advanced : goal.returns-then-open_after-gt-MOST_OPEN-clause-advanced
returns-then-open_after-gt-MOST_OPEN-clause-advanced c =
    let lent = c.args.lent.now in
    let l = c.args.line in
    refused_leads (memory_in lent) lent.ready (Call.line (line_of l.output l.action l.stamp)) TooManyOpen
    (crowded_is (memory_in lent) lent.ready l.output l.action l.stamp 0 c.in_ok-refused.ensures refl (is_open _ c.if-not-clock.true) c.closed-gone.result c.closed-gone.ensures
    (subst (λ (n : ℕ). most_open < n) c.open_after.ensures c.if-open_after-gt-MOST_OPEN.true))

pub run_on-reply-requires-clause-usable : goal.run_on-reply-requires-clause-usable
run_on-reply-requires-clause-usable c = let lent = c.args.lent.now in open_usable (memory_in lent) lent.ready (is_open _ c.if-not-clock.true)

pub run_on-reply-requires-clause-closes : goal.run_on-reply-requires-clause-closes
run_on-reply-requires-clause-closes c =
    let lent = c.args.lent.now in
    let l = c.args.line in (
      c.closed-gone.ensures,
      line-limit lent.steps.now.property (held_in (memory_in lent)) l.output l.action l.stamp 0 c.in_ok-refused.ensures refl,
      subst (λ (n : ℕ). n ≤ most_open) c.open_after.ensures c.if-open_after-gt-MOST_OPEN.false,
    )

next : (c : After-run_on-reply)
    → Leads (memory_in c.args.lent.now) (Call.line (line_of c.args.line.output c.args.line.action c.args.line.stamp)) c.run_on-reply.new.rows c.run_on-reply.result
next c =
    let lent = c.args.lent.now in
    let l = c.args.line in
    next_leads (memory_in lent) lent.ready l.output l.action l.stamp 0 c.in_ok-refused.ensures refl (is_open _ c.if-not-clock.true) c.closed-gone.result c.closed-gone.ensures
    (subst (λ (n : ℕ). n ≤ most_open) c.open_after.ensures c.if-open_after-gt-MOST_OPEN.false)
    c.ticked-after.result (c.ticked-after.ensures (line_of l.output l.action l.stamp) refl) c.run_on-reply.new.rows c.run_on-reply.result c.run_on-reply.ensures

pub invariant_of-lent : goal.invariant_of-lent
invariant_of-lent c = record { ready = (next (goal.at.invariant_of-lent c).After-run_on-reply).ready }

pub returns-then-not-clock-clause-advanced : goal.returns-then-not-clock-clause-advanced
returns-then-not-clock-clause-advanced c = next (goal.at.returns-then-not-clock-clause-advanced c).After-run_on-reply

skipped : (c : After-blinded-reply)
    → Leads (memory_in c.args.lent.now) (Call.line (line_of c.args.line.output c.args.line.action c.args.line.stamp)) c.args.lent.now.rows.now c.blinded-reply.result
skipped c =
    let lent = c.args.lent.now in
    let l = c.args.line in
    skipped_leads (memory_in lent) lent.ready l.output l.action l.stamp 0 c.in_ok-refused.ensures refl (is_blind _ c.if-not-clock.false)
    (sym c.beyond.ensures ∙ c.if-not-beyond.true) c.ticked.result (c.ticked.ensures (line_of l.output l.action l.stamp) refl) c.blinded-reply.result c.blinded-reply.ensures

pub invariant_of-lent-then-not-beyond : goal.invariant_of-lent-then-not-beyond
invariant_of-lent-then-not-beyond c = record { ready = (skipped (goal.at.invariant_of-lent-then-not-beyond c).After-blinded-reply).ready }

pub returns-then-not-beyond-clause-advanced : goal.returns-then-not-beyond-clause-advanced
returns-then-not-beyond-clause-advanced c = skipped (goal.at.returns-then-not-beyond-clause-advanced c).After-blinded-reply

begun : (c : After-begin_with-reply)
    → Leads (memory_in c.args.lent.now) (Call.line (line_of c.args.line.output c.args.line.action c.args.line.stamp)) c.begin_with-reply.new.rows c.begin_with-reply.result
begun c =
    let lent = c.args.lent.now in
    let l = c.args.line in
    begun_leads (memory_in lent) lent.ready l.output l.action l.stamp 0 c.in_ok-refused.ensures refl (is_blind _ c.if-not-clock.false)
    (sym c.beyond.ensures ∙ c.if-not-beyond.false) c.ticked-2.result (c.ticked-2.ensures (line_of l.output l.action l.stamp) refl) c.begin_with-reply.new.rows c.begin_with-reply.result c.begin_with-reply.ensures

pub invariant_of-lent-2 : goal.invariant_of-lent-2
invariant_of-lent-2 c = record { ready = (begun (goal.at.invariant_of-lent-2 c).After-begin_with-reply).ready }

pub returns-clause-advanced : goal.returns-clause-advanced
returns-clause-advanced c = begun (goal.at.returns-clause-advanced c).After-begin_with-reply
