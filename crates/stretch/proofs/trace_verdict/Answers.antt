-- `stretch::trace_verdict` meets its contract: by how the walk over the trace stopped.
use Prim.Native.Nat.{ℕ}
use mathlib.Core.Path.{◌≡◌, sym, ap, ◌∙◌}
use Rattle.session_record.specs.Record.{record_of}
use Rattle.session_record.specs.Lent.{record_in, memory}
use Rattle.session_record.specs.Loan.{memory_in}
use Rattle.cuts.specs.Steps.{fresh_by}
use Rattle.walk.specs.Walk.{stop_in}
use Rattle.stretch.proofs.Judging.{fresh_begins, fresh_lends, standing_lent, judged_budget, judged-behind, judged-ended, judged-refused}
use Rattle.stretch.proofs.trace_verdict.Goals as goal
use Rattle.stretch.proofs.trace_verdict.Goals.{After-records-taken}

begins : (c : After-records-taken)
    → record_in (memory c.new-steps.result.property c.rows_of-rows.result c.fresh.result.session.shared.status) ≡ record_of c.args.p (fresh_by c.args.p)
begins c = fresh_begins c.args.p c.requires c.fresh.result c.fresh.ensures c.new-steps.result.property c.new-steps.ensures c.rows_of-rows.result c.rows_of-rows.ensures.0

pub new-steps-requires : goal.new-steps-requires
new-steps-requires c = (c.requires, c.fill.ensures)

pub invariant_of-lent : goal.invariant_of-lent
invariant_of-lent c =
    record {
      ready =
          fresh_lends c.args.p c.requires c.fresh.result c.fresh.ensures c.new-steps.result.property c.new-steps.ensures c.rows_of-rows.result c.rows_of-rows.ensures.0
          c.rows_of-rows.ensures.2;
    }

pub returns-in-Budget : goal.returns-in-Budget
returns-in-Budget c =
    sym (judged_budget c.args.p c.args.trace.now _ (begins (goal.at.returns-in-Budget c).After-records-taken) _ c.records-taken.ensures.gone.walked (ap stop_in c.in-Budget.is))

pub returns-then-read-trace : goal.returns-then-read-trace
returns-then-read-trace c =
    sym (judged-behind c.args.p c.args.trace.now _ (begins (goal.at.returns-then-read-trace c).After-records-taken) _ c.records-taken.ensures.gone.walked (ap stop_in c.in-End.is) c.if-read-trace.true)

pub returns-else-read-trace : goal.returns-else-read-trace
returns-else-read-trace c =
    ap (λ (v : ℕ). record { refusal = 0; verdict = v; count = c.records-taken.result.taken })
    (standing_lent (memory_in c.records-taken.new.lent) c.records-taken.ensures.gone.ready c.standing.result c.standing.ensures)
    ∙ sym (judged-ended c.args.p c.args.trace.now _ (begins (goal.at.returns-else-read-trace c).After-records-taken) _ c.records-taken.ensures.gone.walked (ap stop_in c.in-End.is) c.if-read-trace.false)

pub returns-in-Refused : goal.returns-in-Refused
returns-in-Refused c =
    sym (judged-refused c.args.p c.args.trace.now _ (begins (goal.at.returns-in-Refused c).After-records-taken) _ c.records-taken.ensures.gone.walked _ (ap stop_in c.in-Refused.is))
