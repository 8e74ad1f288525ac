-- `judged_rest::turn` meets its contract: where the line does not wait, and by what the call on lent rows answers.
use mathlib.Core.Path.{sym, ◌∙◌}
use Rattle.std.proofs.lemmas.Result.{err_from_is_err_and}
use Rattle.session_record.specs.Loan.{memory_in}
use Rattle.judged_rest.proofs.Steps.{turn_passed, turn_not_taken, turn_taken}
use Rattle.judged_rest.proofs.turn.Goals as goal

pub returns-then-not-waits : goal.returns-then-not-waits
returns-then-not-waits c =
    turn_passed _ _ _ _ (memory_in c.args.lent.now) c.args.lent.now.ready c.args.before (sym c.waits.ensures ∙ c.if-not-waits.true)

pub returns-in_err-answer : goal.returns-in_err-answer
returns-in_err-answer c =
    let p = err_from_is_err_and c.from_residual.result c.from_residual.ensures.1 in
    rw (p.1, p.2)
    (turn_not_taken _ _ _ _ (memory_in c.args.lent.now) c.args.lent.now.ready c.args.before (sym c.waits.ensures ∙ c.if-not-waits.false) c.line.result
    (memory_in c.line.new.lent) c.line.ensures.advanced _ c.in_err-answer.was)

pub returns : goal.returns
returns c =
    turn_taken _ _ _ _ (memory_in c.args.lent.now) c.args.lent.now.ready c.args.before (sym c.waits.ensures ∙ c.if-not-waits.false) c.line.result
    (memory_in c.line.new.lent) c.line.ensures.advanced _ c.in_ok-answer.was _ c.told.ensures
