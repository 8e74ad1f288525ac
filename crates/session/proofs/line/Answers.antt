-- `session::line` meets its contract: refusal 10, or the call on what is lent of the record.
use mathlib.Core.Path.{refl, sym, ap, ◌∙◌}
use Rattle.std.specs.Prelude.{Ok, Err}
use Rattle.meaning.specs.Calls.{Call}
use Rattle.cuts.specs.Steps.{line_of}
use Rattle.session_record.specs.Step.{stepping_in}
use Rattle.session_record.proofs.Range.{ranged}
use Rattle.session_record.proofs.Steps.{named_refused}
use Rattle.session_record.proofs.Lending.{lends, taken_back, refused_back}
use Rattle.session.proofs.line.Goals as goal

pub returns-then-unfit : goal.returns-then-unfit
returns-then-unfit c = ap stepping_in c.unmoved.ensures ∙ sym (named_refused c.args.s (Call.line (line_of c.args.output c.args.action c.args.stamp)) (sym c.unfit.ensures ∙ c.if-unfit.true))

pub fill-requires : goal.fill-requires
fill-requires c = ((ranged c.args.s (sym c.unfit.ensures ∙ c.if-unfit.false)).formed, refl)

pub new-steps-requires : goal.new-steps-requires
new-steps-requires c = ((ranged c.args.s (sym c.unfit.ensures ∙ c.if-unfit.false)).formed, c.fill.ensures)

pub invariant_of-lent : goal.invariant_of-lent
invariant_of-lent c =
    record {
      ready =
          lends c.args.s (sym c.unfit.ensures ∙ c.if-unfit.false) c.new-steps.result.property c.new-steps.ensures c.rows_of-rows.result c.rows_of-rows.ensures.0
          c.rows_of-rows.ensures.2;
    }

pub returns : goal.returns
returns c =
    taken_back c.args.s (sym c.unfit.ensures ∙ c.if-unfit.false) c.new-steps.result.property c.new-steps.ensures c.rows_of-rows.result c.rows_of-rows.ensures.0
    (Call.line (line_of c.args.output c.args.action c.args.stamp)) (Ok c.in-Ok.told) c.in-Ok.ensures.advanced c.in-Ok.told refl c.made.result c.made.ensures

pub returns-in-Err : goal.returns-in-Err
returns-in-Err c =
    refused_back c.args.s (sym c.unfit.ensures ∙ c.if-unfit.false) c.new-steps.result.property c.new-steps.ensures c.rows_of-rows.result c.rows_of-rows.ensures.0
    (Call.line (line_of c.args.output c.args.action c.args.stamp)) (Err c.in-Err.refusal) c.in-Err.ensures.advanced c.in-Err.refusal refl c.unmoved-in-Err.result c.unmoved-in-Err.ensures
