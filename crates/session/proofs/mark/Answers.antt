-- `session::mark` meets its contract: refusal 10, or the mark on the record's rows.
use mathlib.Core.Path.{refl, sym, ap, ◌∙◌}
use Rattle.std.specs.Prelude.{Ok, Err}
use Rattle.meaning.specs.Calls.{mark_at}
use Rattle.session_record.specs.Step.{stepping_in}
use Rattle.session_record.proofs.Steps.{named_refused}
use Rattle.session_record.proofs.Lending.{lends, taken_back, refused_back}
use Rattle.session.proofs.mark.Goals as goal

pub returns-then-unfit : goal.returns-then-unfit
returns-then-unfit c = ap stepping_in c.unmoved.ensures ∙ sym (named_refused c.args.s (mark_at c.args.lost c.args.stamp) (sym c.unfit.ensures ∙ c.if-unfit.true))

pub mark-requires : goal.mark-requires
mark-requires c = lends c.args.s (sym c.unfit.ensures ∙ c.if-unfit.false) c.args.s.property refl c.rows_of-rows.result c.rows_of-rows.ensures.0 c.rows_of-rows.ensures.2

pub made-requires : goal.made-requires
made-requires c = c.in-Ok.ensures.ready

pub returns-in-Ok : goal.returns-in-Ok
returns-in-Ok c =
    taken_back c.args.s (sym c.unfit.ensures ∙ c.if-unfit.false) c.args.s.property refl c.rows_of-rows.result c.rows_of-rows.ensures.0
    (mark_at c.args.lost c.args.stamp) (Ok c.in-Ok.reply.told) c.in-Ok.ensures c.in-Ok.reply.told refl c.made.result c.made.ensures

pub returns-in-Err : goal.returns-in-Err
returns-in-Err c =
    refused_back c.args.s (sym c.unfit.ensures ∙ c.if-unfit.false) c.args.s.property refl c.rows_of-rows.result c.rows_of-rows.ensures.0
    (mark_at c.args.lost c.args.stamp) (Err c.in-Err.refusal) c.in-Err.ensures c.in-Err.refusal refl c.unmoved-in-Err.result c.unmoved-in-Err.ensures
