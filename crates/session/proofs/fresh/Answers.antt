-- `session::fresh` meets its contract: the property's refusal decides.
use Rattle.std.specs.Prelude.{Ok, Err}
use mathlib.Core.Path.{sym, ap, ◌∙◌}
use Rattle.outcomes.specs.declared.Verdict.TheVariants.{Clear}
use Rattle.outcomes.proofs.Same.{refusal_not_0}
use Rattle.session_record.specs.declared.Session.{Session}
use Rattle.session_record.specs.Step.{stepping_in}
use Rattle.session_record.specs.Lent.{blank}
use Rattle.session_record.proofs.Steps.{fresh-refused, fresh-taken}
use Rattle.session_record.proofs.Making.{blank-fresh, blank-zeros}
use Rattle.session.proofs.fresh.Goals as goal

pub returns-in-Ok : goal.returns-in-Ok
returns-in-Ok c =
    let p = c.args.p in
    ap (λ (s : Session). stepping_in (record { answer = Ok (record { verdict = Clear; open_count = 0 }); session = s }))
    (c.blank.ensures ∙ ap (blank p) c.start.ensures ∙ blank-fresh p)
    ∙ sym (fresh-taken p (sym c.in-Ok.ensures))

pub returns-in-Err : goal.returns-in-Err
returns-in-Err c =
    let refusal = c.in-Err.refusal in
    ap stepping_in c.unmoved.ensures
    ∙ ap (λ (s : Session). stepping_in (record { answer = Err refusal; session = s }))
    (c.blank-in-Err.ensures ∙ (λ i. blank (c.none.ensures i) (c.none-in-Err.ensures i)) ∙ blank-zeros)
    ∙ sym (fresh-refused c.args.p _ (sym c.in-Err.ensures) (refusal_not_0 refusal))
