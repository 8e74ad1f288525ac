-- `one_record::take` meets its contract: what was read, kind by kind.
use Rattle.std.specs.Prelude.{Result, Ok, Err}
use mathlib.Core.Path.{refl, ◌∙◌, ap}
use Rattle.std.proofs.lemmas.Result.{err_from_is_err_and}
use Rattle.outcomes.specs.declared.Refusal.{Refusal}
use Rattle.record_form.specs.declared.Record.{Record}
use Rattle.record_form.specs.Record.{read_case}
use Rattle.trace_form.specs.ReadAs.{case_as}
use Rattle.one_record.proofs.Takes.{taken_known, refused_known}
use Rattle.one_record.proofs.take.Goals as goal

pub returns-in_err-line-in-Input-clause-takes : goal.returns-in_err-line-in-Input-clause-takes
returns-in_err-line-in-Input-clause-takes c =
    let p = err_from_is_err_and c.from_residual-in_err-line-in-Input.result c.from_residual-in_err-line-in-Input.ensures.1 in
    refused_known (ap (λ (r : Result Record Refusal). case_as (read_case r)) (c.in_ok-action.was ∙ ap Ok c.in-Input.is)) c.line.ensures.advanced c.in_err-line-in-Input.was (p.1 ∙ ap Err p.2)

pub returns-in_ok-line-in-Input-clause-takes : goal.returns-in_ok-line-in-Input-clause-takes
returns-in_ok-line-in-Input-clause-takes c =
    taken_known (ap (λ (r : Result Record Refusal). case_as (read_case r)) (c.in_ok-action.was ∙ ap Ok c.in-Input.is)) c.line.ensures.advanced c.in_ok-line-in-Input.was

pub returns-in_err-line-in-Output-clause-takes : goal.returns-in_err-line-in-Output-clause-takes
returns-in_err-line-in-Output-clause-takes c =
    let p = err_from_is_err_and c.from_residual-in_err-line-in-Output.result c.from_residual-in_err-line-in-Output.ensures.1 in
    refused_known (ap (λ (r : Result Record Refusal). case_as (read_case r)) (c.in_ok-action.was ∙ ap Ok c.in-Output.is)) c.line-in-Output.ensures.advanced c.in_err-line-in-Output.was (p.1 ∙ ap Err p.2)

pub returns-in_ok-line-in-Output-clause-takes : goal.returns-in_ok-line-in-Output-clause-takes
returns-in_ok-line-in-Output-clause-takes c =
    taken_known (ap (λ (r : Result Record Refusal). case_as (read_case r)) (c.in_ok-action.was ∙ ap Ok c.in-Output.is)) c.line-in-Output.ensures.advanced c.in_ok-line-in-Output.was

pub returns-in_err-reply-in-Gap-clause-takes : goal.returns-in_err-reply-in-Gap-clause-takes
returns-in_err-reply-in-Gap-clause-takes c =
    let p = err_from_is_err_and c.from_residual-in_err-reply-in-Gap.result c.from_residual-in_err-reply-in-Gap.ensures.1 in
    refused_known (ap (λ (r : Result Record Refusal). case_as (read_case r)) (c.in_ok-action.was ∙ ap Ok c.in-Gap.is)) c.in_err-reply-in-Gap.ensures refl (p.1 ∙ ap Err p.2)

pub invariant_of-lent : goal.invariant_of-lent
invariant_of-lent c = record { ready = c.in_ok-reply-in-Gap.ensures.ready }

pub returns-in_ok-reply-in-Gap-clause-takes : goal.returns-in_ok-reply-in-Gap-clause-takes
returns-in_ok-reply-in-Gap-clause-takes c =
    taken_known (ap (λ (r : Result Record Refusal). case_as (read_case r)) (c.in_ok-action.was ∙ ap Ok c.in-Gap.is)) c.in_ok-reply-in-Gap.ensures refl
