-- `stretch::judge` meets its contract: the property first, then the trace.
use mathlib.Core.Path.{refl, sym, ap, ◌∙◌}
use Rattle.std.specs.Prelude.{Ok, Err}
use Rattle.std.proofs.lemmas.Result.{err_from_is_err_and}
use Rattle.outcomes.proofs.Same.{refusal_not_0}
use Rattle.property_form.specs.Read.{read_numbers}
use Rattle.stretch.proofs.Judging.{property-refused, bytes-behind, nothing_behind, taken_good, taken-few}
use Rattle.stretch.proofs.judge.Goals as goal

pub returns-in_err-p : goal.returns-in_err-p
returns-in_err-p c =
    let p = err_from_is_err_and c.from_residual.result c.from_residual.ensures.1 in
    let refusal = c.in_err-p.field-0.0 in
    rw (p.1, p.2) (sym (property-refused c.args.property.now c.args.trace.now (read_numbers (Err refusal)) c.in_err-p.ensures (refusal_not_0 refusal)))

pub form_bytes-requires : goal.form_bytes-requires
form_bytes-requires c = taken-few c.args.property.now c.args.trace.now (read_numbers (Ok c.in_ok-p.p)) c.in_ok-p.ensures refl

pub returns-then-form_bytes-property : goal.returns-then-form_bytes-property
returns-then-form_bytes-property c =
    sym (bytes-behind c.args.property.now c.args.trace.now (read_numbers (Ok c.in_ok-p.p)) c.in_ok-p.ensures refl c.form_bytes.result c.form_bytes.ensures c.if-form_bytes-property.true)

pub trace_verdict-requires : goal.trace_verdict-requires
trace_verdict-requires c = taken_good c.args.property.now c.args.trace.now (read_numbers (Ok c.in_ok-p.p)) c.in_ok-p.ensures refl

pub returns : goal.returns
returns c =
    c.trace_verdict.ensures
    ∙ sym (nothing_behind c.args.property.now c.args.trace.now (read_numbers (Ok c.in_ok-p.p)) c.in_ok-p.ensures refl c.form_bytes.result c.form_bytes.ensures c.if-form_bytes-property.false)
