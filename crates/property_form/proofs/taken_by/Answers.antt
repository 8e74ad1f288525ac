-- `property_form::taken_by` meets its contract: the form's size, or 0 after a refusal.
use Rattle.std.proofs.Common.{◌≡◌, ℕ, ◌∙◌, sym, ap, refl, arith, List, Ok}
use Rattle.outcomes.proofs.Same.{refusal_not_0}
use Rattle.property.specs.declared.Property.{Property}
use Rattle.property.proofs.Refusal.{taken_bounds}
use Rattle.property_form.specs.Form.{form_size}
use Rattle.property_form.specs.Read.{length_read, property_read, read_numbers}
use Rattle.property_form.proofs.Answers.{refusal-read, read_ok, read_good, taken_none, taken-all}
use Rattle.property_form.proofs.taken_by.Goals as goal

size : (s : List ℕ) (p : Property) → p ≡ property_read s → p.n ≡ length_read s
unfolding property_read
size s p e = ap (λ q. q.n) e

pub form_bytes-requires : goal.form_bytes-requires
form_bytes-requires c =
    let p = c.in-Ok.p in
    omega (arith, taken_bounds p (read_good c.args.s.now (read_numbers (Ok p)) c.in-Ok.ensures refl))

pub returns-in-Ok : goal.returns-in-Ok
returns-in-Ok c =
    let s = c.args.s.now in
    let h = read_ok s c.in-Ok.p c.in-Ok.ensures in
    c.form_bytes.ensures ∙ ap form_size (size s c.in-Ok.p h.1) ∙ sym (taken-all s h.0)

pub returns-in-Err : goal.returns-in-Err
returns-in-Err c =
    let s = c.args.s.now in
    taken_none s (λ z. refusal_not_0 c.in-Err.field-0 (ap (λ x. x.refusal) c.in-Err.ensures ∙ refusal-read s ∙ z))
