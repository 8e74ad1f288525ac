-- `property_form::read_property` meets its contract: at each `return` the refusal is the first that holds.
use Rattle.std.proofs.Common.{◌≡◌, ◌<◌, ℕ, ◌∙◌, sym, ap, true, arith}
use Rattle.std.proofs.lemmas.Result.{err_from_is_err_and}
use borrow.Author.Tests.{lt-ltb, le-ltb}
use Rattle.meaning.specs.Numbers.{length_outside, property_refusal}
use Rattle.property.specs.Meant.{meant}
use Rattle.property.proofs.Refusal.{length-refused}
use Rattle.outcomes.specs.declared.Refusal.TheVariants.{Length}
use Rattle.property_form.specs.Read.{length_read, property_read}
use Rattle.property_form.proofs.Answers.{of-property, read_err, read_broken, read_taken}
use Rattle.property_form.proofs.read_property.Goals as goal

above : (n : ℕ) → 32 < n → length_outside n ≡ true
above n h = simp (le-ltb n 1 (omega arith), lt-ltb 32 n h)

pub returns-in_err-whole : goal.returns-in_err-whole
returns-in_err-whole c =
    let p = err_from_is_err_and c.from_residual.result c.from_residual.ensures.1 in
    rw (p.1, p.2) (read_broken c.args.s.now c.in_err-whole.field-0.0 c.in_err-whole.ensures)

pub returns-then-n-gt-MOST_ACTIONS : goal.returns-then-n-gt-MOST_ACTIONS
unfolding property_read
returns-then-n-gt-MOST_ACTIONS c =
    let s = c.args.s.now in
    read_err s Length
    (sym (of-property s c.in_ok-whole.ensures ∙ length-refused (property_read s) (above (length_read s) (omega arith))))

pub returns-in_err-refused : goal.returns-in_err-refused
returns-in_err-refused c =
    let s = c.args.s.now in
    let p = err_from_is_err_and c.from_residual-in_err-refused.result c.from_residual-in_err-refused.ensures.1 in
    rw (p.1, p.2) (read_err s c.in_err-refused.field-0.0
    (c.in_err-refused.ensures ∙ ap (λ q. property_refusal (meant q)) c.fields_of-p.ensures ∙ sym (of-property s c.in_ok-whole.ensures)))

pub returns : goal.returns
returns c =
    let s = c.args.s.now in
    read_taken s c.fields_of-p.result
    (of-property s c.in_ok-whole.ensures ∙ sym (c.in_ok-refused.ensures ∙ ap (λ q. property_refusal (meant q)) c.fields_of-p.ensures))
    c.fields_of-p.ensures
