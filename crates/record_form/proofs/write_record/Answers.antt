-- `record_form::write_record` meets its contract.
use Rattle.std.proofs.Common.{length, sym, ◌∙◌}
use Rattle.outcomes.proofs.Same.{refusal_not_0}
use Rattle.std.proofs.lemmas.Result.{err_from_is_err_and}
use Rattle.record_form.proofs.Writing.{is_writable, written-refused, written-form}
use Rattle.record_form.proofs.write_record.Goals as goal

pub returns-in_err-refused : goal.returns-in_err-refused
returns-in_err-refused c =
    let p = err_from_is_err_and c.from_residual.result c.from_residual.ensures.1 in
    rw (p.1, p.2)
    record {
      number = c.in_err-refused.ensures;
      bytes = sym (written-refused _ _ _ _ _ _ c.in_err-refused.ensures (refusal_not_0 c.in_err-refused.field-0.0));
    }

pub overflow_sub-stamp : goal.overflow_sub-stamp
overflow_sub-stamp c = (is_writable _ _ _ _ (length c.args.buf.now) (sym c.in_ok-refused.ensures)).not-below

pub put_record-requires : goal.put_record-requires
put_record-requires c = (is_writable _ _ _ _ _ (sym c.in_ok-refused.ensures)).fits

pub returns : goal.returns
returns c =
    record {
      number = c.in_ok-refused.ensures;
      bytes = c.put_record.ensures ∙ sym (written-form _ _ _ _ _ (sym c.in_ok-refused.ensures));
    }
