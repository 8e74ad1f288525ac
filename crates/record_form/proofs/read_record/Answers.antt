-- `record_form::read_record` meets its contract.
use native.Mathlib.Omega.{arith}
use Rattle.fields.proofs.Laws.{is_field_lt}
use Rattle.record_form.proofs.Reading.{read_fields, read_short}
use Rattle.record_form.proofs.read_record.Goals as goal

pub returns-then-s-lt-RECORD_SIZE : goal.returns-then-s-lt-RECORD_SIZE
returns-then-s-lt-RECORD_SIZE c = read_short c.args.s.now _ (omega arith)

pub record_of-requires : goal.record_of-requires
record_of-requires c = is_field_lt _ _ 2 c.kind_field.ensures

pub returns : goal.returns
returns c =
    read_fields _ _ _ _ _ _ (omega arith) c.kind_field.ensures
    c.action_field.ensures c.stamp_field.ensures c.record_of.ensures
