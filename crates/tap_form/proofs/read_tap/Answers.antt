-- `tap_form::read_tap` meets its contract.
use Rattle.std.proofs.Common.{arith}
use Rattle.fields.proofs.Laws.{is_field_lt}
use Rattle.tap_form.proofs.Reading.{tap_read_fields, tap_read_short}
use Rattle.tap_form.proofs.read_tap.Goals as goal

pub returns-then-s-lt-TAP_SIZE : goal.returns-then-s-lt-TAP_SIZE
returns-then-s-lt-TAP_SIZE c = tap_read_short c.args.s.now _ (omega arith)

pub tap_of-requires : goal.tap_of-requires
tap_of-requires c = is_field_lt _ _ 2 c.kind_field.ensures

pub returns : goal.returns
returns c =
    tap_read_fields _ _ _ _ _ _ (omega arith) c.kind_field.ensures
    c.action_field.ensures c.counter_field.ensures c.tap_of.ensures
