-- `record_fields::action_field` meets its contract: six bits fit a byte.
use native.Mathlib.Omega.{arith}
use Rattle.fields.proofs.Laws.{is_field_lt}
use Rattle.record_fields.proofs.action_field.Goals as goal

pub overflow_cast-result : goal.overflow_cast-result
overflow_cast-result c = omega (arith, is_field_lt _ _ 6 c.field_at.ensures)
