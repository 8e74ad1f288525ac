-- What is lent, as memory.
use Rattle.session_record.specs.declared.loan.Lent.{Lent}
use Rattle.session_record.specs.Lent.{Memory, memory}

abbrev pub memory_in : Lent → Memory
memory_in lent = memory lent.steps.now.property lent.rows.now lent.status
