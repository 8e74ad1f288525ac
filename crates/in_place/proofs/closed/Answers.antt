-- `in_place::closed` meets its contract: while a run is open, what the rows hold is in its ranges.
use native.Mathlib.Omega.{arith}
use Rattle.property.proofs.Refusal.{taken_bounds}
use Rattle.session_record.specs.Loan.{memory_in}
use Rattle.session_record.proofs.Ready.{open_usable}
use Rattle.in_place.proofs.closed.Goals as goal

pub closed_count-requires : goal.closed_count-requires
closed_count-requires c =
    let lent = c.args.lent.now in
    let u = open_usable (memory_in lent) lent.ready c.requires in
    (omega (arith, taken_bounds lent.steps.now.property u.formed), u.room, u.stamps)
