-- `listing_shell::next` meets its contract: what was added is what its bytes give, and the rows are ready for the next record.
use Rattle.std.proofs.Common.{ℕ, length-take, arith}
use Rattle.session_record.specs.Loan.{memory_in}
use Rattle.listing_shell.proofs.Listed.{front-few, lists}
use Rattle.listing_shell.proofs.next.Goals as goal

pub returns : goal.returns
returns g c =
    let a = c.args in
    let got = c.read_full-got in
    lists a.form (memory_in a.lent.now) a.lent.now.ready c.read_record-read.ensures
    (front-few got.result _ _ (omega (arith, length-take {A = ℕ})))
    c.«record».ensures.adds
