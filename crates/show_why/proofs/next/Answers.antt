-- `show_why::next` meets its contract: no more bytes came than a record has.
use Rattle.std.proofs.Common.{◌≡◌, ◌≤◌, ℕ, List, length, take, length-take, arith}
use Rattle.record_form.specs.Record.{record_size}
use Rattle.show_why.proofs.Going.{read_next}
use Rattle.show_why.proofs.next.Goals as goal

few : (n : ℕ) (bytes : List ℕ) → length bytes ≡ record_size → length (take n bytes) ≤ record_size
few n bytes long = omega (arith, length-take n bytes)

pub returns : goal.returns
returns g c =
    read_next _ (few c.read_full-got.result c.read_full-got.new.buf (omega arith)) c.read_record-read.ensures c.take.ensures.goes
