-- `session_record::rows_of` meets its contract: the four arrays, each with its places.
use mathlib.Core.Path.{refl}
use borrow.Author.Rules.{rules}
use Rattle.session_record.proofs.Making.{four_room}
use Rattle.session_record.proofs.rows_of.Goals as goal

pub returns : goal.returns
returns c =
    let s = c.args.s in
    (refl, refl, four_room s.shared.held s.shared.acts s.row.masks s.row.armed (search rules) (search rules) (search rules) (search rules))
