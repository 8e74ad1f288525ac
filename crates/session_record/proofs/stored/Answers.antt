-- `session_record::stored` meets its contract: two pairs of arrays, and the span from the first place on.
use mathlib.Core.Path.{◌∙◌}
use Rattle.session_record.proofs.Making.{packed_made}
use Rattle.session_record.proofs.stored.Goals as goal

pub returns : goal.returns
returns c =
    let a = c.args in
    c.of_arrays.ensures
    ∙ packed_made a.p a.rows.now a.span c.spanning.result a.cuts a.clock c.packed-inputs.result c.packed-words.result
    c.spanning.ensures c.packed-inputs.ensures c.packed-words.ensures
