-- `session_record::made` meets its contract: so many cuts are in use.
use mathlib.Core.Path.{◌∙◌}
use Rattle.session_record.specs.Lent.{memory}
use Rattle.session_record.proofs.Making.{packed_in}
use Rattle.session_record.proofs.made.Goals as goal

pub returns : goal.returns
returns c = c.stored.ensures ∙ packed_in (memory c.args.p c.args.rows.now c.args.status) c.requires c.cuts_in_use-cuts.result c.cuts_in_use-cuts.ensures.0
