-- `one_record::marked` meets its contract: what is lent is ready for a call.
use Rattle.one_record.proofs.marked.Goals as goal

pub mark-requires : goal.mark-requires
mark-requires c = c.args.lent.now.ready
