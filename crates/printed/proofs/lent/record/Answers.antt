-- `printed::lent::record` meets its contract: what the record did is what it adds.
use Rattle.printed.proofs.Listed.{did-adds}
use Rattle.printed.proofs.lent.record.Goals as goal

pub returns-clause-adds : goal.returns-clause-adds
returns-clause-adds c = did-adds c.args.count c.take-did.ensures.takes c.adds.ensures
