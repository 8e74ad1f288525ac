-- `answers::standing` meets its contract: what is lent is ready for a call.
use Rattle.answers.proofs.standing.Goals as goal

pub standing_on-requires : goal.standing_on-requires
standing_on-requires c = c.args.lent.now.ready
