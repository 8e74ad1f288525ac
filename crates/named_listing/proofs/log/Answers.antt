-- `named_listing::log` is safe: records are read behind a property that was taken, whose session is fresh.
use Rattle.listing_shell.proofs.Listed.{begun_fresh}
use Rattle.named_listing.proofs.log.Goals as goal

pub records-requires : goal.records-requires
records-requires g c = begun_fresh c.begun-b.ensures.0 (c.shown.ensures c.if-shown.true)
