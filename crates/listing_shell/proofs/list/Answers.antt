-- `listing_shell::list` is safe: records are read behind a property that was taken.
use Rattle.listing_shell.proofs.Listed.{begun_fresh}
use Rattle.listing_shell.proofs.list.Goals as goal

pub records-requires : goal.records-requires
records-requires g c =
    let b = c.begun-b in
    let more = c.shown.ensures c.if-shown.true in
    (begun_fresh b.ensures.0 more, b.ensures.1 more)
