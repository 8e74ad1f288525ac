-- `show_why::tell` is safe: there are no more lines than places, and what is told was found of the run that is open.
use Rattle.show_why.proofs.Told.{explained}
use Rattle.show_why.proofs.tell.Goals as goal

pub found-requires : goal.found-requires
found-requires g c = explained c.args.kept.now _ _ c.requires c.if-count-gt-MOST_LINES.false c.explain-answer.ensures
