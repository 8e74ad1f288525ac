-- `cuts::cut_at` meets its contract: the two words of the cut.
use Rattle.cuts.proofs.Sweeps.{cut_same}
use Rattle.cuts.proofs.cut_at.Goals as goal

pub returns : goal.returns
returns c = cut_same _ _ _ _ c.word.ensures c.word-2.ensures
