-- `matcher::start` meets its contract: the words compute.
use mathlib.Core.Path.{refl}
use Rattle.laws.specs.Bits.{mask_to}
use Rattle.matcher.specs.Sets.{cut_of}
use Rattle.matcher.proofs.start.Goals as goal

pub returns : goal.returns
unfolding cut_of mask_to
returns c = refl
