-- `fields::digit_of` meets its contract: a shift and a remainder are a digit.
use mathlib.Core.Path.{refl}
use Rattle.fields.specs.Fields.{digit}
use Rattle.fields.proofs.digit_of.Goals as goal

pub returns : goal.returns
unfolding digit
returns c = refl
