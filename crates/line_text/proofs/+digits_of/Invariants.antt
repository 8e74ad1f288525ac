-- `line_text::digits_of`: the measure is the number, which falls to its tenth.
use Rattle.line_text.proofs.+digits_of.Given as goal

abbrev pub decreases-digits_of : goal.decreases-digits_of
decreases-digits_of l = l.v
