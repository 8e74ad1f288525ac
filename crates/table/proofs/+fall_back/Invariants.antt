-- `table::fall_back` meets its contract. The measure is the length j that is looked at.
use Rattle.table.proofs.+fall_back.Given as goal

abbrev pub decreases-fall_back : goal.decreases-fall_back
decreases-fall_back l = l.j
