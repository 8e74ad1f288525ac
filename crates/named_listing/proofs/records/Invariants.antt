-- What was added so far is the listing with names of the records so far, and each turn is one record more.
use Rattle.named_listing.proofs.Listed.{NamedSoFar}
use Rattle.named_listing.proofs.records.Given as goal

abbrev pub invariant-loop-turns : goal.invariant-loop-turns
invariant-loop-turns g l = NamedSoFar l.site l.release l.s.property l.turns l.session l.count
