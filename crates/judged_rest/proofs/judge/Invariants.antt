-- `judged_rest::judge` meets its contract. The loop: what the first k lines have come to, on memory of the property.
use mathlib.Core.Path.{◌≡◌}
use Rattle.std.specs.Prelude.{Ok}
use Rattle.session_record.specs.Lent.{held_in}
use Rattle.session_record.specs.Loan.{memory_in}
use Rattle.judged_rest.specs.Lent.{lent}
use Rattle.judged_rest.specs.Judged.{reason_in, judged}
use Rattle.judged_rest.proofs.judge.Given as goal

abbrev pub invariant-loop-k : goal.invariant-loop-k
invariant-loop-k l = record {
  so_far : record { cuts = held_in (memory_in l.lent); told = reason_in (Ok l.reason) } ≡ judged l.fn.steps.property (lent l.output l.action l.stamp) l.from l.k;
  own : l.lent.steps.now.property ≡ l.fn.steps.property;
}
