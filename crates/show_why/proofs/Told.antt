-- What is found of the lines that are kept is found of the run that is open.
use Prim.Native.Nat.{ℕ, ◌≤◌}
use Rattle.session_record.specs.Lent.{Memory}
use Rattle.reasons.specs.Reasons.{most_lines}
use Rattle.judged_rest.specs.Judged.{Reasoning}
use Rattle.judged_rest.specs.Lent.{lent}
use Rattle.first_order.specs.Search.{Pair}
use Rattle.why.specs.Why.{IsReason}
use Rattle.open_run.specs.declared.Kept.{Kept}
use Rattle.open_run.specs.Kept.{Open}
use Rattle.open_run.proofs.Keeping.{cut, handed}
use Rattle.show_why.specs.Told.{Explained}

pub explained : {m : Memory} {taken : ℕ} (k : Kept) {r : Reasoning} (l l2 : Pair) {shown shown2 : Pair} → Open m taken k → k.count ≤ most_lines
    → IsReason m.property (lent (cut k).outputs (cut k).actions (cut k).stamps) r l l2 shown shown2 → Explained m taken k.count r shown shown2
explained k l l2 o few h =
    record {
      run = o.run;
      has = o.has;
      counted = o.keeps.counted;
      few = few;
      lines = lent (cut k).outputs (cut k).actions (cut k).stamps;
      its_lines = handed k o.keeps few;
      lent = l;
      lent2 = l2;
      reason = h;
    }
