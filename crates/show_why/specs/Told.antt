-- Document 02, CR 6: what is written.
use Rattle.std.specs.Prelude.{ℕ, ◌≤◌, ◌≡◌, length}
use Rattle.meaning.specs.Words.{Run}
use Rattle.session_record.specs.Lent.{Memory}
use Rattle.reasons.specs.Reasons.{most_lines}
use Rattle.judged_rest.specs.Judged.{Reasoning}
use Rattle.judged_rest.specs.Lent.{Lines, run_of}
use Rattle.first_order.specs.Search.{Pair, pair}
use Rattle.why.specs.Why.{IsReason}
use Rattle.open_run.specs.Kept.{OpenAtEnd}
use Rattle.show_why.specs.declared.Order.{Order}

-- An order as the lists that are lent for it.
abbrev pub pair_in : Order → Pair
pair_in order = pair order.numbers order.moments

-- "The orders must be proved to be explanations of that very run": the answer and the two pairs of lists are what `why::explain` promises for
-- the lines of the run that the session at hand has open at the end record.
pub record Explained (m : Memory) (taken count : ℕ) (r : Reasoning) (shown shown2 : Pair) : Type 0 where
  pub run : Run
  pub has : OpenAtEnd m taken run
  pub counted : length run ≡ count
  pub few : count ≤ most_lines
  pub lines : Lines
  pub its_lines : run_of lines ≡ run
  pub lent : Pair
  pub lent2 : Pair
  pub reason : IsReason m.property lines r lent lent2 shown shown2
