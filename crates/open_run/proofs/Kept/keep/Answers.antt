-- `open_run::Kept::keep` meets its contract: a line is put behind the others, or counted where there is no place left.
use Rattle.open_run.proofs.Keeping.{keeps_past, keeps_more}
use Rattle.open_run.proofs.Kept.keep.Goals as goal

pub returns-then-place-lt-MOST_LINES-clause-kept : goal.returns-then-place-lt-MOST_LINES-clause-kept
returns-then-place-lt-MOST_LINES-clause-kept c = λ run h. keeps_more run _ _ _ _ c.if-place-lt-MOST_LINES.true h

pub returns-else-place-lt-MOST_LINES-clause-kept : goal.returns-else-place-lt-MOST_LINES-clause-kept
returns-else-place-lt-MOST_LINES-clause-kept c = λ run h. keeps_past run _ _ c.if-place-lt-MOST_LINES.false h
