-- `open_run::Kept::new` meets its contract: no line is kept.
use Rattle.open_run.proofs.Keeping.{keeps-fresh}
use Rattle.open_run.proofs.Kept.new.Goals as goal

pub returns : goal.returns
returns c = keeps-fresh
