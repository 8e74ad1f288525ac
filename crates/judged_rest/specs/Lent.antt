-- A run lent as three lists: line k of it has its direction, its action's number and its stamp at place k.
use Rattle.std.specs.Prelude.{ℕ, Bool, false, List, length, get_or}
use Rattle.laws.specs.Places.{first}
use Rattle.meaning.specs.Words.{Line, Run}
use Rattle.cuts.specs.Steps.{line_of}

pub record Lines : Type 0 where
  pub output : List Bool
  pub action : List ℕ
  pub stamp : List ℕ

abbrev pub lent : List Bool → List ℕ → List ℕ → Lines
lent output action stamp = record { output = output; action = action; stamp = stamp }

abbrev pub is_output : Lines → ℕ → Bool
is_output ls k = get_or ls.output k false

abbrev pub stamp_at : Lines → ℕ → ℕ
stamp_at ls k = get_or ls.stamp k 0

abbrev pub line_in : Lines → ℕ → Line
line_in ls k = line_of (is_output ls k) (get_or ls.action k 0) (stamp_at ls k)

abbrev pub count : Lines → ℕ
count ls = length ls.stamp

abbrev pub run_of : Lines → Run
run_of ls = first (line_in ls) (count ls)
