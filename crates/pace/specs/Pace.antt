-- What the benchmark's function gives back.
use Rattle.std.specs.Prelude.{ℕ, zero, suc, List}
use Rattle.property_form.specs.Read.{read}
use Rattle.session_record.specs.declared.Session.{Session}
use Rattle.session_record.specs.Step.{fresh_of}
use Rattle.walk.specs.Walk.{walk_of}

-- The number of records that the last of so many walks took.
unfoldable pub last_taken : Session → List ℕ → ℕ → ℕ → ℕ
last_taken s trace budget zero = 0
last_taken s trace budget (suc times) = (walk_of s trace budget).taken

abbrev pub paced : List ℕ → List ℕ → ℕ → ℕ → ℕ
paced property trace budget times = last_taken (fresh_of (read property).property).session trace budget times
