-- No record adds an empty text to the listing with names either.
use Prim.Native.Nat.{ℕ, ◌≤◌}
use mathlib.Core.Bool.{Bool, true, false, cond}
use mathlib.Core.List.{List}
use native.Mathlib.Omega.{arith}
use lib.ListN.{length, length-append}
use Rattle.meaning.specs.Words.{Action}
use Rattle.meaning.specs.Calls.{Call}
use Rattle.session_record.specs.declared.Session.{Session}
use Rattle.session_record.specs.Record.{out_of_range}
use Rattle.walk.specs.Walk.{One, one_of}
use Rattle.printout.specs.Text.{stop_text}
use Rattle.printout.specs.Named.{named_line_text}
use Rattle.named.specs.Named.{names_of, named_call_text, named_by_one, named_of}
use Rattle.listing_shell.proofs.Some.{end-some, stop-some}

line-some : (number kind action : ℕ) (name : List ℕ) (stamp verdict open_count : ℕ) → 1 ≤ length (named_line_text number kind action name stamp verdict open_count)
unfolding named_line_text
line-some number kind action name stamp verdict open_count = simp length-append (omega arith)

by_one-some : (names : Action → List ℕ) (count : ℕ) (o : One) → 1 ≤ length (named_by_one names count o)
unfolding named_by_one named_call_text
by_one-some names count One.ended = end-some count
by_one-some names count (One.refused n) = stop-some count n
by_one-some names count (One.took (Call.line l) after) = line-some _ _ _ _ _ _ _
by_one-some names count (One.took (Call.mark g) after) = line-some _ _ _ _ _ _ _

pub named_some : (site release : List ℕ) (s : Session) (count : ℕ) (bytes : List ℕ) → 1 ≤ length (named_of site release s count bytes).text
unfolding named_of
named_some site release s count bytes = go (out_of_range s)
  where
    go : (t : Bool) → 1 ≤ length (cond t (stop_text count 10) (named_by_one (names_of site release) count (one_of s bytes)))
    go true = stop-some count 10
    go false = by_one-some (names_of site release) count (one_of s bytes)
