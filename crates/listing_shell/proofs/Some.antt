-- No record adds an empty text: each line ends in a newline.
use Prim.Native.Nat.{ℕ, ◌≤◌}
use mathlib.Core.Bool.{Bool, true, false, cond}
use mathlib.Core.List.{List}
use native.Mathlib.Omega.{arith}
use lib.ListN.{length, length-append}
use Rattle.meaning.specs.Calls.{Call}
use Rattle.record_form.specs.Record.{Reader}
use Rattle.trace_form.specs.ReadAs.{read_as}
use Rattle.session_record.specs.declared.Session.{Session}
use Rattle.session_record.specs.Record.{latest_of, out_of_range}
use Rattle.walk.specs.Walk.{One, one_read}
use Rattle.printout.specs.Text.{line_text, end_text, stop_text}
use Rattle.printed.specs.Printed.{call_text, last_line, by_one, printed_by}

line-some : (number kind action stamp verdict open_count : ℕ) → 1 ≤ length (line_text number kind action stamp verdict open_count)
unfolding line_text
line-some number kind action stamp verdict open_count = simp length-append (omega arith)

pub end-some : (count : ℕ) → 1 ≤ length (end_text count)
unfolding end_text
end-some count = simp length-append (omega arith)

pub stop-some : (count refusal : ℕ) → 1 ≤ length (stop_text count refusal)
unfolding stop_text
stop-some count refusal = simp length-append (omega arith)

call-some : (number : ℕ) (c : Call) (after : Session) → 1 ≤ length (call_text number c after)
unfolding call_text
call-some number (Call.line l) after = line-some _ _ _ _ _ _
call-some number (Call.mark g) after = line-some _ _ _ _ _ _

by_one-some : (s : Session) (count : ℕ) (o : One) → 1 ≤ length (by_one s count o).text
unfolding by_one
by_one-some s count One.ended = end-some count
by_one-some s count (One.refused n) = stop-some count n
by_one-some s count (One.took c after) = call-some _ c after

pub printed_some : (reader : Reader) (s : Session) (count : ℕ) (bytes : List ℕ) → 1 ≤ length (printed_by reader s count bytes).text
unfolding printed_by
printed_some reader s count bytes = go (out_of_range s)
  where
    one : One
    one = one_read s (read_as (reader bytes (latest_of s)))

    go : (t : Bool) → 1 ≤ length (cond t (last_line s count (stop_text count 10)) (by_one s count one)).text
    go true = stop-some count 10
    go false = by_one-some s count one
