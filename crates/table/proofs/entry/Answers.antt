-- `table::entry` meets its contract: where the sequence does not go on, the entry is that of the longest shorter length.
use mathlib.Core.Path.{◌≡◌, sym, ◌∙◌}
use mathlib.Core.Bool.{false}
use native.Mathlib.Omega.{arith}
use lib.ListN.{length, get_or}
use Rattle.meaning.specs.Matcher.{goes_on}
use Rattle.table.specs.Table.{said, no_action, at_place}
use Rattle.table.proofs.Endings.{said_same}
use Rattle.table.proofs.Recursion.{fall_back_here, goes_on_past}
use Rattle.table.proofs.Falling.{next-there, entry-none, entry-shorter}
use Rattle.table.proofs.entry.Goals as goal
use Rattle.table.proofs.entry.Goals.{Joined-else-k-sequence, else-k-sequence-via-then-k-sequence+else-eq, else-k-sequence-via-else-k-sequence}

pub returns-then-eq : goal.returns-then-eq
returns-then-eq c =
    let a = c.args in
    let s = a.sequence.now in
    fall_back_here (at_place s) (length s) a.k a.k (said a.action)
    (sym (next-there (at_place s) (length s) (said a.action) a.k c.if-k-sequence.true c.eq.result
    (c.eq.ensures ∙ said_same (get_or s a.k no_action) a.action)) ∙ c.if-eq.true)

other : (c : Joined-else-k-sequence) → goes_on (at_place c.args.sequence.now) (length c.args.sequence.now) c.args.k c.args.k (said c.args.action) ≡ false
other c =
    let a = c.args in
    let s = a.sequence.now in
    elim c.else-k-sequence.branch [
      | else-k-sequence-via-then-k-sequence+else-eq w ↦
          sym (next-there (at_place s) (length s) (said a.action) a.k w.if-k-sequence.true w.eq.result
          (w.eq.ensures ∙ said_same (get_or s a.k no_action) a.action)) ∙ w.if-eq.false
      | else-k-sequence-via-else-k-sequence w ↦ sym (goes_on_past (at_place s) (length s) a.k a.k (said a.action) w.if-k-sequence.false)
    ]

pub returns-then-k-eq0 : goal.returns-then-k-eq0
returns-then-k-eq0 c =
    let a = c.args in
    let s = a.sequence.now in
    entry-none (at_place s) (length s) (said a.action) a.k (other (goal.at.returns-then-k-eq0 c).Joined-else-k-sequence) c.if-k-eq0.true

pub overflow_add-result-2 : goal.overflow_add-result-2
overflow_add-result-2 c = record { fits = omega (arith, (c.requires.by_index c.args.k (omega arith) (omega arith)).less) }

pub bounds-table-at : goal.bounds-table-at
bounds-table-at c = omega (arith, (c.requires.by_index c.args.k (omega arith) (omega arith)).less)

pub returns : goal.returns
returns c =
    let a = c.args in
    let s = a.sequence.now in
    let fall = get_or a.falls.now a.k 0 in
    let falls-there = c.requires.by_index a.k (omega arith) (omega arith) in
    c.requires.by_index_2 fall falls-there.less
    ∙ entry-shorter (at_place s) (length s) (said a.action) a.k fall
    (other (goal.at.returns c).Joined-else-k-sequence) c.if-k-eq0.false falls-there
