-- What walks and listings use of a reader of records, the card's reader has.
use Rattle.std.proofs.Common.{◌≡◌, ℕ, List, take, lit≤}
use Rattle.meaning.specs.Numbers.{given, first_of}
use Rattle.record_form.specs.Record.{answered, taken}
use Rattle.trace_form.proofs.Reader.{Reads, front_same}
use Rattle.tap_form.specs.Tap.{tap_size, tap_stamp, tap_action, tap_fields_refusal, tap_refusal, tap_answer}
use Rattle.tap_form.proofs.Reading.{tap_short, tap_always_read, tap_end}

tap_front : (bytes : List ℕ) (before : ℕ) → tap_answer (take tap_size bytes) before ≡ tap_answer bytes before
unfolding tap_answer tap_refusal
tap_front bytes before =
    front_same tap_size 32 (lit≤ tt)
    (λ few kind action counter. answered (first_of (given 7 few) (tap_fields_refusal kind action counter before)) (taken kind (tap_action kind action) (tap_stamp kind counter before)))
    bytes

pub tap_reads : Reads tap_size tap_answer
tap_reads =
    record {
      some = lit≤ tt;
      front = tap_front;
      short = tap_short;
      by_case = λ bytes before. (tap_always_read bytes before).in_numbers;
      end-stamp = tap_end;
    }
