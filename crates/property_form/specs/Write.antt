-- What the writer of a packed property answers, and the bytes that it leaves.
use Rattle.std.specs.Prelude.{ℕ, List, ◌++◌, length, drop, ltb, Result, Ok, Err}
use Rattle.meaning.specs.Words
use Rattle.meaning.specs.Numbers.{given, first_of, property_refusal}
use Rattle.meaning.specs.Calls.{unless_refused}
use Rattle.outcomes.specs.declared.Refusal.{Refusal}
use Rattle.outcomes.specs.Numbers.{refusal_number}
use Rattle.property_form.specs.Form.{property_form}

-- "Order where several hold: .. 1, 2, 3, .. 9", "9: the buffer to write in is shorter than the form"
unfoldable pub write_refusal : Words.Property → List ℕ → ℕ
write_refusal q buf = first_of (property_refusal q) (given 9 (ltb (length buf) (length (property_form q))))

-- What the writer answers in numbers.
pub record Written : Type 0 where
  pub refusal : ℕ
  pub size : ℕ

abbrev pub written_numbers : Result ℕ Refusal → Written
written_numbers (Ok size) = record { refusal = 0; size = size }
written_numbers (Err refusal) = record { refusal = refusal_number refusal; size = 0 }

-- The refusal, and the number of bytes written, 0 by a refusal.
unfoldable pub written : Words.Property → List ℕ → Written
written q buf =
    let refusal : ℕ = write_refusal q buf in
    record { refusal = refusal; size = unless_refused refusal (length (property_form q)) 0 }

-- The buffer afterwards: "Bytes behind what a writer wrote stay."; after a refusal "nothing changed".
unfoldable pub left : Words.Property → List ℕ → List ℕ
left q buf = unless_refused (write_refusal q buf) (property_form q ++ drop (length (property_form q)) buf) buf
