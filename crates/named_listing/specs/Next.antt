-- Document 02, CR 2, as the program comes to it: what was read of a list, and which text is the next of the listing with names.
use Rattle.std.specs.Prelude.{ℕ, ◌≤◌, ◌≡◌, Bool, cond, List, length, take, Result, Ok, Err}
use Rattle.outcomes.specs.declared.Refusal.{Refusal}
use Rattle.outcomes.specs.Numbers.{refusal_number}
use Rattle.property.specs.declared.Property.{Property}
use Rattle.record_form.specs.Record.{record_size}
use Rattle.session_record.specs.Step.{fresh_of}
use Rattle.name_list.specs.Read.{list_size, list_refusal}
use Rattle.named.specs.Listing.{named_lines_of}
use Rattle.listing_shell.specs.Next.{NextText}

-- What was read of a list, and its refusal, 0 for none.
pub record ListRead : Type 0 where
  pub refusal : ℕ
  pub len : ℕ

-- A refusal does not say how many bytes came.
abbrev pub read_in : ℕ → Result ℕ Refusal → ListRead
read_in came (Ok len) = record { refusal = 0; len = len }
read_in came (Err refusal) = record { refusal = refusal_number refusal; len = came }

-- The refusal of a list is that of what came: of the two bytes before it, and of the list, no more than those two say.
pub record ListCame (of_release : Bool) (list : List ℕ) (r : ListRead) : Type 0 where
  pub head : List ℕ
  pub two : length head ≤ 2
  pub few : 2 ≤ length head → r.len ≤ list_size head
  pub judged : r.refusal ≡ list_refusal (cond of_release 12 11) head (take r.len list)

-- The text is the next of the listing with names behind a property, after so many records.
abbrev pub NamedFollows : List ℕ → List ℕ → Property → ℕ → List ℕ → Type 0
NamedFollows site release p records text =
    NextText record_size (λ most bytes. named_lines_of site release most (fresh_of p).session 0 bytes) records text
