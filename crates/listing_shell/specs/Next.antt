-- Document 01, case 15, as a program comes to it, record by record: which text is the next of a listing.
use Rattle.std.specs.Prelude.{ℕ, suc, ◌*◌, ◌≤◌, ◌≡◌, List, ◌++◌, length}
use Rattle.property.specs.declared.Property.{Property}
use Rattle.property_form.specs.Form.{form_size}
use Rattle.property_form.specs.Read.{length_read}
use Rattle.session_record.specs.Step.{fresh_of}
use Rattle.printed.specs.declared.Printed.{Printed}
use Rattle.printed.specs.Printed.{begun_of}
use Rattle.printed.specs.Listing.{lines_by}
use Rattle.listing_shell.specs.declared.Form.{Form}
use Rattle.listing_shell.specs.Form.{size_of, reader_of}

-- What the property adds: that of the bytes that came, no more than its form has.
pub record Begun (r : Printed) : Type 0 where
  pub bytes : List ℕ
  pub few : length bytes ≤ form_size (length_read bytes)
  pub adds : r ≡ begun_of bytes

-- The next text of a listing, where `lines` is what at most so many records of some bytes add. So many records were read, each whole, and then
-- the bytes of one more came, or fewer: the text is what these add, behind what those had added. Behind the last line nothing is added, and
-- this is something.
pub record NextText (size : ℕ) (lines : ℕ → List ℕ → List ℕ) (records : ℕ) (text : List ℕ) : Type 0 where
  pub read : List ℕ
  pub whole : length read ≡ size * records
  pub came : List ℕ
  pub few : length came ≤ size
  pub adds : lines (suc records) (read ++ came) ≡ lines records read ++ text
  pub some : 1 ≤ length text

-- The same in the listing of records of this form behind a property.
abbrev pub Follows : Form → Property → ℕ → List ℕ → Type 0
Follows form p records text =
    NextText (size_of form) (λ most bytes. lines_by (size_of form) (reader_of form) most (fresh_of p).session 0 bytes) records text
