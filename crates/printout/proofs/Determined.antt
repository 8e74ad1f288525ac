-- Each promise determines the whole answer, every byte of it and the number of bytes: two results allowed by it are equal. (And so are their
-- fields: `kept_once` of `line_text`.)
use Prim.Native.Nat.{ℕ}
use mathlib.Core.Path.{◌≡◌, sym, ◌∙◌}
use Rattle.line_text.specs.declared.Text.{Text}
use Rattle.line_text.specs.Text.{room}
use Rattle.printout.specs.Text.{header_text, line_text, end_text, stop_text}
use Rattle.printout.specs.Named.{named_header_text, front_text}

pub header_determined : (r r' : Text room) → r ≡ header_text → r' ≡ header_text → r ≡ r'
header_determined r r' e e' = e ∙ sym e'

pub line_determined : (number kind action stamp verdict open_count : ℕ) (r r' : Text room)
    → r ≡ line_text number kind action stamp verdict open_count → r' ≡ line_text number kind action stamp verdict open_count → r ≡ r'
line_determined number kind action stamp verdict open_count r r' e e' = e ∙ sym e'

pub end_determined : (count : ℕ) (r r' : Text room) → r ≡ end_text count → r' ≡ end_text count → r ≡ r'
end_determined count r r' e e' = e ∙ sym e'

pub stop_determined : (count refusal : ℕ) (r r' : Text room) → r ≡ stop_text count refusal → r' ≡ stop_text count refusal → r ≡ r'
stop_determined count refusal r r' e e' = e ∙ sym e'

pub named_header_determined : (r r' : Text room) → r ≡ named_header_text → r' ≡ named_header_text → r ≡ r'
named_header_determined r r' e e' = e ∙ sym e'

pub front_determined : (number kind action : ℕ) (r r' : Text room) → r ≡ front_text number kind action → r' ≡ front_text number kind action → r ≡ r'
front_determined number kind action r r' e e' = e ∙ sym e'
