-- Each promise determines the whole answer, every byte of it and the number of bytes: two results allowed by it are equal. (And so are their
-- fields: `kept_once` of `line_text`.)
use Prim.Native.Nat.{ℕ}
use mathlib.Core.Path.{◌≡◌, sym, ◌∙◌}
use lib.IntN.{ℤ}
use Rattle.line_text.specs.declared.Text.{Text}
use Rattle.line_text.specs.Text.{room}
use Rattle.reason_text.specs.Reason.{reached_text, placed_text, blind_text, stop_alone_text}

pub reached_determined : (verdict line : ℕ) (r r' : Text room) → r ≡ reached_text verdict line → r' ≡ reached_text verdict line → r ≡ r'
reached_determined verdict line r r' e e' = e ∙ sym e'

pub placed_determined : (number : ℕ) (moment : ℤ) (r r' : Text room) → r ≡ placed_text number moment → r' ≡ placed_text number moment → r ≡ r'
placed_determined number moment r r' e e' = e ∙ sym e'

pub blind_determined : (r r' : Text room) → r ≡ blind_text → r' ≡ blind_text → r ≡ r'
blind_determined r r' e e' = e ∙ sym e'

pub stop_alone_determined : (refusal : ℕ) (r r' : Text room) → r ≡ stop_alone_text refusal → r' ≡ stop_alone_text refusal → r ≡ r'
stop_alone_determined refusal r r' e e' = e ∙ sym e'
