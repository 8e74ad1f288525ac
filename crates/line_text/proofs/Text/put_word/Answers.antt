-- `line_text::Text::put_word` meets its contract.
use Rattle.std.proofs.Common.{length, ap, arith}
use Rattle.line_text.proofs.Kept.{text_after, keeps_after}
use Rattle.line_text.proofs.Text.put_word.Goals as goal

pub invariant_of-self : goal.invariant_of-self
invariant_of-self g c =
    rw c.copy_from_slice.ensures.after (keeps_after _ _ _ _ c.self.invariant (omega (arith, ap length c.self.view_is, c.self.invariant.text)))

pub returns : goal.returns
returns g c =
    rw (c.copy_from_slice.ensures.after, ← c.self.view_is)
    (text_after g.row.ROOM _ _ _ c.self.invariant (omega (arith, ap length c.self.view_is, c.self.invariant.text)))
