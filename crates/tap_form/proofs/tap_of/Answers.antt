-- `tap_form::tap_of` meets its contract: a gap with the number that it counts as, an end by its counter, what is none by the wrapped difference.
use Rattle.std.proofs.Common.{sym, ◌∙◌, arith}
use Rattle.tap_form.proofs.Reading.{gap-refused, gap_as_record, end_as_record, line_as_record}
use Rattle.tap_form.proofs.tap_of.Goals as goal

pub returns-in-2 : goal.returns-in-2
returns-in-2 c = sym (gap-refused _ _ _ _ c.in-2.is c.if-action-ne0.true)

pub returns-in-2-2 : goal.returns-in-2-2
returns-in-2-2 c =
    c.record_of.ensures ∙ gap_as_record _ _ _ _ _ c.requires c.in-2.is c.if-action-ne0.false c.time_since.ensures

pub returns-in-3 : goal.returns-in-3
returns-in-3 c =
    (rw c.from.ensures at c.record_of-in-3.ensures) ∙ end_as_record _ _ _ _ c.requires c.in-3.is

pub returns-in_default : goal.returns-in_default
returns-in_default c =
    c.record_of-in_default.ensures
    ∙ line_as_record _ _ _ _ _ c.requires (omega arith) (omega arith) c.time_since-in_default.ensures
