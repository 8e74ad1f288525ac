-- `tap_form::tap_rest` meets its contract: where the reader takes, the part behind five bytes; else the slice itself.
use Rattle.std.proofs.Common.{◌-◌, length, sym, refl, ◌∙◌, arith, take_all}
use Rattle.fields.proofs.Rest.{rest_part}
use Rattle.record_form.proofs.Reading.{none-refused, one-refused}
use Rattle.tap_form.proofs.Reading.{tap_is_taken, tap_number, tap_size-taken, tap_size-refused}
use Rattle.tap_form.proofs.tap_rest.Goals as goal

pub slice_bounds-result-count : goal.slice_bounds-result-count
slice_bounds-result-count c =
    let none = none-refused c.read_tap.ensures c.is_taken.ensures c.if-is_taken.true in
    omega (arith, (tap_is_taken _ _ (sym (tap_number _ _) ∙ none)).size)

pub slice_bounds-result-start : goal.slice_bounds-result-start
slice_bounds-result-start c =
    let none = none-refused c.read_tap.ensures c.is_taken.ensures c.if-is_taken.true in
    omega (arith, (tap_is_taken _ _ (sym (tap_number _ _) ∙ none)).size)

pub returns-then-is_taken : goal.returns-then-is_taken
returns-then-is_taken c =
    let none = none-refused c.read_tap.ensures c.is_taken.ensures c.if-is_taken.true in
    rest_part 5 _ _ _ (tap_size-taken _ _ (sym (tap_number _ _) ∙ none)) refl (omega arith) refl

pub returns-else-is_taken : goal.returns-else-is_taken
returns-else-is_taken c =
    let s = c.args.s.now in
    let one = one-refused c.read_tap.ensures c.is_taken.ensures c.if-is_taken.false in
    rest_part 0 _ _ _ (tap_size-refused _ _ (λ z. one (tap_number _ _ ∙ z))) refl (omega arith)
    (sym (take_all (length s - 0) s (omega arith)))
