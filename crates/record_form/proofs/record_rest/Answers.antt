-- `record_form::record_rest` meets its contract: where the reader takes, the part behind six bytes; else the slice itself.
use native.Mathlib.Omega.{arith}
use Prim.Native.Nat.{◌-◌}
use mathlib.Core.Path.{refl, sym, ◌∙◌}
use lib.ListN.{length}
use lib.Seq.{take_all}
use Rattle.fields.proofs.Rest.{rest_part}
use Rattle.record_form.proofs.Reading.{is_taken, refusal_of, none-refused, one-refused, size-taken, size-refused}
use Rattle.record_form.proofs.record_rest.Goals as goal

pub slice_bounds-result-count : goal.slice_bounds-result-count
slice_bounds-result-count c =
    let none = none-refused c.read_record.ensures c.is_taken.ensures c.if-is_taken.true in
    omega (arith, (is_taken _ _ (sym (refusal_of _ _) ∙ none)).size)

pub slice_bounds-result-start : goal.slice_bounds-result-start
slice_bounds-result-start c =
    let none = none-refused c.read_record.ensures c.is_taken.ensures c.if-is_taken.true in
    omega (arith, (is_taken _ _ (sym (refusal_of _ _) ∙ none)).size)

pub returns-then-is_taken : goal.returns-then-is_taken
returns-then-is_taken c =
    let none = none-refused c.read_record.ensures c.is_taken.ensures c.if-is_taken.true in
    rest_part 6 _ _ _ (size-taken _ _ (sym (refusal_of _ _) ∙ none)) refl (omega arith) refl

pub returns-else-is_taken : goal.returns-else-is_taken
returns-else-is_taken c =
    let s = c.args.s.now in
    let one = one-refused c.read_record.ensures c.is_taken.ensures c.if-is_taken.false in
    rest_part 0 _ _ _ (size-refused _ _ (λ z. one (refusal_of _ _ ∙ z))) refl (omega arith)
    (sym (take_all (length s - 0) s (omega arith)))
