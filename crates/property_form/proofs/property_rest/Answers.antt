-- `property_form::property_rest` meets its contract: the part of the slice is the rest, in its place.
use mathlib.Core.Path.{refl, sym}
use native.Mathlib.Omega.{arith}
use Rattle.fields.proofs.Rest.{rest_part}
use Rattle.property_form.proofs.Answers.{taken-le}
use Rattle.property_form.proofs.property_rest.Goals as goal

pub slice_bounds-result-start : goal.slice_bounds-result-start
slice_bounds-result-start c = omega (arith, taken-le c.args.s.now, c.taken_by.ensures)

pub slice_bounds-result-count : goal.slice_bounds-result-count
slice_bounds-result-count c = omega (arith, taken-le c.args.s.now, c.taken_by.ensures)

pub returns : goal.returns
returns c = rest_part c.taken_by.result _ _ _ (sym c.taken_by.ensures) refl (omega arith) refl
