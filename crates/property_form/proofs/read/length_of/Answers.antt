-- `property_form::read::length_of` meets its contract: six bits are a number below 64.
use native.Mathlib.Omega.{arith}
use Rattle.fields.specs.Fields.{bit}
use Rattle.fields.proofs.Laws.{bit-lt, number_lt}
use Rattle.property_form.proofs.read.length_of.Goals as goal

pub returns : goal.returns
returns c =
    let s = c.args.s.now in
    (c.field_at.ensures, omega (arith, number_lt (bit s) (bit-lt s) 0 6))
