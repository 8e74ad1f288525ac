-- `tap_form::counter_field` meets its contract: each byte is its part of the field.
use Rattle.std.proofs.Common.{arith}
use Rattle.fields.proofs.Packed.{field_byte, field_byte_first}
use Rattle.tap_form.proofs.counter_field.Goals as goal

pub returns : goal.returns
returns c =
    let s = c.args.s.now in
    let byte = c.type_inv.s in
    omega (
      arith,
      field_byte_first s 1 24 (byte 1).fits,
      field_byte_first s 2 16 (byte 2).fits,
      field_byte_first s 3 8 (byte 3).fits,
      field_byte s 4 (byte 4).fits,
    )
