-- `record_fields::stamp_field` meets its contract: each byte is its part of the field.
use native.Mathlib.Omega.{arith}
use Rattle.fields.proofs.Packed.{field_byte, field_byte_first}
use Rattle.record_fields.proofs.stamp_field.Goals as goal

pub returns : goal.returns
returns c =
    let s = c.args.s.now in
    let byte = c.type_inv.s in
    omega (
      arith,
      field_byte_first s 1 32 (byte 1).fits,
      field_byte_first s 2 24 (byte 2).fits,
      field_byte_first s 3 16 (byte 3).fits,
      field_byte_first s 4 8 (byte 4).fits,
      field_byte s 5 (byte 5).fits,
    )
