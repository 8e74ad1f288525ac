-- `record_form::put_record` meets its contract: the list of bits is the record's.
use Prim.Native.Nat.{ℕ}
use native.Mathlib.Omega.{arith}
use mathlib.Core.Path.{◌≡◌, sym, ◌∙◌, ap, ap₂, subst}
use mathlib.Core.List.{List, ◌++◌}
use lib.ListN.{length, drop}
use Rattle.fields.specs.Fields.{at, packed, Bits}
use Rattle.record_form.proofs.Writing.{record_bits, length_record_bits, Bits-record, filled, packed_record}
use Rattle.record_form.proofs.put_record.Goals as goal

pub pack-requires : goal.pack-requires
pack-requires c =
    let bits_of : List ℕ =
    record_bits c.args.kind c.args.action c.args.less in
    let is-filled : c.put_field-3.new.list ≡ bits_of =
    filled _ _ _ c.put_field.new.list c.put_field-2.new.list c.put_field-3.new.list
    c.put_field.ensures c.put_field-2.ensures c.put_field-3.ensures
    ∙ ap₂ (λ (k a : ℕ). record_bits k a c.args.less) c.from.ensures c.from-2.ensures in
    let l : c.put_field-3.new.list ≡ bits_of = is-filled in
    let n : length bits_of ≡ 48 = length_record_bits _ _ _ in
    (omega (arith, ap length l, n), omega arith, subst (λ (x : List ℕ). Bits (at x)) (sym l) (Bits-record _ _ _))

pub returns : goal.returns
returns c =
    let bits_of : List ℕ =
    record_bits c.args.kind c.args.action c.args.less in
    let is-filled : c.put_field-3.new.list ≡ bits_of =
    filled _ _ _ c.put_field.new.list c.put_field-2.new.list c.put_field-3.new.list
    c.put_field.ensures c.put_field-2.ensures c.put_field-3.ensures
    ∙ ap₂ (λ (k a : ℕ). record_bits k a c.args.less) c.from.ensures c.from-2.ensures in
    c.pack.ensures
    ∙ ap (λ (l : List ℕ). l ++ drop 6 c.args.buf.now)
    (ap (λ (l : List ℕ). packed (at l) 6) is-filled ∙ packed_record _ _ _)
