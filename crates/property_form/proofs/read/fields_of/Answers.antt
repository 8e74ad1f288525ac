-- `property_form::read::fields_of` meets its contract: the callees' results, field by field.
use Prim.Native.Nat.{ℕ, ◌+◌, ◌*◌}
use mathlib.Core.Path.{◌≡◌, ap, ◌∙◌}
use mathlib.Core.Bool.{Bool, false}
use mathlib.Core.List.{List}
use Rattle.std.proofs.Common.{w64}
use Rattle.std.specs.Int.{reverse_bits}
use Rattle.fields.specs.Fields.{field, bit}
use Rattle.fields.proofs.Laws.{bit-lt}
use Rattle.property.specs.declared.Property.{Property}
use Rattle.property_form.specs.Read.{length_read, places, output_read, number_read, mask, property_read}
use Rattle.property_form.proofs.Laws.{reversed-mask}
use Rattle.property_form.proofs.read.fields_of.Goals as goal

-- the fields, put together
fields : (s : List ℕ) (n : ℕ) → n ≡ length_read s → (output : List Bool) (number : List ℕ) (allowed lb ub : ℕ)
    → output ≡ places (output_read s) n false → number ≡ places (number_read s) n 0 → allowed ≡ mask (bit s) (58 + 7 * n) 64
    → lb ≡ field s 6 26 → ub ≡ field s 32 26
    → ◌≡◌ {A = Property} (record { n = n; output = output; number = number; allowed = allowed; lb = lb; ub = ub }) (property_read s)
unfolding property_read
fields s n e output number allowed lb ub eo en ea el eu =
    let outputs : output ≡ places (output_read s) (length_read s) false =
    eo ∙ ap (λ (k : ℕ). places (output_read s) k false) e in
    let numbers : number ≡ places (number_read s) (length_read s) 0 =
    en ∙ ap (λ (k : ℕ). places (number_read s) k 0) e in
    let mask-read : allowed ≡ mask (bit s) (58 + 7 * length_read s) 64 =
    ea ∙ ap (λ (k : ℕ). mask (bit s) (58 + 7 * k) 64) e in
    λ i. record { n = e i; output = outputs i; number = numbers i; allowed = mask-read i; lb = el i; ub = eu i }

pub returns : goal.returns
unfolding property_read
returns c =
    let s = c.args.s.now in
    let n = c.args.n in
    fields s n c.requires.0 _ _ _ _ _ c.outputs.ensures c.numbers.ensures
    (c.reverse_bits.ensures ∙ ap (reverse_bits w64) c.field_at.ensures ∙ reversed-mask (bit s) (bit-lt s) (58 + 7 * n))
    c.field_at-2.ensures c.field_at-3.ensures
