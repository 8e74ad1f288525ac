-- `property_form::write_property` meets its contract: at each `return` the refusal is the first that holds; the last packs the bits.
use Prim.Native.Nat.{ℕ, ◌-◌, ◌≤◌, ◌<◌}
use mathlib.Core.Path.{◌≡◌, sym, ap, ap₂, ◌∙◌, subst}
use mathlib.Core.List.{List, ◌++◌}
use native.Mathlib.Omega.{arith}
use lib.ListN.{length, drop, replicate, length-append, length-replicate}
use Rattle.property.specs.Meant.{meant}
use Rattle.property.specs.declared.Property.{Property}
use Rattle.property.proofs.Refusal.{taken_bounds}
use Rattle.fields.specs.Fields.{at, packed, Bits, form, size}
use Rattle.fields.proofs.Packed.{Bits-append, Bits-zeros, packed-zeros, length-form}
use Rattle.property_form.specs.Form.{property_bits, property_form, form_bits, form_size}
use Rattle.property_form.proofs.FormBits.{length_of_bits, length_of_form, Bits-property}
use Rattle.std.proofs.lemmas.Result.{err_from_is_err_and}
use Rattle.outcomes.specs.declared.Refusal.TheVariants.{NoRoom}
use Rattle.outcomes.proofs.Same.{refusal_not_0}
use Rattle.property_form.proofs.Answers.{write_err, written-taken, left-taken, write_first, write_short, write_fits}
use Rattle.property_form.proofs.write_property.Goals as goal

-- The bytes of the form.
abbrev bytes : Property → ℕ
bytes p = size (length (property_bits (meant p)))

bits-size : (p : Property) → bytes p ≡ form_size p.n
bits-size p = ap size (length_of_bits p)

wrote : (p : Property) (buf : List ℕ) → form (property_bits (meant p)) ++ drop (bytes p) buf ≡ property_form (meant p) ++ drop (length (property_form (meant p))) buf
unfolding property_form
wrote p buf =
    ap (λ (k : ℕ). form (property_bits (meant p)) ++ drop k buf) (sym (length-form (property_bits (meant p))))

length_list : (p : Property) (l : List ℕ) → l ≡ property_bits (meant p) ++ replicate (352 - form_bits p.n) 0 → p.n ≤ 32 → length l ≡ 352
length_list p l e h =
    ap length e
    ∙ length-append (property_bits (meant p)) (replicate (352 - form_bits p.n) 0)
    ∙ omega (arith, length_of_bits p, length-replicate {A = ℕ} (352 - form_bits p.n) 0)

list_bits : (p : Property) (l : List ℕ) → l ≡ property_bits (meant p) ++ replicate (352 - form_bits p.n) 0 → Bits (at l)
list_bits p l e i =
    subst (λ (x : List ℕ). at x i < 2) (sym e)
    (Bits-append (property_bits (meant p)) (replicate (352 - form_bits p.n) 0) (Bits-property (meant p))
    (Bits-zeros (352 - form_bits p.n)) i)

pub returns-in_err-refused : goal.returns-in_err-refused
returns-in_err-refused c =
    let q = meant c.args.p in
    let r = c.in_err-refused.field-0.0 in
    let h = c.in_err-refused.ensures in
    let p = err_from_is_err_and c.from_residual.result c.from_residual.ensures.1 in
    rw (p.1, p.2) (write_err q c.args.buf.now r (h ∙ sym (write_first q c.args.buf.now (λ e. refusal_not_0 r (h ∙ e)))))

pub form_bytes-size-requires : goal.form_bytes-size-requires
form_bytes-size-requires c = omega (arith, taken_bounds c.args.p (sym c.in_ok-refused.ensures))

pub returns-then-buf-size : goal.returns-then-buf-size
returns-then-buf-size c =
    let p = c.args.p in
    let buf = c.args.buf.now in
    write_err (meant p) buf NoRoom (sym (write_short (meant p) buf (sym c.in_ok-refused.ensures) (omega (arith, length_of_form p))))

pub bits_of-requires : goal.bits_of-requires
bits_of-requires c = omega (arith, taken_bounds c.args.p (sym c.in_ok-refused.ensures))

pub pack-requires : goal.pack-requires
pack-requires c =
    let p = c.args.p in
    let l = c.bits_of in
    let t = taken_bounds p (sym c.in_ok-refused.ensures) in (
      omega (arith, length_list p l.result l.ensures t.most, c.form_bytes-size.ensures, t.most),
      omega (arith, c.if-buf-size.false),
      list_bits p l.result l.ensures,
    )

pub returns : goal.returns
returns c =
    let p = c.args.p in
    let buf = c.args.buf.now in
    let k = c.form_bytes-size in
    let fits =
    write_fits (meant p) buf (sym c.in_ok-refused.ensures) (omega (arith, length_of_form p, k.ensures, c.if-buf-size.false)) in (
      written-taken (meant p) buf k.result fits (k.ensures ∙ sym (length_of_form p)),
      c.pack.ensures
          ∙ ap₂ (λ (x : List ℕ) (k : ℕ). packed (at x) k ++ drop k buf) c.bits_of.ensures (k.ensures ∙ sym (bits-size p))
          ∙ ap (λ (x : List ℕ). x ++ drop (bytes p) buf) (packed-zeros (property_bits (meant p)) (352 - form_bits p.n))
          ∙ wrote p buf
          ∙ left-taken (meant p) buf fits,
    )
