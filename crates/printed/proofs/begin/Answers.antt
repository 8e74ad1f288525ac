-- `printed::begin` meets its contract: all is read off the property's reader.
use Rattle.std.specs.Prelude.{Result, Ok, Err, is_ok}
use Rattle.std.proofs.Common.{◌≡◌, ℕ, zero, suc, Bool, eqb, List, refl, ap, sym, ◌∙◌}
use borrow.Author.Tests.{ne_eqb}
use Rattle.outcomes.specs.declared.Refusal.{Refusal}
use Rattle.outcomes.specs.Numbers.{refusal_number}
use Rattle.outcomes.proofs.Same.{refusal_not_0}
use Rattle.property.specs.declared.Property.{Property}
use Rattle.property_form.specs.Read.{PropertyRead, read_numbers, read}
use Rattle.session_record.specs.declared.Stepped.{Stepped}
use Rattle.session_record.specs.Step.{Stepping, stepping_in, fresh_of}
use Rattle.printout.specs.Text.{stop_text}
use Rattle.printed.specs.declared.Printed.{Printed}
use Rattle.printed.specs.Printed.{opening_text, begun_of}
use Rattle.printed.proofs.begin.Goals as goal
use Rattle.printed.proofs.begin.Goals.{in-Ok, in-Err}

-- the result says whether the listing goes on
goes_on : (r : Result Property Refusal) → is_ok r ≡ eqb (read_numbers r).refusal 0
goes_on (Ok p) = refl
goes_on (Err refusal) = sym (ne_eqb (refusal_number refusal) 0 (refusal_not_0 refusal))

stop_opens : (n : ℕ) → (n ≡ 0 → ⊥) → stop_text 0 n ≡ opening_text n
stop_opens zero h = absurd (h refl)
stop_opens (suc n) h = refl

opens : (bytes : List ℕ) (r : Result Property Refusal) → read_numbers r ≡ read bytes → (text : List ℕ) (p : Property) → text ≡ opening_text (read_numbers r).refusal
    → p ≡ (read_numbers r).property → (f : Stepped) → stepping_in f ≡ fresh_of p → (more : Bool) → more ≡ is_ok r
    → ◌≡◌ {A = Printed} (record { text = text; session = f.session; count = 0; more = more }) (begun_of bytes)
unfolding begun_of
opens bytes r e text p shown own f fresh more ok = λ i.
    record {
      text = (shown ∙ ap (λ (x : PropertyRead). opening_text x.refusal) e) i;
      session = (ap (λ (x : Stepping). x.session) fresh ∙ ap (λ (q : Property). (fresh_of q).session) (own ∙ ap (λ (x : PropertyRead). x.property) e)) i;
      count = 0;
      more = (ok ∙ goes_on r ∙ ap (λ (x : PropertyRead). eqb x.refusal 0) e) i;
    }

pub returns : goal.returns
returns c =
    let read = c.read_property-read in
    let t = c.match-read.text in
    let at = opens c.args.bytes.now read.result read.ensures t.0 t.1 in
    elim c.match-read.branch [
      | in-Ok w ↦
          at (ap (λ x. x.0) w.text-is ∙ w.empty.ensures ∙ ap (λ (r : Result Property Refusal). opening_text (read_numbers r).refusal) (sym w.in-Ok.is))
          (ap (λ x. x.1) w.text-is ∙ ap (λ (r : Result Property Refusal). (read_numbers r).property) (sym w.in-Ok.is))
          c.fresh.result c.fresh.ensures c.is_ok-more.result c.is_ok-more.ensures.value
      | in-Err w ↦
          at (ap (λ x. x.0) w.text-is ∙ w.stop.ensures ∙ ap (stop_text 0) w.from.ensures ∙ stop_opens (refusal_number w.in-Err.refusal) (refusal_not_0 w.in-Err.refusal)
          ∙ ap (λ (r : Result Property Refusal). opening_text (read_numbers r).refusal) (sym w.in-Err.is))
          (ap (λ x. x.1) w.text-is ∙ w.none.ensures ∙ ap (λ (r : Result Property Refusal). (read_numbers r).property) (sym w.in-Err.is))
          c.fresh.result c.fresh.ensures c.is_ok-more.result c.is_ok-more.ensures.value
    ]
