-- The listing goes record by record as a walk does, and never meets refusal 10.
use Rattle.std.proofs.Common.{◌≡◌, ℕ, zero, suc, Bool, true, false, cond, eqb, List, drop, sym, refl, ap, ◌∙◌, true≢false, arith, eqb-true}
use Rattle.meaning.specs.Numbers.{given, property_refusal}
use Rattle.meaning.proofs.Refusals.{first_of-none}
use Rattle.property.specs.Meant.{meant}
use Rattle.property.specs.declared.Property.{Property}
use Rattle.property_form.specs.Read.{read, read_refusal, property_read, answer, too_short, pad_broken}
use Rattle.record_form.specs.Record.{record_size, record_answer}
use Rattle.session_record.specs.declared.Session.{Session}
use Rattle.session_record.specs.Record.{out_of_range}
use Rattle.session_record.specs.Step.{fresh_of}
use Rattle.session_record.proofs.Fit.{fresh_fit, in_range}
use Rattle.session_record.proofs.Steps.{stays_in_range}
use Rattle.session_record.proofs.Running.{fresh_record}
use Rattle.walk.specs.Walk.{Stopping, One, one_of, stopped, walked_by, walk_on, walk_of}
use Rattle.walk.proofs.Steps.{StepOf, one_step}
use Rattle.printout.specs.Text.{stop_text}
use Rattle.printed.specs.declared.Printed.{Printed}
use Rattle.printed.specs.Printed.{last_line, by_one, printed_by, printed_of, begun_of}
use Rattle.printed.proofs.Listed.{not_named}

-- One record is a walk of one record: the session after it is the same, and the listing goes on exactly if it was taken.
pub record AsWalked (s : Session) (count : ℕ) (bytes : List ℕ) : Type 0 where
  pub session : (printed_of s count bytes).session ≡ (walk_of s bytes 1).session
  pub more : (printed_of s count bytes).more ≡ eqb (walk_of s bytes 1).taken 1

pub as_walked : (s : Session) (count : ℕ) (bytes : List ℕ) → AsWalked s count bytes
as_walked s count bytes =
    record { session = unfold printed_by walk_of in (same-session (out_of_range s)); more = unfold printed_by walk_of in (same_more (out_of_range s)) }
  where
    one-session : (o : One) → (by_one s count o).session ≡ (walked_by o s (λ after. walk_on 0 after (drop record_size bytes))).session
    one-session One.ended = unfold by_one walked_by in refl
    one-session (One.refused n) = unfold by_one walked_by in refl
    one-session (One.took c after) = unfold by_one walked_by walk_on in refl

    one_more : (o : One) → (by_one s count o).more ≡ eqb (walked_by o s (λ after. walk_on 0 after (drop record_size bytes))).taken 1
    one_more One.ended = unfold by_one walked_by in refl
    one_more (One.refused n) = unfold by_one walked_by in refl
    one_more (One.took c after) = unfold by_one walked_by walk_on in refl

    same-session : (t : Bool) → (cond t (last_line s count (stop_text count 10)) (by_one s count (one_of s bytes))).session ≡ (cond t (stopped s (Stopping.at_refusal 10) 0) (walk_on 1 s bytes)).session
    same-session true = refl
    same-session false = unfold walk_on in (one-session (one_of s bytes))

    same_more : (t : Bool) → (cond t (last_line s count (stop_text count 10)) (by_one s count (one_of s bytes))).more ≡ eqb (cond t (stopped s (Stopping.at_refusal 10) 0) (walk_on 1 s bytes)).taken 1
    same_more true = refl
    same_more false = unfold walk_on in (one_more (one_of s bytes))

-- ---- refusal 10

-- A property that was taken has a session that refusal 10 does not name.
pub begins_fit : (bytes : List ℕ) → (begun_of bytes).more ≡ true → out_of_range (begun_of bytes).session ≡ false
unfolding begun_of read read_refusal
begins_fit bytes m = go (read_refusal bytes) formed m
  where
    p : Property
    p = property_read bytes

    formed : read_refusal bytes ≡ 0 → property_refusal (meant p) ≡ 0
    formed z = (first_of-none (given 8 (pad_broken bytes)) (first_of-none (given 7 (too_short bytes)) z).1).1

    go : (n : ℕ) → (n ≡ 0 → property_refusal (meant p) ≡ 0) → eqb (answer n p).refusal 0 ≡ true
        → out_of_range (fresh_of (answer n p).property).session ≡ false
    go zero h q = ap out_of_range (fresh_record p (h refl)) ∙ in_range p (h refl) (fresh_fit p)
    go (suc n) h q = let z : suc n ≡ 0 = eqb-true (suc n) 0 q in let f : ⊥ = omega arith in absurd f

-- A record that was taken leaves a session that refusal 10 does not name.
pub stays_listed : (s : Session) (count : ℕ) (bytes : List ℕ) → out_of_range s ≡ false → (printed_of s count bytes).more ≡ true → out_of_range (printed_of s count bytes).session ≡ false
stays_listed s count bytes e m =
    ap (λ (r : Printed). out_of_range r.session) (not_named record_answer s count bytes e)
    ∙ after (one_of s bytes) (one_step s bytes) (ap (λ (r : Printed). r.more) (sym (not_named record_answer s count bytes e)) ∙ m)
  where
    after : (o : One) → StepOf s o → (by_one s count o).more ≡ true → out_of_range (by_one s count o).session ≡ false
    after One.ended k q = absurd (true≢false (sym (unfold by_one in q)))
    after (One.refused n) k q = absurd (true≢false (sym (unfold by_one in q)))
    after (One.took c t) k q = unfold by_one in (ap out_of_range k.steps ∙ stays_in_range s e c)
