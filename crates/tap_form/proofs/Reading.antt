-- The reader's answer: a record of the card is read as the record of document 01 with the same kind and action, but 63 for a gap's 0, whose
-- stamp field is the wrapped difference, or for an end the counter itself.
use Rattle.std.proofs.Common.{◌≡◌, ℕ, zero, suc, ◌+◌, ◌<◌, ◌≤◌, Bool, true, false, cond, not, ◌&&◌, eqb, List, length, sym, refl, ap, ◌∙◌, subst, ap₂, arith, eq-eqb, ne_eqb, eqb-true}
use mathlib.Core.Bool.{or-true, and-false}
use borrow.Author.Tests.{eqb-false, not-false}
use Rattle.laws.proofs.Tests.{or_split}
use Rattle.meaning.specs.Limits.{most_lost}
use Rattle.meaning.specs.Numbers.{given, first_of}
use Rattle.meaning.proofs.Refusals.{unless_taken, unless_kept}
use Rattle.fields.specs.Fields.{field}
use Rattle.record_form.specs.Record.{RecordAnswer, end, read_case, numbers, case_of, case_by, taken, refused, answered, broken, stamp_above, fields_refusal}
use Rattle.std.specs.Prelude.{Result, Err}
use Rattle.outcomes.specs.declared.Refusal.{Refusal}
use Rattle.outcomes.specs.declared.Refusal.TheVariants.{TooShort}
use Rattle.record_form.specs.declared.Record.{Record}
use Rattle.record_form.proofs.Rules.{broken-none, broken-end, is_0, not_0, fields_numbers}
use Rattle.record_form.proofs.Reading.{short_by, long_by, none_of_three, read_by, fields_same_numbers, answered-number}
use Rattle.fields.proofs.Laws.{field_lt}
use Rattle.trace_form.proofs.Reader.{by_size}
use Rattle.tap_form.specs.Tap.{tap_size, since, tap_stamp, tap_broken, tap_action, tap_fields_refusal, tap_refusal, tap_answer, IsTapRead, tap_bytes_read}

-- the answer to fields
abbrev pub tap_numbers : ℕ → ℕ → ℕ → ℕ → RecordAnswer
tap_numbers kind action counter before =
    answered (tap_fields_refusal kind action counter before) (taken kind (tap_action kind action) (tap_stamp kind counter before))

-- the stamp field of the record of document 01
abbrev pub stamp-field : ℕ → ℕ → ℕ → ℕ
stamp-field kind counter before = cond (eqb kind end) counter (since counter before)

-- "each next one the stamp before plus the wrapped difference", but for an end
pub line-stamp : (kind counter before : ℕ) → kind < 3 → tap_stamp kind counter before ≡ before + since counter before
unfolding tap_stamp
line-stamp kind counter before h = simp (ne_eqb kind 3 (λ e. omega (arith, h, e)))

pub end-stamp : (kind counter before : ℕ) → kind ≡ 3 → tap_stamp kind counter before ≡ before
unfolding tap_stamp
end-stamp kind counter before e = simp (eq-eqb kind 3 e)

-- "The tap card's gaps keep action 0"
pub gap-broken : (kind action : ℕ) (other : Bool) → kind ≡ 2 → (action ≡ 0 → ⊥) → tap_broken kind action other ≡ true
unfolding tap_broken
gap-broken kind action other e n = simp (eq-eqb kind 2 e, not_0 action n)

pub gap_sound : (kind action : ℕ) (other : Bool) → kind ≡ 2 → action ≡ 0 → tap_broken kind action other ≡ false
unfolding tap_broken
gap_sound kind action other e z = simp (is_0 action z, and-false, broken-none kind action other (omega (arith, e)))

pub gap-number : (kind action : ℕ) (other : Bool) → kind ≡ 2 → tap_broken kind action other ≡ false → action ≡ 0
unfolding tap_broken
gap-number kind action other e sound =
    eqb-true action 0 (not-false _ (ap (λ (b : Bool). b && not (eqb action 0)) (sym (eq-eqb kind 2 e)) ∙ (or_split (eqb kind 2 && not (eqb action 0)) _ sound).0))

-- "Kinds are as in document 01"
pub no_gap : (kind action : ℕ) (other : Bool) → (kind ≡ 2 → ⊥) → tap_broken kind action other ≡ broken kind action other
unfolding tap_broken
no_gap kind action other n = simp (ne_eqb kind 2 n)

-- "and count as 63"; what is no gap has its own action
pub gap_counts : (kind action : ℕ) → kind ≡ 2 → tap_action kind action ≡ most_lost
gap_counts kind action e = ap (λ (b : Bool). cond b most_lost action) (eq-eqb kind 2 e)

pub own_action : (kind action : ℕ) → (kind ≡ 2 → ⊥) → tap_action kind action ≡ action
own_action kind action n = ap (λ (b : Bool). cond b most_lost action) (ne_eqb kind 2 n)

-- ---- by the kind
module _ (action counter before : ℕ) where
  -- what is not an end is broken or not whatever its third field is
  as_line : (kind number : ℕ) (x y : Bool) (stamp : ℕ) → x ≡ y
      → answered (first_of (given 8 x) (given 4 (stamp_above stamp before))) (taken kind number stamp)
      ≡ answered (first_of (given 8 y) (given 4 (stamp_above stamp before))) (taken kind number stamp)
  as_line kind number x y stamp e = ap (λ (b : Bool). answered (first_of (given 8 b) (given 4 (stamp_above stamp before))) (taken kind number stamp)) e

  as_end : fields_numbers end action counter before ≡ tap_numbers end action counter before
  unfolding fields_refusal tap_fields_refusal tap_broken tap_stamp answered
  as_end = go (eqb counter 0) refl
    where
      go : (b : Bool) → eqb counter 0 ≡ b
          → answered (first_of (given 8 (broken end action (not (eqb counter 0)))) (given 4 (stamp_above (before + counter) before))) (taken end action (before + counter))
          ≡ answered (first_of (given 8 (broken end action (not (eqb counter 0)))) (given 4 (stamp_above before before))) (taken end action before)
      go true e =
          let same : before + counter ≡ before = omega (arith, eqb-true counter 0 e) in
          ap (λ (n : ℕ). answered (first_of (given 8 (broken end action (not (eqb counter 0)))) (given 4 (stamp_above n before))) (taken end action n)) same
      go false e =
          let bad : broken end action (not (eqb counter 0)) ≡ true = ap (λ (b : Bool). broken end action (not b)) e ∙ broken-end end action true refl ∙ or-true (not (eqb action 0)) in
          simp bad

  pub as_record : (kind : ℕ) → kind < 4 → (kind ≡ 2 → action ≡ 0)
      → fields_numbers kind (tap_action kind action) (stamp-field kind counter before) before ≡ tap_numbers kind action counter before
  unfolding fields_refusal tap_fields_refusal tap_stamp
  as_record zero h z = as_line 0 action _ _ _ (broken-none 0 action _ (omega arith) ∙ sym (no_gap 0 action _ (λ e. omega arith) ∙ broken-none 0 action _ (omega arith)))
  as_record (suc zero) h z = as_line 1 action _ _ _ (broken-none 1 action _ (omega arith) ∙ sym (no_gap 1 action _ (λ e. omega arith) ∙ broken-none 1 action _ (omega arith)))
  as_record (suc (suc zero)) h z = as_line 2 most_lost _ _ _ (broken-none 2 most_lost _ (omega arith) ∙ sym (gap_sound 2 action _ refl (z refl)))
  as_record (suc (suc (suc zero))) h z = as_end
  as_record (suc (suc (suc (suc kind)))) h z = let z : ⊥ = omega arith in absurd z

  -- as the code has them
  pub gap-refused : (kind : ℕ) → kind ≡ 2 → (action ≡ 0 → ⊥) → tap_numbers kind action counter before ≡ refused 8
  unfolding tap_fields_refusal answered
  gap-refused kind e n = simp (gap-broken kind action (not (eqb counter 0)) e n)

  -- with its number and its third field
  by_fields : (kind number less : ℕ) → kind < 4 → (kind ≡ 2 → action ≡ 0) → tap_action kind action ≡ number → stamp-field kind counter before ≡ less
      → fields_numbers kind number less before ≡ tap_numbers kind action counter before
  by_fields kind number less h z a e = ap₂ (λ (x m : ℕ). fields_numbers kind x m before) (sym a) (sym e) ∙ as_record kind h z

  time_field : (kind less : ℕ) → (kind ≡ 3 → ⊥) → less ≡ since counter before → stamp-field kind counter before ≡ less
  time_field kind less n e = ap (λ (b : Bool). cond b counter (since counter before)) (ne_eqb kind 3 n) ∙ sym e

  pub gap_as_record : (kind less : ℕ) → kind < 4 → kind ≡ 2 → action ≡ 0 → less ≡ since counter before
      → fields_numbers kind most_lost less before ≡ tap_numbers kind action counter before
  gap_as_record kind less h k z e = by_fields kind most_lost less h (λ q. z) (gap_counts kind action k) (time_field kind less (λ q. omega (arith, k, q)) e)

  pub end_as_record : (kind : ℕ) → kind < 4 → kind ≡ 3 → fields_numbers kind action counter before ≡ tap_numbers kind action counter before
  end_as_record kind h k =
      by_fields kind action counter h (λ q. omega (arith, k, q)) (own_action kind action (λ q. omega (arith, k, q)))
      (ap (λ (b : Bool). cond b counter (since counter before)) (eq-eqb kind 3 k))

  pub line_as_record : (kind less : ℕ) → kind < 4 → (kind ≡ 2 → ⊥) → (kind ≡ 3 → ⊥) → less ≡ since counter before
      → fields_numbers kind action less before ≡ tap_numbers kind action counter before
  line_as_record kind less h m n e = by_fields kind action less h (λ q. absurd (m q)) (own_action kind action m) (time_field kind less n e)

  -- the enum's case says the same numbers
  tap_same_numbers : (kind : ℕ) → kind < 4 → numbers (case_of (tap_numbers kind action counter before)) ≡ tap_numbers kind action counter before
  unfolding case_by
  tap_same_numbers kind h = go (eqb kind 2) refl (eqb action 0) refl
    where
      same : (kind ≡ 2 → action ≡ 0) → numbers (case_of (tap_numbers kind action counter before)) ≡ tap_numbers kind action counter before
      same z =
          subst (λ (a : RecordAnswer). numbers (case_of a) ≡ a) (as_record kind h z)
          (fields_same_numbers kind (tap_action kind action) (stamp-field kind counter before) before (omega (arith, h)))

      go : (b : Bool) → eqb kind 2 ≡ b → (c : Bool) → eqb action 0 ≡ c → numbers (case_of (tap_numbers kind action counter before)) ≡ tap_numbers kind action counter before
      go false e c f = same (λ q. absurd (eqb-false kind 2 e q))
      go true e true f = same (λ q. eqb-true action 0 f)
      go true e false f = subst (λ (a : RecordAnswer). numbers (case_of a) ≡ a) (sym (gap-refused kind (eqb-true kind 2 e) (eqb-false action 0 f))) refl

-- ---- bytes
module _ (s : List ℕ) (before : ℕ) where
  abbrev pub values : RecordAnswer
  values = taken (field s 0 2) (tap_action (field s 0 2) (field s 2 6)) (tap_stamp (field s 0 2) (field s 8 32) before)

  pub tap_short : length s < 5 → tap_answer s before ≡ refused 7
  unfolding tap_answer tap_refusal
  tap_short h = short_by 5 s _ _ h

  pub tap_long : 5 ≤ length s → tap_answer s before ≡ tap_numbers (field s 0 2) (field s 2 6) (field s 8 32) before
  unfolding tap_answer tap_refusal
  tap_long h = long_by 5 s _ _ h

  pub tap_number : (tap_answer s before).refusal ≡ tap_refusal s before
  unfolding tap_answer
  tap_number = answered-number (tap_refusal s before) values refl

  -- What holds of bytes that are taken.
  pub record TapReadable : Type 0 where
    pub size : 5 ≤ length s
    pub sound : tap_broken (field s 0 2) (field s 2 6) (not (eqb (field s 8 32) 0)) ≡ false
    pub in_range : stamp_above (tap_stamp (field s 0 2) (field s 8 32) before) before ≡ false

  pub tap_is_taken : tap_refusal s before ≡ 0 → TapReadable
  unfolding tap_refusal tap_fields_refusal
  tap_is_taken e = let p = none_of_three 5 s _ _ e in record { size = p.0; sound = p.1; in_range = p.2 }

  pub tap_taken : tap_refusal s before ≡ 0 → tap_answer s before ≡ values
  unfolding tap_answer answered
  tap_taken e = rw e

  -- what was taken, by its fields
  pub tap_fields : (kind action stamp : ℕ) → tap_answer s before ≡ taken kind action stamp → TapReadable × (values ≡ taken kind action stamp)
  tap_fields kind action stamp e =
      let none = sym tap_number ∙ ap (λ (a : RecordAnswer). a.refusal) e in
      (tap_is_taken none, sym (tap_taken none) ∙ e)

  -- an end's stamp is the one before
  pub tap_end : (action stamp : ℕ) → tap_answer s before ≡ taken end action stamp → stamp ≡ before
  tap_end action stamp e =
      let v = (tap_fields end action stamp e).1 in
      sym (ap (λ (a : RecordAnswer). a.stamp) v) ∙ end-stamp (field s 0 2) (field s 8 32) before (ap (λ (a : RecordAnswer). a.kind) v)

  -- the fields one by one, and then their record
  pub tap_read_fields : (kind action counter : ℕ) (r : Result Record Refusal) → 5 ≤ length s
      → kind ≡ field s 0 2 → action ≡ field s 2 6 → counter ≡ field s 8 32 → numbers (read_case r) ≡ tap_numbers kind action counter before
      → IsTapRead s before (read_case r)
  tap_read_fields kind action counter r h hk ha hc e = read_by r (e ∙ rw (hk, ha, hc) (sym (tap_long h)))

  pub tap_read_short : length s < 5 → IsTapRead s before (read_case (Err TooShort))
  tap_read_short h = read_by (Err TooShort) (sym (tap_short h))

  pub tap_always_read : IsTapRead s before (case_of (tap_answer s before))
  unfolding case_by
  tap_always_read =
      record {
        answer = refl;
        in_numbers =
            by_size tap_size s
            (λ h. rw (tap_long h) (tap_same_numbers (field s 2 6) (field s 8 32) before (field s 0 2) (omega (arith, field_lt s 0 2))))
            (λ h. rw (tap_short h) refl);
      }

  -- ---- the rest
  pub tap_size-taken : tap_refusal s before ≡ 0 → tap_bytes_read s before ≡ 5
  unfolding tap_bytes_read
  tap_size-taken e = unless_taken (tap_refusal s before) 5 0 e

  pub tap_size-refused : (tap_refusal s before ≡ 0 → ⊥) → tap_bytes_read s before ≡ 0
  unfolding tap_bytes_read
  tap_size-refused h = unless_kept (tap_refusal s before) 5 0 h
