-- `session_record::unfit` meets its contract: at each `return` the tests that led there decide refusal 10.
use Prim.Native.Nat.{ℕ, ◌≤◌}
use mathlib.Core.List.{List}
use native.Mathlib.Omega.{arith}
use mathlib.Core.Path.{◌≡◌, refl, sym, ap, ◌∙◌}
use mathlib.Core.Bool.{Bool, true, false, not, ◌&&◌, ◌||◌, or-true, or-false}
use borrow.Author.Tests.{lt-ltb, le-ltb, eq-eqb, ne_eqb}
use lib.Dec.{ltb}
use Rattle.outcomes.proofs.Same.{no_refusal, some_refusal}
use Rattle.property.proofs.Refusal.{taken_bounds}
use Rattle.meaning.specs.Limits.{last_stamp, most_open}
use Rattle.meaning.specs.Numbers.{property_refusal}
use Rattle.property.specs.Meant.{meant}
use Rattle.session_record.specs.declared.Session.{Session}
use Rattle.held.specs.Held.{stamps_fall}
use Rattle.rows.specs.Rows.{last_place}
use Rattle.session_record.specs.Record.{rows_of, span_of, start_of, count_of, latest_of, length_above, out_of_range}
use Rattle.session_record.proofs.Range.{misformed, outside, crowded, fallen, held-blind, late, too_long, range_tests}
use Rattle.session_record.proofs.unfit.Goals as goal
use Rattle.session_record.proofs.unfit.Goals.{then-is_err-via-then-is_err, then-is_err-via-else-is_err+then-span-gt-LAST_PLACE, then-is_err-via-else-is_err+else-span-gt-LAST_PLACE+then-span-gt-MOST_OPEN}
use Rattle.session_record.proofs.unfit.Goals.{then-falls-via-then-falls, then-falls-via-else-falls+then-clock-gt-LAST_STAMP}

-- The tests that have failed so far, in the words of refusal 10: the first three, and that of the stamps.
module _ (s : Session) where
  formed : (r : ℕ) → r ≡ property_refusal (meant s.property) → r ≡ 0 → misformed s ≡ false
  formed r e z = ap not (eq-eqb (property_refusal (meant s.property)) 0 (sym e ∙ z))

  begins : start_of s ≤ last_place → outside s ≡ false
  begins = le-ltb last_place (start_of s)

  few : count_of s ≤ most_open → crowded s ≡ false
  few = le-ltb most_open (count_of s)

  three : (r : ℕ) → r ≡ property_refusal (meant s.property) → r ≡ 0 → start_of s ≤ last_place → count_of s ≤ most_open
      → (d f g h : Bool) → fallen s ≡ d → held-blind s ≡ f → late s ≡ g → too_long s ≡ h → out_of_range s ≡ d || f || g || h
  three r e z b n d f g h = range_tests s false false false d f g h (formed r e z) (begins b) (few n)

  fell : (r d : Bool) (rows : List (List ℕ)) → r ≡ stamps_fall rows (span_of s) (latest_of s) → rows ≡ rows_of s → r ≡ d → fallen s ≡ d
  fell r d rows e is q = sym (e ∙ ap (λ (x : List (List ℕ)). stamps_fall x (span_of s) (latest_of s)) is) ∙ q

pub returns-then-is_err : goal.returns-then-is_err
returns-then-is_err c =
    let s = c.args.s in
    elim c.then-is_err.branch [
      | then-is_err-via-then-is_err w ↦
          sym
          (range_tests s true (outside s) (crowded s) (fallen s) (held-blind s) (late s) (too_long s)
          (ap not (ne_eqb (property_refusal (meant s.property)) 0 (λ e. some_refusal _ (sym c.is_err.ensures.value ∙ w.if-is_err.true) (c.refused.ensures ∙ e)))) refl refl refl refl refl refl)
      | then-is_err-via-else-is_err+then-span-gt-LAST_PLACE w ↦
          sym
          (range_tests s false true (crowded s) (fallen s) (held-blind s) (late s) (too_long s) (formed s _ c.refused.ensures (no_refusal _ (sym c.is_err.ensures.value ∙ w.if-is_err.false)))
          (lt-ltb last_place (start_of s) w.if-span-gt-LAST_PLACE.true) refl refl refl refl refl)
      | then-is_err-via-else-is_err+else-span-gt-LAST_PLACE+then-span-gt-MOST_OPEN w ↦
          sym
          (range_tests s false false true (fallen s) (held-blind s) (late s) (too_long s) (formed s _ c.refused.ensures (no_refusal _ (sym c.is_err.ensures.value ∙ w.if-is_err.false)))
          (begins s w.if-span-gt-LAST_PLACE.false) (lt-ltb most_open (count_of s) w.if-span-gt-MOST_OPEN.true) refl refl refl refl)
    ]

pub falls-requires : goal.falls-requires
falls-requires c =
    c.rows_of-rows.ensures.2 (span_of c.args.s) (record { begins = c.if-span-gt-LAST_PLACE.false; few = c.if-span-gt-MOST_OPEN.false })

pub returns-then-falls : goal.returns-then-falls
returns-then-falls c =
    let s = c.args.s in
    elim c.then-falls.branch [
      | then-falls-via-then-falls w ↦
          sym
          (three s _ c.refused.ensures (no_refusal _ (sym c.is_err.ensures.value ∙ c.if-is_err.false)) c.if-span-gt-LAST_PLACE.false c.if-span-gt-MOST_OPEN.false
          true (held-blind s) (late s) (too_long s)
          (fell s _ _ _ c.falls.ensures c.rows_of-rows.ensures.0 w.if-falls.true) refl refl refl)
      | then-falls-via-else-falls+then-clock-gt-LAST_STAMP w ↦
          sym
          (three s _ c.refused.ensures (no_refusal _ (sym c.is_err.ensures.value ∙ c.if-is_err.false)) c.if-span-gt-LAST_PLACE.false c.if-span-gt-MOST_OPEN.false
          false (held-blind s) true (too_long s)
          (fell s _ _ _ c.falls.ensures c.rows_of-rows.ensures.0 w.if-falls.false) refl (lt-ltb last_stamp (latest_of s) w.if-clock-gt-LAST_STAMP.true) refl
          ∙ ap (λ (b : Bool). b || too_long s) (or-true (held-blind s)))
    ]

pub returns-then-clock : goal.returns-then-clock
returns-then-clock c =
    let s = c.args.s in
    sym
    (three s _ c.refused.ensures (no_refusal _ (sym c.is_err.ensures.value ∙ c.if-is_err.false)) c.if-span-gt-LAST_PLACE.false c.if-span-gt-MOST_OPEN.false
    false (ltb 0 (count_of s)) false false
    (fell s _ _ _ c.falls.ensures c.rows_of-rows.ensures.0 c.if-falls.false)
    (ap (λ (b : Bool). b && ltb 0 (count_of s)) c.if-clock.true)
    (le-ltb last_stamp (latest_of s) c.if-clock-gt-LAST_STAMP.false)
    (ap (λ (b : Bool). not b && length_above (rows_of s) (span_of s) s.property.n) c.if-clock.true)
    ∙ ap (λ (b : Bool). b || false) (or-false (ltb 0 (count_of s)))
    ∙ or-false (ltb 0 (count_of s)))

pub strays-requires : goal.strays-requires
strays-requires c =
    let s = c.args.s in (
      c.rows_of-rows.ensures.2 (span_of s) (record { begins = c.if-span-gt-LAST_PLACE.false; few = c.if-span-gt-MOST_OPEN.false }),
      omega (arith, c.rows_of-rows.ensures.1),
      (taken_bounds s.property (sym c.refused.ensures ∙ no_refusal _ (sym c.is_err.ensures.value ∙ c.if-is_err.false))).most,
    )

pub returns : goal.returns
returns c =
    let s = c.args.s in
    let above = length_above (rows_of s) (span_of s) s.property.n in
    c.strays.ensures
    ∙ ap (λ (rows : List (List ℕ)). length_above rows (span_of s) s.property.n) c.rows_of-rows.ensures.0
    ∙ sym
    (three s _ c.refused.ensures (no_refusal _ (sym c.is_err.ensures.value ∙ c.if-is_err.false)) c.if-span-gt-LAST_PLACE.false c.if-span-gt-MOST_OPEN.false
    false false false above
    (fell s _ _ _ c.falls.ensures c.rows_of-rows.ensures.0 c.if-falls.false)
    (ap (λ (b : Bool). b && ltb 0 (count_of s)) c.if-clock.false)
    (le-ltb last_stamp (latest_of s) c.if-clock-gt-LAST_STAMP.false)
    (ap (λ (b : Bool). not b && above) c.if-clock.false))
