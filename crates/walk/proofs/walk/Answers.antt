-- `walk::walk` meets its contract: refusal 10, or the records on its rows.
use Rattle.std.specs.Prelude.{min}
use Rattle.std.proofs.lemmas.Bool.Decides.{nat_tests}
use Prim.Native.Nat.{ℕ}
use native.Mathlib.Omega.{arith}
use mathlib.Core.Path.{◌≡◌, refl, sym, ap, ◌∙◌}
use mathlib.Core.Bool.{false}
use mathlib.Core.List.{List}
use Rattle.property.specs.declared.Property.{Property}
use Rattle.session_record.specs.declared.Session.{Session}
use Rattle.session_record.specs.Record.{rows_of, out_of_range}
use Rattle.session_record.specs.Lent.{Memory, memory, record_in, tidied}
use Rattle.session_record.proofs.Range.{ranged}
use Rattle.session_record.proofs.Lending.{lends, lent_is}
use Rattle.walk.specs.Walk.{Stopping, Walk, Walking, stop_number, stop_refusal, walk_on, last_lost, budget_of, walk_of}
use Rattle.walk.specs.Lent.{HasGone}
use Rattle.walk.proofs.Going.{walk_refused}
use Rattle.walk.proofs.Tidied.{none-taken, some-taken}
use Rattle.walk.proofs.walk.Goals as goal

-- the smaller of the two is what the budget counts as
limited : (budget n : ℕ) → n ≡ min budget 4_096 → budget_of budget ≡ n
limited budget n e = grind (arith, nat_tests)

-- A walk on the rows of a record that refusal 10 does not name.
module _ (s : Session) (fit : out_of_range s ≡ false) (p : Property) (own : p ≡ s.property) (rows : List (List ℕ)) (same : rows ≡ rows_of s)
    (bytes : List ℕ) (budget n : ℕ) (few : n ≡ min budget 4_096) (taken : ℕ) (stop : Stopping) (read lost : ℕ) (after : Memory)
    (gone : HasGone n (memory p rows s.shared.status) bytes taken stop read lost after) where
  abbrev w : Walk
  w = record { taken = taken; stop = stop; read = read; session = record_in after }

  walked : walk_on (budget_of budget) (tidied s) bytes ≡ w
  walked = (λ i. walk_on (limited budget n few i) (record_in (sym (lent_is s fit p own rows same) i)) bytes) ∙ gone.walked

  abbrev numbers : Session → Walking
  numbers x = record { taken = taken; stop = stop_number stop; refusal = stop_refusal stop; read = read; lost = lost; session = x }

  none_answer : taken ≡ 0 → record { taken = 0; stop = stop_number stop; refusal = stop_refusal stop; read = read; lost = lost; session = s } ≡ walk_of s bytes budget
  none_answer z =
      let number = gone.number ∙ ap (λ (k : ℕ). last_lost 0 k bytes) z in
      (λ i. record { taken = 0; stop = stop_number stop; refusal = stop_refusal stop; read = read; lost = number i; session = s })
      ∙ none-taken s fit bytes budget w walked z

  some_answer : (taken ≡ 0 → ⊥) → (x : Session) → x ≡ record_in after → numbers x ≡ walk_of s bytes budget
  some_answer h x made =
      (λ i. record { taken = taken; stop = stop_number stop; refusal = stop_refusal stop; read = read; lost = gone.number i; session = made i })
      ∙ some-taken s fit bytes budget w walked h

pub returns-then-unfit : goal.returns-then-unfit
returns-then-unfit c = sym (walk_refused c.args.s c.args.trace.now c.args.budget (sym c.if-unfit.ensures))

pub fill-requires : goal.fill-requires
fill-requires c = ((ranged c.args.s (sym c.if-unfit.ensures)).formed, refl)

pub new-steps-requires : goal.new-steps-requires
new-steps-requires c = ((ranged c.args.s (sym c.if-unfit.ensures)).formed, c.fill.ensures)

pub invariant_of-lent : goal.invariant_of-lent
invariant_of-lent c =
    record {
      ready =
          lends c.args.s (sym c.if-unfit.ensures) c.new-steps.result.property c.new-steps.ensures c.rows_of-rows.result c.rows_of-rows.ensures.0
          c.rows_of-rows.ensures.2;
    }

pub returns-then-went-eq0 : goal.returns-then-went-eq0
returns-then-went-eq0 c =
    none_answer c.args.s (sym c.if-unfit.ensures) c.new-steps.result.property c.new-steps.ensures c.rows_of-rows.result c.rows_of-rows.ensures.0
    c.args.trace.now c.args.budget _ c.min.ensures _ _ _ _ _ c.records-went.ensures.gone c.if-went-eq0.true

pub returns : goal.returns
returns c =
    some_answer c.args.s (sym c.if-unfit.ensures) c.new-steps.result.property c.new-steps.ensures c.rows_of-rows.result c.rows_of-rows.ensures.0
    c.args.trace.now c.args.budget _ c.min.ensures _ _ _ _ _ c.records-went.ensures.gone c.if-went-eq0.false _ c.made.ensures
