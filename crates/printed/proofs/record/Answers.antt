-- `printed::record` meets its contract: refusal 10, or the record on what is lent of the session.
use Rattle.std.proofs.Common.{◌≡◌, ℕ, false, Bool, cond, List, refl, sym, ap, ◌∙◌, subst}
use Rattle.record_form.specs.Record.{record_answer, read_case}
use Rattle.trace_form.specs.ReadAs.{ReadAs, case_as, read_as}
use Rattle.trace_form.proofs.ReadAs.{read-case}
use Rattle.session_record.specs.Record.{latest_of, out_of_range}
use Rattle.session_record.specs.Lent.{Memory, memory_of, record_in}
use Rattle.session_record.specs.Loan.{memory_in}
use Rattle.session_record.proofs.Range.{ranged}
use Rattle.session_record.proofs.Lending.{lends, lent_is}
use Rattle.printout.specs.Text.{stop_text}
use Rattle.printed.specs.Lent.{Adds}
use Rattle.printed.proofs.Listed.{named}
use Rattle.printed.proofs.Tidied.{by_value}
use Rattle.printed.proofs.record.Goals as goal
use Rattle.printed.proofs.record.Goals.{Else-unfit, After-record-added, then-added, else-added}

-- refusal 10 does not name the record
fit : (c : Else-unfit) → out_of_range c.args.s ≡ false
fit c = sym c.unfit.ensures ∙ c.if-unfit.false

pub returns-then-unfit : goal.returns-then-unfit
returns-then-unfit c =
    let a = c.args in
    ap (λ (x : List ℕ). record { text = x; session = a.s; count = a.count; more = false }) (c.stop.ensures ∙ ap (stop_text a.count) c.from.ensures)
    ∙ sym (named record_answer a.s a.count a.bytes.now (sym c.unfit.ensures ∙ c.if-unfit.true))

pub fill-requires : goal.fill-requires
fill-requires c = ((ranged c.args.s (fit (goal.at.fill-requires c).Else-unfit)).formed, refl)

pub new-steps-requires : goal.new-steps-requires
new-steps-requires c = ((ranged c.args.s (fit (goal.at.new-steps-requires c).Else-unfit)).formed, c.fill.ensures)

pub invariant_of-lent : goal.invariant_of-lent
invariant_of-lent c =
    let r = c.rows_of-rows in
    record { ready = lends c.args.s (fit (goal.at.invariant_of-lent c).Else-unfit) c.new-steps.result.property c.new-steps.ensures r.result r.ensures.0 r.ensures.2 }

-- what it adds, on what is lent of the session
abbrev after : After-record-added → Memory
after k = memory_in k.record-added.new.lent

adds : (k : After-record-added) → out_of_range k.args.s ≡ false
    → Adds (memory_of k.args.s) k.args.count (read_as (record_answer k.args.bytes.now (latest_of k.args.s))) k.record-added.result (after k)
adds k fits =
    let s = k.args.s in
    let r = k.rows_of-rows in
    subst (λ (x : ReadAs). Adds (memory_of s) k.args.count x k.record-added.result (after k)) (sym (read-case k.read_record-read.ensures))
    (subst (λ (m : Memory). Adds m k.args.count (case_as (read_case k.read_record-read.result)) k.record-added.result (after k))
    (lent_is s fits k.new-steps.result.property k.new-steps.ensures r.result r.ensures.0) k.record-added.ensures.adds)

pub returns : goal.returns
returns c =
    let at = goal.at.returns c in
    let fits = fit at.Else-unfit in
    let k = at.After-record-added in
    let s = c.args.s in
    let r = c.record-added.result in
    by_value s fits c.args.count c.args.bytes.now r (after k) (adds k fits) c.if-added.result (
    elim c.if-added.branch [
      | then-added w ↦ w.result-is ∙ w.made.ensures ∙ ap (λ (b : Bool). cond b (record_in (after k)) s) (sym w.if-added.true)
      | else-added w ↦ w.result-is ∙ ap (λ (b : Bool). cond b (record_in (after k)) s) (sym w.if-added.false)
    ]
    )
