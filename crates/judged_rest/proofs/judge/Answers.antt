-- `judged_rest::judge` meets its contract. The loop: what the first k lines have come to.
use Prim.Native.Nat.{ℕ, ◌+◌}
use mathlib.Core.Path.{◌≡◌, refl, sym, ap, subst, ◌∙◌}
use native.Mathlib.Omega.{arith}
use lib.ListN.{length, replicate}
use Rattle.std.proofs.lemmas.Result.{err_from_is_err_and}
use Rattle.meaning.specs.Node.{verdict_number}
use Rattle.outcomes.specs.Numbers.{number_told}
use Rattle.rows.specs.Rows.{none, Room}
use Rattle.rows.proofs.Rows.{within_none}
use Rattle.session_record.specs.Lent.{memory, held_in, Ready}
use Rattle.session_record.specs.Loan.{memory_in}
use Rattle.session_record.proofs.Making.{four_room}
use Rattle.judged_rest.specs.Lent.{lent}
use Rattle.judged_rest.specs.Judged.{Judged, judged}
use Rattle.judged_rest.proofs.Turns.{judged-start, judged-next, judged-refused}
use Rattle.judged_rest.proofs.judge.Goals as goal
use Rattle.judged_rest.proofs.judge.Goals.{After-verdict}

-- the memory with the one cut: the judgement has begun there, and a line can start
begun : (c : After-verdict)
    → (let m = memory c.args.steps.now.property c.put_cut.new.rows (record { span = c.spanning-span.result; clock = c.fresh.result }) in
    (record { cuts = held_in m; told = record { refusal = 0; verdict = number_told c.verdict.result; line = 0 } }
    ≡ judged c.args.steps.now.property (lent c.args.output.now c.args.action.now c.args.stamp.now) c.args.from 0)
    × Ready m)
begun c =
    let room : Room (replicate 4 (replicate 65 0)) c.spanning-span.result =
    subst (Room (replicate 4 (replicate 65 0))) (sym c.spanning-span.ensures)
    (four_room (replicate 65 0) (replicate 65 0) (replicate 65 0) (replicate 65 0) refl refl refl refl none within_none) in
    let p = c.args.steps.now.property in
    judged-start p c.args.steps.now.formed c.args.from.cut c.requires.fits _ c.put_cut.new.rows c.spanning-span.result c.fresh.result room (omega arith)
    c.spanning-span.ensures c.fresh.ensures c.put_cut.ensures _ c.args.from refl _ (ap verdict_number (c.verdict.ensures p c.requires.fits))

pub invariant_of-lent : goal.invariant_of-lent
invariant_of-lent c = record { ready = (begun c).1 }

pub loop-k-init : goal.loop-k-init
loop-k-init c = record { so_far = (begun (goal.at.loop-k-init c).After-verdict).0; own = refl }

pub returns-in_err-reason : goal.returns-in_err-reason
returns-in_err-reason c =
    let p = err_from_is_err_and c.from_residual.result c.from_residual.ensures.1 in
    let l = c.loop-k.invariant in
    let next = judged-next _ _ _ c.loop-k.k (memory_in c.loop-k.lent) _ (memory_in c.turn.new.lent) _ l.own l.so_far c.in_err-reason.ensures in
    rw (p.1, p.2) (judged-refused _ _ _ (c.loop-k.k + 1) _ (omega arith) _ (ap (λ (j : Judged). j.told) next))

pub loop-k-preserved : goal.loop-k-preserved
loop-k-preserved c =
    let l = c.loop-k.invariant in
    record {
      so_far = judged-next _ _ _ c.loop-k.k (memory_in c.loop-k.lent) _ (memory_in c.turn.new.lent) _ l.own l.so_far c.in_ok-reason.ensures;
      own = c.turn.ensures.own ∙ l.own;
    }

pub returns : goal.returns
returns c =
    ap (λ (j : Judged). j.told) c.loop-k.invariant.so_far
    ∙ ap (λ (k : ℕ). (judged c.args.steps.now.property (lent c.args.output.now c.args.action.now c.args.stamp.now) c.args.from k).told)
    (let z : c.loop-k.k ≡ length c.args.stamp.now = omega arith in z)
