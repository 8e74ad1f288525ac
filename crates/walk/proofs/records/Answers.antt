-- `walk::records` meets its contract. The loop: what has been taken, and what is left of the walk.
use Rattle.std.specs.Prelude.{Ok}
use mathlib.Core.Path.{◌≡◌, refl, ◌∙◌, subst}
use Rattle.trace_form.specs.ReadAs.{ReadAs}
use Rattle.session_record.specs.Lent.{Memory}
use Rattle.session_record.specs.Loan.{memory_in}
use Rattle.one_record.specs.declared.Did.{Did}
use Rattle.one_record.specs.Doing.{doing_in}
use Rattle.one_record.specs.Takes.{Takes}
use Rattle.walk.proofs.Dids.{record-turned}
use Rattle.walk.proofs.Going.{going_start, going_took, going_ended, going_refused, going_done}
use Rattle.walk.proofs.records.Goals as goal
use Rattle.walk.proofs.records.Goals.{in-Line, in-Gap}

-- the arm of the `match` knows what the record did
known : {m after : Memory} {x : ReadAs} {did arm : Did} → Takes m x (doing_in (Ok did)) after → did ≡ arm → Takes m x (doing_in (Ok arm)) after
known {m} {after} {x} led e = subst (λ (d : Did). Takes m x (doing_in (Ok d)) after) e led

pub loop-taken-init : goal.loop-taken-init
loop-taken-init c = (going_start _ _ _ c.args.lent.now.ready, refl, refl)

pub loop-taken-preserved : goal.loop-taken-preserved
loop-taken-preserved c =
    let at = c.loop-taken.at in
    let bytes = c.args.trace.now in (
      elim c.match-did.branch [
        | in-Line w ↦
            rw w.lost-is (going_took c.loop-taken.invariant.0 _ _ (memory_in c.take.new.lent) c.loop-taken-test.true
            (record-turned bytes at c.read_record-read.ensures (known c.in-Ok.ensures.takes w.in-Line.is)))
        | in-Gap w ↦
            rw w.lost-is (going_took c.loop-taken.invariant.0 _ _ (memory_in c.take.new.lent) c.loop-taken-test.true
            (record-turned bytes at c.read_record-read.ensures (known c.in-Ok.ensures.takes w.in-Gap.is)))
      ],
      c.take.ensures.same_rows ∙ c.loop-taken.invariant.1,
      c.take.ensures.same_steps ∙ c.loop-taken.invariant.2,
    )

pub returns-in-Ended-clause-gone : goal.returns-in-Ended-clause-gone
returns-in-Ended-clause-gone c =
    going_ended c.loop-taken.invariant.0 (memory_in c.take.new.lent) c.loop-taken-test.true
    (record-turned c.args.trace.now c.loop-taken.at c.read_record-read.ensures (known c.in-Ok.ensures.takes c.in-Ended.is))

pub returns-in-Err-clause-gone : goal.returns-in-Err-clause-gone
returns-in-Err-clause-gone c =
    going_refused c.loop-taken.invariant.0 _ (memory_in c.take.new.lent) c.loop-taken-test.true
    (record-turned c.args.trace.now c.loop-taken.at c.read_record-read.ensures c.in-Err.ensures.takes)

pub returns-clause-gone : goal.returns-clause-gone
returns-clause-gone c = going_done c.loop-taken.invariant.0 c.loop-taken-test.false
