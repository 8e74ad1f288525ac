-- `show_why::records` is safe and ends: a call can start from what is lent, what is kept is the run that is open, and each turn is one record
-- more.
use Rattle.show_why.proofs.Going.{fresh-lends, fresh-is, going_fresh, going_on, going_open}
use Rattle.show_why.proofs.records.Goals as goal

pub invariant_of-lent : goal.invariant_of-lent
invariant_of-lent g c =
    record {
      ready =
          fresh-lends c.args.p c.requires c.fresh.result c.fresh.ensures c.new-steps.result.property c.new-steps.ensures c.rows_of-rows.result
          c.rows_of-rows.ensures.0 c.rows_of-rows.ensures.2;
    }

pub loop-turns-init : goal.loop-turns-init
loop-turns-init g c =
    going_fresh _ _
    (fresh-lends c.args.p c.requires c.fresh.result c.fresh.ensures c.new-steps.result.property c.new-steps.ensures c.rows_of-rows.result
    c.rows_of-rows.ensures.0 c.rows_of-rows.ensures.2)
    (fresh-is c.args.p c.requires c.fresh.result c.fresh.ensures c.new-steps.result.property c.new-steps.ensures c.rows_of-rows.result
    c.rows_of-rows.ensures.0) c.new-kept.ensures

pub loop-turns-preserved : goal.loop-turns-preserved
loop-turns-preserved g c = going_on _ _ _ c.loop-turns.invariant c.in-Ok.did c.in_default.not-Ended c.in-Ok.ensures

-- where a run is open at the end record
pub tell-requires : goal.tell-requires
tell-requires g c = going_open _ _ _ c.loop-turns.invariant c.in-Ended.is c.in-Ok.ensures c.if-lent.false
