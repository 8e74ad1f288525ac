-- `listing_shell::records` is safe and ends: what is put is the next text of the listing, and each turn is one record more.
use mathlib.Core.Path.{refl}
use Rattle.session_record.proofs.Range.{ranged}
use Rattle.session_record.proofs.Lending.{lends}
use Rattle.listing_shell.proofs.Listed.{rows-fresh, none-listed, lists_next, lists_on}
use Rattle.listing_shell.proofs.records.Goals as goal

pub fill-requires : goal.fill-requires
fill-requires g c = ((ranged c.args.s c.requires.1).formed, refl)

pub new-steps-requires : goal.new-steps-requires
new-steps-requires g c = ((ranged c.args.s c.requires.1).formed, c.fill.ensures)

pub invariant_of-lent : goal.invariant_of-lent
invariant_of-lent g c =
    let r = c.rows_of-rows in
    record { ready = lends c.args.s c.requires.1 c.new-steps.result.property c.new-steps.ensures r.result r.ensures.0 r.ensures.2 }

pub loop-turns-init : goal.loop-turns-init
loop-turns-init g c =
    let s = c.args.s in
    let r = c.rows_of-rows in
    none-listed c.args.form s.property _ (rows-fresh s c.requires.0 c.requires.1 c.new-steps.result.property c.new-steps.ensures r.result r.ensures.0)

pub put-requires : goal.put-requires
put-requires g c =
    lists_next c.args.s.property c.loop-turns.invariant c.next-r.ensures

pub loop-turns-preserved : goal.loop-turns-preserved
loop-turns-preserved g c =
    lists_on c.args.s.property c.loop-turns.invariant c.next-r.ensures (c.put.ensures c.if-not-put.false)
