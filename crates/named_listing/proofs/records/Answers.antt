-- `named_listing::records` is safe and ends: what is put is the next text of the listing with names, and each turn is one record more.
use Rattle.std.proofs.Common.{◌≡◌, ◌≤◌, ℕ, List, length, take, length-take, arith}
use Rattle.record_form.specs.Record.{record_size}
use Rattle.named_listing.proofs.Listed.{none_named, named_next, named_on}
use Rattle.named_listing.proofs.records.Goals as goal

-- no more bytes came than a record has
few : (n : ℕ) (bytes : List ℕ) → n ≤ length bytes → length bytes ≡ record_size → length (take n bytes) ≤ record_size
few n bytes h long = omega (arith, length-take n bytes)

pub loop-turns-init : goal.loop-turns-init
loop-turns-init g c = none_named _ _ c.args.s.property c.args.s c.requires

pub put-requires : goal.put-requires
put-requires g c =
    let p = c.args.s.property in
    let so_far = c.loop-turns.invariant in
    let short = few c.read_full-got.result c.read_full-got.new.buf c.read_full-got.ensures.0 (omega arith) in
    named_next _ _ p so_far _ short c.record-r.ensures

pub loop-turns-preserved : goal.loop-turns-preserved
loop-turns-preserved g c =
    let short = few c.read_full-got.result c.read_full-got.new.buf c.read_full-got.ensures.0 (omega arith) in
    named_on _ _ c.args.s.property c.loop-turns.invariant _ short c.record-r.ensures (c.put.ensures c.if-not-put.false)
