-- `property::above` meets its contract: the numbers that are looked at are those of the sequence.
use Rattle.std.proofs.Common.{◌∙◌, arith, rules, tests, take, get_or, ltb, false}
use Rattle.std.proofs.lemmas.Iterator.{YieldsList-from_slice}
use Rattle.std.proofs.lemmas.Iterator.Search.{any_from_yields_List}
use Rattle.property.proofs.Sequence.{above_some}
use Rattle.property.proofs.above.Goals as goal

pub returns : goal.returns
returns c =
    let p = c.args.p in
    any_from_yields_List (ltb 63) _ _ c.any.result c.any.ensures.ran (YieldsList-from_slice (take p.n p.number) cc) (λ x b q k. search (rules, tests))
    ∙ above_some (λ i. get_or p.output i false) p.number p.n (omega arith)
