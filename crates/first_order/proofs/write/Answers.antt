-- `first_order::write` meets its contract: the order, then its moments.
use native.Mathlib.Omega.{arith}
use Rattle.first_order.proofs.Writing.{numbers-within, both_written}
use Rattle.first_order.proofs.write.Goals as goal

pub earliest-requires : goal.earliest-requires
earliest-requires c =
    let a = c.args in
    let f = c.requires.found in
    record {
      p_value = (a.steps.now.formed, f.sized.output_long, f.sized.stamps_low);
      stamp_in_bounds = (omega (arith, c.requires.stamp_in_bounds.0, c.order.ensures.long), c.requires.stamp_in_bounds.1);
      by_index = numbers-within a.steps.now.property a.output.now a.action.now a.stamp.now a.breaking f _ _ c.order.ensures;
    }

pub returns : goal.returns
returns c =
    let a = c.args in
    both_written a.steps.now.property a.output.now a.action.now a.stamp.now a.breaking c.requires.found _ _ c.order.ensures _ _ c.earliest.ensures
