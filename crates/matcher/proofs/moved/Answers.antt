-- `matcher::moved` meets its contract: for an output outside the set, an allowed output, and an input.
use Prim.Native.Nat.{suc, ◌/◌, ◌%◌}
use mathlib.Core.Path.{refl, sym, ap, subst, ◌∙◌}
use native.Mathlib.Omega.{arith}
use lib.Dec.{ltb}
use lib.Pow.{pow_pos}
use Rattle.property.proofs.Refusal.{taken_bounds}
use Rattle.matcher.proofs.Words.{fits_parts, armed-lt}
use lib.Bits.{or_lt}
use borrow.Author.Tests.{eq-eqb, ne_eqb}
use Rattle.matcher.proofs.Moving.{step_asks, input_moves, allowed_moves, outside_moves}
use Rattle.matcher.proofs.moved.Goals as goal
use Rattle.matcher.proofs.moved.Goals.{then-broken, else-broken}
use mathlib.Core.Bool.{Bool, cond, ◌||◌}
use Rattle.matcher.specs.Sets.{Arranged}

pub step-free-requires : goal.step-free-requires
step-free-requires c =
    let a = c.args in
    let asks = step_asks a.steps.now.property c.args.steps.now.formed a.steps.now.table.now c.args.steps.now.made a.output a.action c.row-at.result c.row-at.ensures
    a.cut.mask (fits_parts a.steps.now.property a.cut c.requires).0 in
    record { n_bound = asks.0; by_index = asks.1 }

pub arranged-requires : goal.arranged-requires
arranged-requires c = ((taken_bounds c.args.steps.now.property c.args.steps.now.formed).most, c.step-free.ensures.1, pow_pos (suc c.args.steps.now.property.n))

pub returns-then-outside : goal.returns-then-outside
returns-then-outside c =
    let a = c.args in
    outside_moves a.steps.now.property c.args.steps.now.formed a.steps.now.table.now c.args.steps.now.made a.output a.action c.row-at.result c.row-at.ensures a.cut c.requires
    (sym (c.outside.ensures a.steps.now.property refl) ∙ c.if-outside.true)
    c.step-free.ensures.0
    (subst (λ (b : Bool). Arranged a.steps.now.property.n c.step-free.result 0 (cond b 1 0) c.arranged.result)
    (elim c.if-broken.branch [
      | then-broken w ↦
          let e = eq-eqb (a.cut.armed % 2) 1 w.if-broken.true in
          w.arranged-is ∙ e ∙ sym (ap (λ (b : Bool). b || ltb 0 (a.cut.armed / 2)) e)
      | else-broken w ↦ w.arranged-is ∙ sym (ap (λ (b : Bool). b || ltb 0 (a.cut.armed / 2)) (ne_eqb (a.cut.armed % 2) 1 w.if-broken.false))
    ])
    c.arranged.ensures)

pub step-free-requires-then-output : goal.step-free-requires-then-output
step-free-requires-then-output c =
    let a = c.args in
    let armed-low = armed-lt a.steps.now.property.n a.cut.armed (fits_parts a.steps.now.property a.cut c.requires).1 in
    let asks = step_asks a.steps.now.property c.args.steps.now.formed a.steps.now.table.now c.args.steps.now.made a.output a.action c.row-at.result c.row-at.ensures
    _ (or_lt (suc a.steps.now.property.n) a.cut.mask (a.cut.armed / 2) (fits_parts a.steps.now.property a.cut c.requires).0 armed-low) in
    record { n_bound = asks.0; by_index = asks.1 }

-- Here and below the bound is shown for 0 and for the armed lengths alike, so that what must fail does so by the set in `returns`.
pub arranged-requires-then-output : goal.arranged-requires-then-output
arranged-requires-then-output c =
    let a = c.args in
    let armed-low = armed-lt a.steps.now.property.n a.cut.armed (fits_parts a.steps.now.property a.cut c.requires).1 in
    ((taken_bounds a.steps.now.property c.args.steps.now.formed).most, c.step-free-then-output.ensures.1, omega (arith, armed-low, pow_pos (suc a.steps.now.property.n)))

pub returns-then-output : goal.returns-then-output
returns-then-output c =
    let a = c.args in
    allowed_moves a.steps.now.property c.args.steps.now.formed a.steps.now.table.now c.args.steps.now.made a.output a.action c.row-at.result c.row-at.ensures a.cut c.requires
    c.if-output.true
    (sym (c.outside.ensures a.steps.now.property refl) ∙ c.if-outside.false)
    refl c.step-free-then-output.ensures.0 c.arranged-then-output.ensures

pub step-free-requires-2 : goal.step-free-requires-2
step-free-requires-2 c =
    let a = c.args in
    let asks = step_asks a.steps.now.property c.args.steps.now.formed a.steps.now.table.now c.args.steps.now.made a.output a.action c.row-at.result c.row-at.ensures
    a.cut.mask (fits_parts a.steps.now.property a.cut c.requires).0 in
    record { n_bound = asks.0; by_index = asks.1 }

pub step-still-requires : goal.step-still-requires
step-still-requires c =
    let a = c.args in
    let armed-low = armed-lt a.steps.now.property.n a.cut.armed (fits_parts a.steps.now.property a.cut c.requires).1 in
    let asks = step_asks a.steps.now.property c.args.steps.now.formed a.steps.now.table.now c.args.steps.now.made a.output a.action c.row-at.result c.row-at.ensures
    _ (omega (arith, armed-low, pow_pos (suc a.steps.now.property.n))) in
    record { n_bound = asks.0; by_index = asks.1 }

pub arranged-requires-2 : goal.arranged-requires-2
arranged-requires-2 c =
    ((taken_bounds c.args.steps.now.property c.args.steps.now.formed).most, c.step-free-2.ensures.1, c.step-still.ensures.1)

pub returns : goal.returns
returns c =
    let a = c.args in
    input_moves a.steps.now.property c.args.steps.now.formed a.steps.now.table.now c.args.steps.now.made a.output a.action c.row-at.result c.row-at.ensures a.cut c.requires
    c.if-output.false c.step-free-2.ensures.0 c.step-still.ensures.0 c.arranged-2.ensures
