-- `cuts::append` meets its contract: one cut more.
use mathlib.Core.Path.{refl, sym, subst}
use mathlib.Core.Bool.{false}
use Rattle.property.specs.Meant.{action_of}
use native.Mathlib.Omega.{arith}
use Rattle.matcher.specs.declared.Cut.{Cut}
use Rattle.matcher.specs.Sets.{Fits, Moved}
use Rattle.cuts.proofs.Lines.{rows-appended}
use Rattle.cuts.proofs.append.Goals as goal

pub moved-cut-requires : goal.moved-cut-requires
moved-cut-requires c = subst (Fits c.args.steps.now.property) (sym c.cut_at-last.ensures) (c.requires.0.fits c.args.span.count (omega arith))

pub returns : goal.returns
returns c =
    let a = c.args in
    rows-appended a.steps.now.property a.rows.now c.put_cut.new.rows a.span a.j a.action _ c.moved-cut.result c.requires.0 c.requires.1 refl
    (subst (λ (x : Cut). Moved a.steps.now.property x (action_of false a.action) c.moved-cut.result) c.cut_at-last.ensures c.moved-cut.ensures) c.put_cut.ensures
