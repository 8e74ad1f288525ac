-- `cuts::swept_cut` meets its contract: by whether the input may stand before the output.
use Prim.Native.Nat.{◌+◌, ◌*◌}
use mathlib.Core.Path.{sym, ap, ap₂, ◌∙◌}
use mathlib.Core.Bool.{Bool, true, false, cond}
use borrow.Author.Tests.{le-leb, lt-leb}
use Rattle.meaning.specs.Matcher.{moved, either, none_of}
use Rattle.property.specs.Meant.{meant}
use Rattle.matcher.specs.Sets.{set_of}
use Rattle.cuts.specs.Steps.{line_of}
use Rattle.cuts.proofs.swept_cut.Goals as goal

pub returns-then-held-steps : goal.returns-then-held-steps
returns-then-held-steps c =
    let a = c.args in
    let direct = c.moved-direct in
    record {
      set =
          c.joined.ensures.set
          ∙ ap₂ either
          (direct.ensures.set a.stamp
          ∙ ap (λ (b : Bool). cond b (moved (meant a.steps.now.property) (set_of a.after) (line_of true a.action a.stamp)) none_of)
          (sym (le-leb (a.held + 2 * a.steps.now.property.lb) a.stamp c.if-held-steps.true)))
          (c.moved-behind.ensures.set a.held);
      fits = c.joined.ensures.fits a.steps.now.property direct.ensures.fits c.moved-behind.ensures.fits;
    }

pub returns : goal.returns
returns c =
    let a = c.args in
    record {
      set =
          c.moved-behind.ensures.set a.held
          ∙ ap (λ (b : Bool). either (cond b (moved (meant a.steps.now.property) (set_of a.after) (line_of true a.action a.stamp)) none_of)
          (moved (meant a.steps.now.property) (set_of a.before) (line_of false a.input a.held)))
          (sym (lt-leb (a.held + 2 * a.steps.now.property.lb) a.stamp c.if-held-steps.false));
      fits = c.moved-behind.ensures.fits;
    }
