-- `cuts::verdict` meets its contract: the last set is that of the last cut.
use mathlib.Core.Path.{sym, ap, subst, ◌∙◌}
use Rattle.meaning.specs.Matcher.{Lengths}
use Rattle.meaning.specs.Step.{lengths}
use Rattle.meaning.proofs.Fronts.{last_set-first}
use Rattle.property.specs.Meant.{meant}
use Rattle.matcher.specs.declared.Cut.{Cut}
use Rattle.matcher.specs.Sets.{set_of, Fits, set_verdict}
use Rattle.held.specs.Held.{line_at}
use Rattle.cuts.specs.Fronts.{set_at}
use Rattle.cuts.proofs.verdict.Goals as goal

pub returns : goal.returns
returns c =
    let a = c.args in
    let cut = c.cut_at in
    λ p fit.
    c.verdict.ensures p (subst (Fits p) (sym cut.ensures) fit)
    ∙ ap (λ (x : Cut). set_verdict p (set_of x)) cut.ensures
    ∙ ap (λ (s : Lengths). set_verdict p s)
    (sym (last_set-first (meant p) (lengths (meant p)) (line_at a.rows.now a.span) (set_at a.rows.now a.span a.j) a.span.count))
