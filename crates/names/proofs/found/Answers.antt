-- `names::found` meets its contract: the site's own name, or the release's.
use mathlib.Core.Path.{sym, ◌∙◌}
use borrow.Author.Tests.{eqb-true, eqb-false}
use Rattle.names.proofs.Spans.{name-inside}
use Rattle.names.proofs.Handing.{handed_own, handed_other}
use Rattle.names.proofs.found.Goals as goal

pub returns-else-is_empty : goal.returns-else-is_empty
returns-else-is_empty c = handed_own _ _ _ _ _ (eqb-false _ 0 (sym c.is_empty.ensures ∙ c.if-is_empty.false)) c.lookup-own.ensures

pub returns-then-is_empty : goal.returns-then-is_empty
returns-then-is_empty c =
    handed_other _ _ _ _ c.lookup-own.result _ (name-inside c.args.site.now c.args.first c.requires.0) c.lookup-own.ensures
    (eqb-true _ 0 (sym c.is_empty.ensures ∙ c.if-is_empty.true)) c.lookup.ensures
