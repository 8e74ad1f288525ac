-- `run_line::begin` meets its contract.
use mathlib.Core.Path.{sym, ap₂, subst, ◌∙◌}
use native.Mathlib.Omega.{arith}
use Rattle.matcher.specs.declared.Cut.{Cut}
use Rattle.rows.specs.declared.Span.{Span}
use Rattle.rows.specs.Rows.{Room}
use Rattle.cuts.specs.Fronts.{with_cut}
use Rattle.run_line.proofs.begin.Goals as goal

pub put_cut-requires : goal.put_cut-requires
put_cut-requires c =
    (subst (Room c.args.rows.now) (sym c.spanning-span.ensures) c.requires.0, c.requires.1, omega arith)

pub returns : goal.returns
returns c = (
  c.spanning-span.ensures,
  c.put_cut.ensures
      ∙ ap₂ (λ (x : Span) (y : Cut). with_cut c.args.rows.now x 0 0 y) c.spanning-span.ensures c.start.ensures,
)
