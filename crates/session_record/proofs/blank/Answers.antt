-- `session_record::blank` meets its contract.
use mathlib.Core.Path.{◌∙◌}
use mathlib.Core.List.{◌∷◌}
use lib.ListN.{replicate}
use Rattle.session_record.specs.Lent.{of_arrays}
use Rattle.session_record.proofs.blank.Goals as goal

pub returns : goal.returns
returns c =
    let a = c.args in
    c.of_arrays.ensures
    ∙ (λ i.
    of_arrays a.p (replicate 65 0) (replicate 65 0) (a.first.mask ∷ replicate 64 0) (a.first.armed ∷ replicate 64 0)
    (record { span = c.spanning.ensures i; clock = c.fresh.ensures i }))
