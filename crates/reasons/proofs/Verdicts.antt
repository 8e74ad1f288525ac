-- What a verdict says of single explanations.
use Prim.Native.Nat.{◌≤◌}
use mathlib.Core.Logic.{◌↔◌}
use mathlib.Core.List.{List}
use native.Mathlib.Omega.{arith}
use Rattle.meaning.specs.Words.{Property, Line, Run, StampsFrom}
use Rattle.meaning.specs.Node.{Some, Verdict, verdict_number, VerdictFor}
use Rattle.meaning.proofs.Pairs.{Bounds}
use Rattle.meaning.proofs.Facts.{explanation_exists}

module _ (p : Property) (b : Bounds p) (run : Run) (rise : StampsFrom 0 run) (Breaking : List Line → Type 0) where
  any : Some p run (λ order. Unit {0})
  any = explanation_exists p b run 0 rise

  -- Some explanation breaks exactly from suspect on,
  pub some_breaks : (v : Verdict) → VerdictFor Breaking p run v → (1 ≤ verdict_number v) ↔ Some p run Breaking
  some_breaks Verdict.clear h = (λ l. let z : ⊥ = omega arith in absurd z, λ s. absurd (h s.order s.explains s.holds))
  some_breaks Verdict.suspect h = (λ l. h.0, λ s. omega arith)
  some_breaks Verdict.certain h = (
    λ l. record { order = any.order; explains = any.explains; holds = h any.order any.explains },
    λ s. omega arith,
  )
  some_breaks Verdict.blind h = absurd h

  -- and some does not up to suspect.
  pub some_spares : (v : Verdict) → VerdictFor Breaking p run v → (verdict_number v ≤ 1) ↔ Some p run (λ (order : List Line). ¬ Breaking order)
  some_spares Verdict.clear h = (
    λ l. record { order = any.order; explains = any.explains; holds = h any.order any.explains },
    λ s. omega arith,
  )
  some_spares Verdict.suspect h = (λ l. h.1, λ s. omega arith)
  some_spares Verdict.certain h = (λ l. let z : ⊥ = omega arith in absurd z, λ s. absurd (s.holds (h s.order s.explains)))
  some_spares Verdict.blind h = absurd h
