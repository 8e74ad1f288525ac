-- `held::closed_count` meets its contract: those before the first that is open have closed.
use Rattle.std.proofs.Common.{ℕ, ◌+◌, ◌*◌, ◌≤◌, ◌<◌, List, Option, Some, None, MatchOption, rules, tests, arith}
use Rattle.std.specs.Option.{unwrap_or}
use Rattle.std.proofs.lemmas.Iterator.{first_from_Range}
use Rattle.rows.specs.declared.Span.{Span}
use Rattle.rows.specs.Rows.{word}
use Rattle.held.specs.Held.{Closes}
use Rattle.held.proofs.closed_count.Goals as goal

-- the first that is open, where there is one
first_open : (ub : ℕ) (rows : List (List ℕ)) (s : Span) (T : ℕ) (r : Option ℕ)
    → MatchOption r ((k : ℕ) → 0 ≤ k → k < s.count → word rows s 0 k + 2 * ub < T)
    (λ i. (0 ≤ i) × (i < s.count) × (T ≤ word rows s 0 i + 2 * ub) × ((k : ℕ) → 0 ≤ k → k < i → word rows s 0 k + 2 * ub < T))
    → Closes ub rows s T (unwrap_or r s.count)
first_open ub rows s T None h = record { within = omega arith; closed = λ i l. h i (omega arith) l; next = λ l. absurd (omega arith) }
first_open ub rows s T (Some i) h = record { within = omega arith; closed = λ k l. h.3 k (omega arith) l; next = λ l. h.2 }

pub returns : goal.returns
returns c =
    let a = c.args in
    rw c.unwrap_or.ensures
    (first_open a.ub a.rows.now a.span a.stamp c.find.result
    (first_from_Range _ _ _ c.find.result (λ i. a.stamp ≤ word a.rows.now a.span 0 i + 2 * a.ub) (λ i. word a.rows.now a.span 0 i + 2 * a.ub < a.stamp)
    c.find.ensures.ran (λ x q k. search (rules, tests)) (λ x q k. search (rules, tests))))
