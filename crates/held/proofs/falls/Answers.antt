-- `held::falls` meets its contract: the numbers below the count are asked one by one.
use Rattle.std.proofs.Common.{◌≡◌, refl, ap, ◌∙◌, ℕ, zero, suc, ◌+◌, Bool, cond, List, [], ◌∷◌, ◌++◌, arith, rules, tests, ltb}
use Rattle.std.specs.List.{range_with_len, list_any}
use Rattle.std.proofs.lemmas.Iterator.{YieldsList-from_range}
use Rattle.std.proofs.lemmas.Iterator.Search.{any_from_yields_List}
use Rattle.std.proofs.lemmas.List.Folds.{list_any-append}
use Rattle.laws.specs.Places.{some_below}
use Rattle.rows.specs.Rows.{word}
use Rattle.held.proofs.falls.Goals as goal

-- one number more
range_snoc : (a n j : ℕ) → a + n ≡ j → range_with_len a (suc n) ≡ range_with_len a n ++ (j ∷ [])
range_snoc a zero j e = ap (λ (k : ℕ). k ∷ []) (omega arith)
range_snoc a (suc n) j e = ap (λ (l : List ℕ). a ∷ l) (range_snoc (a + 1) n j (omega arith))

found_below : (f : ℕ → Bool) (n : ℕ) → list_any f (range_with_len 0 n) ≡ some_below n f
unfolding some_below
found_below f zero = refl
found_below f (suc n) = ap (list_any f) (range_snoc 0 n n (omega arith)) ∙ list_any-append f (range_with_len 0 n) (n ∷ []) ∙ rw (found_below f n) (grind arith)

pub returns : goal.returns
returns c =
    let a = c.args in
    any_from_yields_List (λ i. ltb (cond (ltb (suc i) a.span.count) (word a.rows.now a.span 0 (suc i)) a.latest) (word a.rows.now a.span 0 i)) _ _ c.any.result
    c.any.ensures.ran (YieldsList-from_range 0 a.span.count a.span.count refl (omega arith)) (λ x b q k. search (rules, tests))
    ∙ found_below _ a.span.count
