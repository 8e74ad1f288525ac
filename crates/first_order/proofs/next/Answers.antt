-- `first_order::next` meets its contract: what the library's search behind the front finds.
use Prim.Native.Nat.{ℕ}
use mathlib.Core.Path.{◌≡◌, sym, ap, ◌∙◌}
use mathlib.Core.Bool.{Bool, cond, not}
use native.Mathlib.Omega.{arith}
use lib.Dec.{ltb}
use lib.ListN.{length, drop, take, length-drop}
use lib.Seq.{take-length}
use borrow.Author.Rules.{rules}
use Rattle.std.proofs.Common.{tests, Some, None}
use Rattle.std.specs.List.{position_or_len}
use Rattle.std.proofs.lemmas.Iterator.{YieldsList-from_slice}
use Rattle.std.proofs.lemmas.Iterator.Search.{position_from_yields_List}
use Rattle.first_order.proofs.NextPlace.{found_next, found_none}
use Rattle.first_order.proofs.next.Goals as goal
use Rattle.first_order.proofs.next.Goals.{After-position}

-- what the search answers
found : (c : After-position)
    → (let l = drop c.args.from c.args.output.now in
    let t = λ (kind : Bool). cond c.args.wanted kind (not kind) in
    c.position.result ≡ cond (ltb (position_or_len t l) (length l)) (Some (position_or_len t l)) None)
found c =
    let l = drop c.args.from c.args.output.now in
    position_from_yields_List (λ (kind : Bool). cond c.args.wanted kind (not kind)) _ _ _ c.position.ensures.ran
    (YieldsList-from_slice l (c.iter.ensures.rest ∙ ap (λ (k : ℕ). take k l) (sym (length-drop c.args.from c.args.output.now)) ∙ take-length l))
    (λ x b q k. search (rules, tests))

pub returns-in-Some : goal.returns-in-Some
returns-in-Some c =
    found_next c.args.output.now c.args.wanted c.args.from c.requires _ (found (goal.at.returns-in-Some c).After-position) _ c.in-Some.is

pub returns-in-None : goal.returns-in-None
returns-in-None c =
    (found_none c.args.output.now c.args.wanted c.args.from c.requires _ (found (goal.at.returns-in-None c).After-position) c.in-None.is, omega arith)
