-- `name_list::broken` meets its contract: what is left of the list decides.
use Prim.Native.Nat.{suc, ◌+◌}
use mathlib.Core.Path.{◌≡◌, sym, ◌∙◌, ap₂}
use native.Mathlib.Omega.{arith}
use mathlib.Core.Bool.{not}
use lib.ListN.{length}
use lib.Dec.{ltb}
use Rattle.std.proofs.lemmas.Grind.{common_steps}
use Rattle.name_list.specs.Names.{first, entry_broken}
use Rattle.name_list.specs.Front.{breaks_rule}
use Rattle.name_list.proofs.Lists.{judged_here, judged_on, judged-end, by_entries, front-rules}
use Rattle.name_list.proofs.broken.Goals as goal
use Rattle.name_list.proofs.broken.Goals.{After-breaks_rule}

-- an entry that was split off is judged as its bytes are
judged : (c : After-breaks_rule) → c.breaks_rule.result ≡ entry_broken c.loop-entry.least c.loop-entry.rest.now
judged c =
    let f = c.in-Some.ensures in
    c.breaks_rule.ensures
    ∙ ap₂ (breaks_rule c.loop-entry.least) f.first_byte f.name_bytes
    ∙ front-rules c.loop-entry.least c.loop-entry.rest.now f.whole

pub returns-then-breaks_rule : goal.returns-then-breaks_rule
returns-then-breaks_rule c =
    let l = c.loop-entry in
    by_entries _ _ (omega arith)
    (judged_here _ _ _ l.invariant (omega (arith, c.in-Some.ensures.whole)) (sym (judged (goal.at.returns-then-breaks_rule c).After-breaks_rule) ∙ c.if-breaks_rule.true))

pub loop-entry-preserved : goal.loop-entry-preserved
loop-entry-preserved c =
    let l = c.loop-entry in
    let front = c.in-Some.ensures in
    let up : c.from-least.result + 1 ≡ suc (first l.rest.now) = omega (arith, c.from-least.ensures, front.first_byte) in
    grind (
      arith,
      common_steps,
      front.rest_bytes,
      up,
      judged_on _ _ _ l.invariant (omega (arith, front.whole)) (sym (judged (goal.at.loop-entry-preserved c).After-breaks_rule) ∙ c.if-breaks_rule.false),
    )

pub returns : goal.returns
returns c =
    let some : not c.is_empty.result ≡ ltb 0 (length c.loop-entry.rest.now) = grind (arith, common_steps) in
    by_entries _ _ (omega arith) (some ∙ judged-end _ _ _ c.loop-entry.invariant c.in_default.ensures)
