-- `names::name` meets its contract: the empty part where the call is refused, else what is found.
use Prim.Native.Nat.{ℕ}
use mathlib.Core.Path.{◌≡◌, refl, sym, ◌∙◌, ap}
use mathlib.Core.Bool.{true, true≢false}
use native.Mathlib.Omega.{arith}
use Rattle.std.specs.Prelude.{Result, Ok, Err}
use Rattle.std.specs.Result.{is_err}
use Rattle.outcomes.specs.declared.Refusal.{Refusal}
use Rattle.outcomes.specs.Numbers.{refusal_in}
use Rattle.outcomes.proofs.Same.{refusal_not_0}
use Rattle.name_list.specs.Names.{entries}
use Rattle.names.specs.Lookup.{names_refusal, name_span, asked}
use Rattle.names.proofs.Handing.{Taken, taken, handed_as, choice-taken, handed_end}
use borrow.Author.Rules.{rules}
use Rattle.std.proofs.lemmas.Grind.{common_steps}
use Rattle.names.proofs.name.Goals as goal
use Rattle.names.proofs.name.Goals.{Else-is_err}

-- an `Err` has a number
some : (r : Result Unit Refusal) → is_err r ≡ true → {n : ℕ} → refusal_in r ≡ n → n ≡ 0 → ⊥
some (Ok x) e h z = true≢false (sym e)
some (Err refusal) e h z = refusal_not_0 refusal (h ∙ z)

none : (c : Else-is_err) → names_refusal c.args.site.now c.args.release.now c.args.action ≡ 0
none c = grind (arith, common_steps)

good : (c : Else-is_err) → Taken c.args.site.now c.args.release.now c.args.action
good c = taken _ _ _ (none c)

pub returns-then-is_err : goal.returns-then-is_err
returns-then-is_err c =
    let a = c.args in
    handed_end a.site a.release _ a.output a.action (some _ (sym c.is_err.ensures.value ∙ c.if-is_err.true) c.refused.ensures) refl (omega arith) refl

pub first_byte-requires : goal.first_byte-requires
first_byte-requires c = (good (goal.at.first_byte-requires c).Else-is_err).action_fits

pub found-requires : goal.found-requires
found-requires c = let g = good (goal.at.found-requires c).Else-is_err in search (rules, g.site_good, g.release_good)

pub returns : goal.returns
returns c =
    let a = c.args in
    handed_as _ _ a.site a.release _
    (ap (λ (n : ℕ). asked (name_span (entries a.site.now) n) (name_span (entries a.release.now) n)) c.first_byte.ensures
    ∙ sym (choice-taken a.site.now a.release.now a.output a.action (none (goal.at.returns c).Else-is_err)))
    c.found.ensures
