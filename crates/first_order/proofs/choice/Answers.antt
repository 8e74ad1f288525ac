-- `first_order::choice` meets its contract: test by test.
use Prim.Native.Nat.{ℕ}
use mathlib.Core.Path.{◌≡◌, sym, ap, ◌∙◌}
use mathlib.Core.Bool.{true}
use lib.ListN.{length, get_or}
use borrow.Author.Tests.{le-leb, lt-leb, lt-ltb, le-ltb}
use Rattle.std.specs.Prelude.{Result, Ok, Err, MatchResult}
use Rattle.std.proofs.Common.{rules}
use Rattle.std.proofs.lemmas.Result.{MatchResult-weaker}
use Rattle.outcomes.specs.declared.Refusal.{Refusal}
use Rattle.outcomes.specs.declared.Verdict.{Verdict}
use Rattle.outcomes.specs.declared.Verdict.TheVariants.{Clear}
use Rattle.outcomes.specs.Numbers.{number_told}
use Rattle.judged_rest.specs.declared.Reached.{Reached}
use Rattle.judged_rest.specs.declared.Reason.{Reason}
use Rattle.judged_rest.specs.Lent.{Lines, lent}
use Rattle.judged_rest.specs.Judged.{Reasoning, reason_in, judged}
use Rattle.first_order.specs.Search.{reaches, with_line}
use Rattle.first_order.proofs.Choices.{no_output, no_input, too_far, reached, not_reached}
use Rattle.first_order.proofs.choice.Goals as goal
use Rattle.first_order.proofs.choice.Goals.{After-reaches}

-- the verdict that is told, and 0 behind a refusal
told-by : (r : Result Reason Refusal) (v : Verdict) → MatchResult r (λ reason. v ≡ reason.verdict) (λ _. v ≡ Clear) → number_told v ≡ (reason_in r).verdict
told-by (Ok reason) v e = ap number_told e
told-by (Err refusal) v e = ap number_told e

-- the question is asked of the run with the output behind what was placed
asked : (c : After-reaches)
    → (let run : Lines = lent c.args.output.now c.args.action.now c.args.stamp.now in
    let y : ℕ = c.next-y.result in
    let behind : Reached = with_line c.args.steps.now.property c.args.from true (get_or c.args.action.now y 0) y in
    c.reaches.result ≡ reaches c.args.breaking (judged c.args.steps.now.property run behind (length c.args.stamp.now)).told.verdict)
asked c =
    let run : Lines = lent c.args.output.now c.args.action.now c.args.stamp.now in
    let told = MatchResult-weaker c.judge-end.result c.map_or-verdict.ensures (λ reason e. search rules) (λ refusal e. e) in
    c.reaches.ensures
    ∙ ap (reaches c.args.breaking) (told-by c.judge-end.result c.map_or-verdict.result told)
    ∙ ap (λ (r : Reasoning). reaches c.args.breaking r.verdict)
    (c.judge-end.ensures ∙ ap (λ (f : Reached). (judged c.args.steps.now.property run f (length c.args.stamp.now)).told) c.with_line-then.ensures.0)

pub returns-then-stamp-y : goal.returns-then-stamp-y
returns-then-stamp-y c =
    no_output _ _ _ _ _ _ c.next-x.ensures.0 c.next-y.ensures.0 c.requires.sized.output_long
    (le-leb _ _ c.if-stamp-y.true)

pub returns-then-stamp-x : goal.returns-then-stamp-x
returns-then-stamp-x c =
    no_input _ _ _ _ _ _ c.next-x.ensures.0 c.next-y.ensures.0 c.requires.sized.output_long
    (lt-leb _ _ c.if-stamp-y.false) (le-leb _ _ c.if-stamp-x.true)

pub returns-then-stamp-x-2 : goal.returns-then-stamp-x-2
returns-then-stamp-x-2 c =
    too_far _ _ _ _ _ _ c.next-x.ensures.0 c.next-y.ensures.0 c.requires.sized.output_long
    (lt-leb _ _ c.if-stamp-y.false) (lt-leb _ _ c.if-stamp-x.false) (lt-ltb _ _ c.if-stamp-x-2.true)

pub returns-then-reaches : goal.returns-then-reaches
returns-then-reaches c =
    reached _ _ _ _ _ _ c.next-x.ensures.0 c.next-y.ensures.0 c.requires.sized.output_long
    (lt-leb _ _ c.if-stamp-y.false) (lt-leb _ _ c.if-stamp-x.false) (le-ltb _ _ c.if-stamp-x-2.false)
    (sym (asked (goal.at.returns-then-reaches c).After-reaches) ∙ c.if-reaches.true)

pub returns-else-reaches : goal.returns-else-reaches
returns-else-reaches c =
    not_reached _ _ _ _ _ _ c.next-x.ensures.0 c.next-y.ensures.0 c.requires.sized.output_long
    (lt-leb _ _ c.if-stamp-y.false) (lt-leb _ _ c.if-stamp-x.false) (le-ltb _ _ c.if-stamp-x-2.false)
    (sym (asked (goal.at.returns-else-reaches c).After-reaches) ∙ c.if-reaches.false)
