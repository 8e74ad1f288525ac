-- `why::explain` meets its contract: refusal by refusal, and where there is none by what was judged and written.
use mathlib.Core.Path.{◌≡◌, refl, sym, ap, ◌∙◌, subst}
use mathlib.Core.Bool.{Bool, true, false, not, ◌||◌}
use lib.Dec.{ltb}
use lib.ListN.{length}
use borrow.Author.Rules.{rules}
use borrow.Author.Tests.{lt-ltb}
use denote.Enum.Bare.{sameb, same_true, same_false}
use Rattle.std.specs.Prelude.{Ok}
use Rattle.std.proofs.lemmas.Result.{err_from_is_err_and}
use Rattle.meaning.specs.Numbers.{property_refusal}
use Rattle.meaning.proofs.Tests.{or_left, or_right}
use Rattle.outcomes.specs.contracts.Verdict.{the_type}
use Rattle.outcomes.specs.declared.Verdict.{Verdict}
use Rattle.outcomes.specs.declared.Verdict.TheVariants.{Clear, Suspect, Certain, Blind}
use Rattle.outcomes.specs.Numbers.{number_told}
use Rattle.outcomes.proofs.Same.{same_verdict}
use Rattle.property.specs.Meant.{meant}
use Rattle.property.specs.declared.Property.{Property}
use Rattle.matcher.specs.declared.Cut.{Cut}
use Rattle.meaning.specs.Matcher.{at_start}
use Rattle.matcher.specs.Sets.{cut_of, Fits}
use Rattle.judged_rest.specs.Lent.{Lines, lent, count}
use Rattle.judged_rest.specs.Judged.{reason_in, judged}
use Rattle.first_order.specs.Search.{Pair, pair, start, Sized, Found, Written}
use Rattle.first_order.proofs.Orders.{start_fits}
use Rattle.why.specs.Why.{shorter}
use Rattle.why.proofs.Judgement.{Taken}
use Rattle.why.proofs.Answers.{by_property, by_output, by_action, by_lines, is_taken, is_sized, by_many, by_short, by_told}
use Rattle.why.proofs.Explaining.{places_found, answer-suspect, answer_other}
use Rattle.why.proofs.explain.Goals as goal
use Rattle.why.proofs.explain.Goals.{In_ok-reason, then-output-n-via-then-output-n, then-output-n-via-else-output-n+then-action-n}
use Rattle.why.proofs.explain.Goals.{then-numbers-n-via-then-numbers-n, then-numbers-n-via-else-numbers-n+then-moments-n}
use Rattle.why.proofs.explain.Goals.{then-numbers-n-via-else-numbers-n+else-moments-n+then-numbers2-n}
use Rattle.why.proofs.explain.Goals.{then-numbers-n-via-else-numbers-n+else-moments-n+else-numbers2-n+then-moments2-n}

-- an explanation that breaks is wanted first, unless the verdict is clear
breaks : (v : Verdict) → not (sameb the_type v Clear) ≡ ltb 0 (number_told v)
breaks Clear = refl
breaks Suspect = refl
breaks Certain = refl
breaks Blind = refl

-- the run and the lists that were given, as they are known where the run was judged
abbrev run : In_ok-reason → Lines
run j = lent j.args.output.now j.args.action.now j.args.stamp.now

abbrev one : In_ok-reason → Pair
one j = pair j.args.numbers.now j.args.moments.now

abbrev two : In_ok-reason → Pair
two j = pair j.args.numbers2.now j.args.moments2.now

good : (j : In_ok-reason) → property_refusal (meant j.args.p) ≡ 0
good j = sym j.in_ok-refused.ensures

-- what was judged, of the property that was given, from the start
told : (p : Property) (ls : Lines) {q : Property} (c : Cut) → q ≡ p → c ≡ cut_of at_start
    → (judged q ls (record { input = 0; output = 0; cut = c }) (count ls)).told ≡ (judged p ls start (count ls)).told
told p ls c own e =
    ap (λ (x : Property). (judged x ls (record { input = 0; output = 0; cut = c }) (count ls)).told) own
    ∙ ap (λ (x : Cut). (judged p ls (record { input = 0; output = 0; cut = x }) (count ls)).told) e

so : (j : In_ok-reason) → reason_in (Ok j.in_ok-reason.reason) ≡ (judged j.args.p (run j) start (length j.args.stamp.now)).told
so j = j.in_ok-reason.ensures ∙ told j.args.p (run j) j.start.result j.new-steps.ensures j.start.ensures

-- none of its lines is refused
sized : (j : In_ok-reason) → Sized (run j)
sized j = is_sized j.args.p (run j) (one j) (two j) (good j) j.if-output-n.false j.if-action-n.false _ (so j)

taken : (j : In_ok-reason) → Taken j.args.p (good j) (run j) (length j.args.stamp.now)
taken j = is_taken j.args.p (run j) (one j) (two j) (good j) j.if-output-n.false j.if-action-n.false _ (so j)

found : (j : In_ok-reason) → (breaking : Bool) → Found j.new-steps.result.property (run j) breaking
found j breaking =
    subst (λ (p : Property). Found p (run j) breaking) (sym j.new-steps.ensures) (places_found j.args.p (good j) (run j) (sized j) (taken j) breaking)

pub returns-in_err-refused : goal.returns-in_err-refused
returns-in_err-refused c =
    let p = err_from_is_err_and c.from_residual.result c.from_residual.ensures.1 in
    rw (p.1, p.2) (by_property c.args.p _ _ _ c.in_err-refused.field-0.0 c.in_err-refused.ensures)

pub returns-then-output-n : goal.returns-then-output-n
returns-then-output-n c =
    let ok : property_refusal (meant c.args.p) ≡ 0 = sym c.in_ok-refused.ensures in
    elim c.then-output-n.branch [
      | then-output-n-via-then-output-n w ↦ by_output _ _ _ _ ok w.if-output-n.true
      | then-output-n-via-else-output-n+then-action-n w ↦ by_action _ _ _ _ ok w.if-action-n.true
    ]

pub judge-requires-clause-fits : goal.judge-requires-clause-fits
judge-requires-clause-fits c = subst (Fits c.new-steps.result.property) (sym c.start.ensures) (start_fits c.new-steps.result.property c.new-steps.result.formed)

pub returns-in_err-reason : goal.returns-in_err-reason
returns-in_err-reason c =
    let p = err_from_is_err_and c.from_residual-in_err-reason.result c.from_residual-in_err-reason.ensures.1 in
    let ls = lent c.args.output.now c.args.action.now c.args.stamp.now in
    rw (p.1, p.2)
    (by_lines c.args.p ls _ _ (sym c.in_ok-refused.ensures) c.if-output-n.false c.if-action-n.false _
    (c.in_err-reason.ensures ∙ told c.args.p ls c.start.result c.new-steps.ensures c.start.ensures))

pub returns-then-n-gt-MOST_LINES : goal.returns-then-n-gt-MOST_LINES
returns-then-n-gt-MOST_LINES c =
    let j = (goal.at.returns-then-n-gt-MOST_LINES c).In_ok-reason in
    by_many j.args.p (run j) (one j) (two j) (good j) j.if-output-n.false j.if-action-n.false _ (so j) c.if-n-gt-MOST_LINES.true

pub returns-then-numbers-n : goal.returns-then-numbers-n
returns-then-numbers-n c =
    let j = (goal.at.returns-then-numbers-n c).In_ok-reason in
    let n = length c.args.stamp.now in
    let is-short : shorter (one j) n || shorter (two j) n ≡ true =
    elim c.then-numbers-n.branch [
      | then-numbers-n-via-then-numbers-n w ↦ or_left _ (or_left _ (lt-ltb _ _ w.if-numbers-n.true))
      | then-numbers-n-via-else-numbers-n+then-moments-n w ↦ or_left _ (or_right _ (lt-ltb _ _ w.if-moments-n.true))
      | then-numbers-n-via-else-numbers-n+else-moments-n+then-numbers2-n w ↦ or_right _ (or_left _ (lt-ltb _ _ w.if-numbers2-n.true))
      | then-numbers-n-via-else-numbers-n+else-moments-n+else-numbers2-n+then-moments2-n w ↦ or_right _ (or_right _ (lt-ltb _ _ w.if-moments2-n.true))
    ] in
    by_short j.args.p (run j) (one j) (two j) (good j) j.if-output-n.false j.if-action-n.false _ (so j) c.if-n-gt-MOST_LINES.false is-short

pub write-requires-clause-found : goal.write-requires-clause-found
write-requires-clause-found c = found (goal.at.write-requires-clause-found c).In_ok-reason _

pub write-requires-then-eq-clause-found : goal.write-requires-then-eq-clause-found
write-requires-then-eq-clause-found c = found (goal.at.write-requires-then-eq-clause-found c).In_ok-reason false

-- what was written into the first pair, as it is wanted by the verdict's number
first-pair : (p : Property) (ls : Lines) {q : Property} (v : Verdict) {b : Bool} (l m : Pair) → q ≡ p → b ≡ not (sameb the_type v Clear)
    → Written q ls b l m → Written p ls (ltb 0 (number_told v)) l m
first-pair p ls v {b} l m own e w =
    subst (λ (t : Bool). Written p ls t l m) (e ∙ breaks v) (subst (λ (x : Property). Written x ls b l m) own w)

pub returns-then-eq : goal.returns-then-eq
returns-then-eq c =
    let j = (goal.at.returns-then-eq c).In_ok-reason in
    let v = c.in_ok-reason.reason.verdict in
    let is-suspect : v ≡ Suspect = same_true the_type (search rules) _ _ (sym c.if-eq.ensures) in
    let second = rw c.new-steps.ensures at c.write-then-eq.ensures in
    by_told j.args.p (run j) (one j) (two j) (good j) j.if-output-n.false j.if-action-n.false _ (so j) c.if-n-gt-MOST_LINES.false _ _
    c.if-numbers-n.false c.if-moments-n.false c.if-numbers2-n.false c.if-moments2-n.false
    (answer-suspect j.args.p (good j) (run j) (sized j) (taken j) _ (so j) (one j) (two j) _ _ c.if-numbers-n.false c.if-moments-n.false
    (ap number_told is-suspect)
    (first-pair j.args.p (run j) v _ _ c.new-steps.ensures c.ne-breaking.ensures c.write.ensures) c.if-numbers2-n.false c.if-moments2-n.false second)

pub returns-else-eq : goal.returns-else-eq
returns-else-eq c =
    let j = (goal.at.returns-else-eq c).In_ok-reason in
    let v = c.in_ok-reason.reason.verdict in
    by_told j.args.p (run j) (one j) (two j) (good j) j.if-output-n.false j.if-action-n.false _ (so j) c.if-n-gt-MOST_LINES.false _ _
    c.if-numbers-n.false c.if-moments-n.false c.if-numbers2-n.false c.if-moments2-n.false
    (answer_other j.args.p (good j) (run j) (sized j) (taken j) _ (so j) (one j) (two j) _ _ c.if-numbers-n.false c.if-moments-n.false
    (λ z. same_false the_type _ _ (sym c.if-eq.ensures) (same_verdict v Suspect z))
    (first-pair j.args.p (run j) v _ _ c.new-steps.ensures c.ne-breaking.ensures c.write.ensures) refl)
