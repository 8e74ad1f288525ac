-- The order that is written, line by line, is found as the search of the first order says; and its numbers are its lines'.
use Prim.Native.Nat.{ℕ, ◌≤◌}
use mathlib.Core.Path.{◌≡◌, sym, ◌∙◌, subst}
use mathlib.Core.Logic.{◌↔◌}
use mathlib.Core.Bool.{Bool, true, false, true≢false}
use mathlib.Core.List.{List}
use borrow.Author.Tests.{leb-true, le-leb}
use Rattle.laws.specs.Places.{first}
use Rattle.meaning.specs.Words.{Line, StampsFrom}
use Rattle.meaning.specs.Node.{ins, outs, Some, Verdict, verdict_number, VerdictFor}
use Rattle.meaning.specs.Numbers.{property_refusal}
use Rattle.meaning.specs.Matcher.{State, is_broken}
use Rattle.meaning.proofs.Tests.{not_true}
use Rattle.meaning.proofs.Pairs.{good_bounds}
use Rattle.meaning.proofs.Lists.{All, from_ins, from_outs}
use Rattle.meaning.proofs.Channels.{In, Out, ins_in, outs-out}
use Rattle.meaning.proofs.Facts.{explains_pairs, pairs_explain}
use Rattle.meaning.proofs.Sets.{Matcher, along}
use Rattle.meaning.proofs.Matching.{state_matcher}
use Rattle.reasons.proofs.Search.{Reach}
use Rattle.reasons.proofs.Verdicts.{some_breaks, some_spares}
use Rattle.property.specs.Meant.{meant}
use Rattle.property.specs.declared.Property.{Property}
use Rattle.judged_rest.specs.declared.Reached.{Reached}
use Rattle.judged_rest.specs.Lent.{Lines, line_in, count}
use Rattle.judged_rest.specs.Judged.{judged}
use Rattle.first_order.specs.Search.{reaches}
use Rattle.why.proofs.Whole.{AllTaken}
use Rattle.why.proofs.Rest.{waiting, judged_rest, waiting_rises}
use Rattle.why.proofs.Channel.{channel, ins-left, outs-left, Only}

module _ (p : Property) (good : property_refusal (meant p) ≡ 0) (ls : Lines) (known : AllTaken (meant p) (line_in ls) (count ls)) (rise : StampsFrom 0 (first (line_in ls) (count ls))) where
  abbrev M : Matcher
  M = state_matcher (meant p)

  abbrev lines : Bool → ℕ → List Line
  lines wanted a = channel ls wanted (line_in ls) a (count ls)

  -- The wanted end can be reached from here.
  abbrev pub Can : Bool → Reached → State → Type 0
  Can breaking from q =
      Reach (meant p) (good_bounds (meant p) good) M (λ (s : State). is_broken s ≡ breaking) (lines false from.input) (lines true from.output) q

  -- ---- the question

  module _ (from : Reached) (q : State) (one : Only p good from.cut q) where
    abbrev run : List Line
    run = waiting p good ls known rise from q one (count ls)

    ei : ins run ≡ lines false from.input
    ei = ins-left ls from (count ls)

    eo : outs run ≡ lines true from.output
    eo = outs-left ls from (count ls)

    abbrev Broken : List Line → Type 0
    Broken order = is_broken (along M q order) ≡ true

    pub channel_in : All In (lines false from.input)
    channel_in = subst (All In) ei (ins_in run)

    pub channel_out : All Out (lines true from.output)
    channel_out = subst (All Out) eo (outs-out run)

    pub rises_in : StampsFrom 0 (lines false from.input)
    rises_in = subst (StampsFrom 0) ei (from_ins 0 run (waiting_rises p good ls known rise from q one))

    pub rises_out : StampsFrom 0 (lines true from.output)
    rises_out = subst (StampsFrom 0) eo (from_outs 0 run (waiting_rises p good ls known rise from q one))

    fitting : (t : Bool) {Holds : List Line → Type 0} → ((o : List Line) → Holds o → is_broken (along M q o) ≡ t) → Some (meant p) run Holds → Can t from q
    fitting t h s = (
      s.order,
      record {
        ins_are = s.explains.is_order.inputs_kept ∙ ei;
        outs_are = s.explains.is_order.outputs_kept ∙ eo;
        pairs = explains_pairs (meant p) (good_bounds (meant p) good) s.explains;
        ends = h s.order s.holds;
      },
    )

    some : (t : Bool) {Holds : List Line → Type 0} → ((o : List Line) → is_broken (along M q o) ≡ t → Holds o) → Can t from q → Some (meant p) run Holds
    some t h c =
        record {
          order = c.0;
          explains =
              pairs_explain (meant p) (good_bounds (meant p) good) (record { inputs_kept = c.1.ins_are ∙ sym ei; outputs_kept = c.1.outs_are ∙ sym eo }) c.1.pairs;
          holds = h c.0 c.1.ends;
        }

    v : Verdict
    v = (judged_rest p good ls known rise from q one).0

    says : (judged p ls from (count ls)).told.verdict ≡ verdict_number v
    unfolding v
    says = (judged_rest p good ls known rise from q one).1

    exact : VerdictFor Broken (meant p) run v
    unfolding v
    exact = (judged_rest p good ls known rise from q one).2

    breaks : (1 ≤ verdict_number v) ↔ Some (meant p) run Broken
    breaks = some_breaks (meant p) (good_bounds (meant p) good) run (waiting_rises p good ls known rise from q one) Broken v exact

    spares : (verdict_number v ≤ 1) ↔ Some (meant p) run (λ (order : List Line). ¬ Broken order)
    spares = some_spares (meant p) (good_bounds (meant p) good) run (waiting_rises p good ls known rise from q one) Broken v exact

    pub asked : (t : Bool) → (reaches t (judged p ls from (count ls)).told.verdict ≡ true) ↔ Can t from q
    asked true = (
      λ e. fitting true (λ o h. h) (breaks.0 (subst (λ (n : ℕ). 1 ≤ n) says (leb-true 1 _ e))),
      λ c. le-leb 1 _ (subst (λ (n : ℕ). 1 ≤ n) (sym says) (breaks.1 (some true (λ o h. h) c))),
    )
    asked false = (
      λ e. fitting false (λ o h. not_true (is_broken (along M q o)) h) (spares.0 (subst (λ (n : ℕ). n ≤ 1) says (leb-true _ 1 e))),
      λ c. le-leb _ 1 (subst (λ (n : ℕ). n ≤ 1) (sym says) (spares.1 (some false (λ o h k. true≢false (sym k ∙ h)) c))),
    )
