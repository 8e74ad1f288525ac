-- The first explanation of a sort exists wherever there is one of that sort.
use mathlib.Core.Path.{◌≡◌, refl, sym, ◌∙◌}
use mathlib.Core.Logic.{◌↔◌, ◌⊎◌, inl, inr}
use mathlib.Core.Bool.{Bool, true, false, true≢false}
use mathlib.Core.List.{List}
use Rattle.meaning.specs.Words.{Property, Line, Run, StampsFrom}
use Rattle.meaning.specs.Node.{ins, outs, Explanation, Some, Breaks}
use Rattle.meaning.specs.Numbers.{property_refusal}
use Rattle.meaning.specs.Matcher.{State, is_broken}
use Rattle.meaning.proofs.Tests.{not_true}
use Rattle.meaning.proofs.Lists.{from_ins, from_outs}
use Rattle.meaning.proofs.Pairs.{good_bounds}
use Rattle.meaning.proofs.Channels.{ins_in, outs-out}
use Rattle.meaning.proofs.Facts.{explains_pairs, pairs_explain, explanation_exists}
use Rattle.meaning.proofs.Sets.{Matcher, along}
use Rattle.meaning.proofs.Matching.{state_matcher, matcher_reads}
use Rattle.meaning.proofs.Lengths.{some-sequence}
use Rattle.reasons.specs.Reasons.{FirstExplanation, Any}
use Rattle.reasons.proofs.Search.{Fitting, first_fitting}

module _ (p : Property) (good : property_refusal p ≡ 0) (run : Run) (rise : StampsFrom 0 run) where
  abbrev M : Matcher
  M = state_matcher p

  -- an end that can be told of a state, and the sort of orders that have it
  module _ (Ends : State → Type 0) (told : (s : State) → Ends s ⊎ ¬ Ends s) (Sort : List Line → Type 0)
      (means : (o : List Line) → Ends (along M (State.matched false 0) o) ↔ Sort o) where
    exists : Some p run Sort → (o : List Line) × FirstExplanation p run Sort o
    exists s =
        let r =
        first_fitting p (good_bounds p good) M Ends told (ins run) (outs run) (State.matched false 0) (ins_in run) (outs-out run) (from_ins 0 run rise) (from_outs 0 run rise)
        (s.order, fits s.order s.explains s.holds) in
        (r.0, record { fits = explains r.0 r.1.fits; first = λ o h. r.1.first o (fits o h.0 h.1) })
      where
        fits : (o : List Line) → Explanation p run o → Sort o → Fitting p (good_bounds p good) M Ends (ins run) (outs run) (State.matched false 0) o
        fits o e h =
            record {
              ins_are = e.is_order.inputs_kept;
              outs_are = e.is_order.outputs_kept;
              pairs = explains_pairs p (good_bounds p good) e;
              ends = (means o).1 h;
            }

        explains : (o : List Line) → Fitting p (good_bounds p good) M Ends (ins run) (outs run) (State.matched false 0) o → Explanation p run o × Sort o
        explains o f = (
          pairs_explain p (good_bounds p good) (record { inputs_kept = f.ins_are; outputs_kept = f.outs_are }) f.pairs,
          (means o).0 f.ends,
        )

  reads : (o : List Line) → (is_broken (along M (State.matched false 0) o) ≡ true) ↔ Breaks p o
  reads o = matcher_reads p (some-sequence p good) o

  flag : (want b : Bool) → (b ≡ want) ⊎ ¬ (b ≡ want)
  flag true true = inl refl
  flag true false = inr (λ e. true≢false (sym e))
  flag false true = inr true≢false
  flag false false = inl refl

  pub first_breaks : Some p run (Breaks p) → (o : List Line) × FirstExplanation p run (Breaks p) o
  first_breaks s = exists (λ q. is_broken q ≡ true) (λ q. flag true (is_broken q)) (Breaks p) reads s

  pub first_spares : Some p run (λ (o : List Line). ¬ Breaks p o) → (o : List Line) × FirstExplanation p run (λ (o : List Line). ¬ Breaks p o) o
  first_spares s =
      exists (λ q. is_broken q ≡ false) (λ q. flag false (is_broken q)) (λ (o : List Line). ¬ Breaks p o)
      (λ o. (λ e k. true≢false (sym ((reads o).1 k) ∙ e), λ k. not_true (is_broken (along M (State.matched false 0) o)) (λ e. k ((reads o).0 e)))) s

  -- "An explanation exists for every run", and so does the first.
  pub first_any : (o : List Line) × FirstExplanation p run Any o
  first_any = exists (λ q. Unit {0}) (λ q. inl tt) Any (λ o. (λ h. tt, λ h. tt)) (explanation_exists p (good_bounds p good) run 0 rise)
