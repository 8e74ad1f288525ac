-- A run all of whose lines are taken: what was judged and what was written answer the call.
use Prim.Native.Nat.{ℕ, zero, suc, ◌+◌, ◌≤◌}
use mathlib.Core.Path.{◌≡◌, refl, sym, ap, ap₂, ◌∙◌, subst}
use mathlib.Core.Logic.{◌↔◌}
use mathlib.Core.Bool.{Bool, true, false, cond, true≢false}
use mathlib.Core.List.{List, [], ◌∷◌, ◌++◌}
use native.Mathlib.Omega.{arith}
use lib.ListN.{length}
use lib.Dec.{ltb}
use borrow.Author.Tests.{lt-ltb, le-ltb, le-leb}
use Rattle.laws.specs.Places.{first}
use Rattle.laws.proofs.Places.{first_snoc}
use Rattle.meaning.specs.Words.{Line, StampsFrom}
use Rattle.meaning.specs.Node.{ins, outs, Explanation, Breaks, Verdict, verdict_number, IsVerdict}
use Rattle.meaning.specs.Numbers.{property_refusal}
use Rattle.meaning.specs.Matcher.{Lengths, State, is_broken, at_start}
use Rattle.meaning.specs.Step.{lengths, front_verdict}
use Rattle.meaning.proofs.Tests.{not_true}
use Rattle.meaning.proofs.Pairs.{good_bounds}
use Rattle.meaning.proofs.Facts.{explains_pairs, pairs_explain}
use Rattle.meaning.proofs.Sets.{Matcher, along}
use Rattle.meaning.proofs.Matching.{state_matcher, matcher_reads}
use Rattle.meaning.proofs.Lengths.{lengths_reading, some-sequence}
use Rattle.meaning.proofs.Exact.{front_verdict-exact}
use Rattle.reasons.specs.Reasons.{First, FirstExplanation, Any, Earliest, ReachedAt, numbered, line_numbers}
use Rattle.reasons.proofs.Earliest.{timed-earliest}
use Rattle.reasons.proofs.Search.{Fitting, found_first}
use Rattle.property.specs.Meant.{meant}
use Rattle.property.specs.declared.Property.{Property}
use Rattle.matcher.proofs.Words.{set_back, start_short}
use Rattle.judged_rest.specs.Lent.{Lines, is_output, line_in, count, run_of}
use Rattle.first_order.specs.Search.{Pair}
use Rattle.why.specs.Why.{Shows, ShowsBy, TellsWhy, over}
use Rattle.judged_rest.specs.Judged.{Reasoning, waits, judged, Judged}
use Rattle.first_order.specs.Search.{kind_in, reaches, Sized, start, place, number_at, Found, Written}
use Rattle.order_moments.specs.Moments.{moment_at}
use Rattle.why.proofs.Left.{left, both_kinds, either_way}
use Rattle.why.proofs.Whole.{AllTaken, all-taken}
use Rattle.why.proofs.Judgement.{says, Taken}
use Rattle.why.proofs.Channel.{channel, ins-left, outs-left, Only}
use Rattle.why.proofs.Placing.{asked, channel_in, channel_out, rises_in, rises_out}
use Rattle.why.proofs.Route.{route_of, Route, goes}
use Rattle.why.proofs.Showing.{filled_over, in_numbers, out-numbers, earliest-places}

-- at the start every line waits
all_wait : (ls : Lines) (n : ℕ) → left (λ (i : ℕ). waits start i (is_output ls i)) (line_in ls) n ≡ first (line_in ls) n
unfolding left first
all_wait ls zero = refl
all_wait ls (suc n) =
    ap₂ (λ (l : List Line) (b : Bool). l ++ cond b (line_in ls n ∷ []) []) (all_wait ls n) (either_way (is_output ls n) (le-leb 0 n (omega arith))) ∙ sym (first_snoc (line_in ls) n)

module _ (p : Property) (good : property_refusal (meant p) ≡ 0) (ls : Lines) (sized : Sized ls) (t : Taken p good ls (count ls)) where
  abbrev M : Matcher
  M = state_matcher (meant p)

  abbrev q₀ : State
  q₀ = State.matched false 0

  known : AllTaken (meant p) (line_in ls) (count ls)
  known = all-taken (meant p) (line_in ls) (count ls) t.none

  rise : StampsFrom 0 (first (line_in ls) (count ls))
  rise = t.fit.rising

  only : Only p good start.cut q₀
  only s =
      subst (λ (x : Lengths). (lengths_reading (meant p) good).laws.Member x s ↔ (s ≡ q₀)) (sym (set_back p good at_start (start_short (meant p))))
      ((lengths_reading (meant p) good).laws.member_start s)

  route : (breaking : Bool) → Route p good ls sized.output_long known rise breaking start q₀ (count ls)
  route breaking =
      goes p good ls sized.output_long known rise breaking (count ls) start q₀ only (omega arith) (omega arith)
      (let e : length (channel ls true (line_in ls) 0 (count ls)) + length (channel ls false (line_in ls) 0 (count ls)) ≡ count ls =
      both_kinds (line_in ls) (kind_in ls.output true) (count ls) in
      omega (arith, e))

  -- Each place that is chosen is one of the run's.
  pub places_found : (breaking : Bool) → Found p ls breaking
  places_found breaking = record { sized = sized; below = (route breaking).below }

  abbrev order : Bool → List Line
  order breaking = route_of p ls breaking (line_in ls) start (count ls)

  -- ---- fitting orders are explanations with the wanted end

  ei : ins (run_of ls) ≡ channel ls false (line_in ls) 0 (count ls)
  ei = ap ins (sym (all_wait ls (count ls))) ∙ ins-left ls start (count ls)

  eo : outs (run_of ls) ≡ channel ls true (line_in ls) 0 (count ls)
  eo = ap outs (sym (all_wait ls (count ls))) ∙ outs-left ls start (count ls)

  abbrev Fits : Bool → List Line → Type 0
  Fits breaking o =
      Fitting (meant p) (good_bounds (meant p) good) M (λ (s : State). is_broken s ≡ breaking) (channel ls false (line_in ls) 0 (count ls)) (channel ls true (line_in ls) 0 (count ls)) q₀ o

  explains : (breaking : Bool) (o : List Line) → Fits breaking o → Explanation (meant p) (run_of ls) o
  explains breaking o f =
      pairs_explain (meant p) (good_bounds (meant p) good) (record { inputs_kept = f.ins_are ∙ sym ei; outputs_kept = f.outs_are ∙ sym eo }) f.pairs

  fits : (breaking : Bool) (o : List Line) → Explanation (meant p) (run_of ls) o → is_broken (along M q₀ o) ≡ breaking → Fits breaking o
  fits breaking o e h =
      record {
        ins_are = e.is_order.inputs_kept ∙ ei;
        outs_are = e.is_order.outputs_kept ∙ eo;
        pairs = explains_pairs (meant p) (good_bounds (meant p) good) e;
        ends = h;
      }

  -- where there is one, the first of them is the one found
  first_fits : (breaking : Bool) → reaches breaking (judged p ls start (count ls)).told.verdict ≡ true → First (Fits breaking) (order breaking)
  first_fits breaking h =
      found_first (meant p) (good_bounds (meant p) good) M (λ (s : State). is_broken s ≡ breaking)
      (channel_in p good ls known rise start q₀ only) (channel_out p good ls known rise start q₀ only)
      (rises_in p good ls known rise start q₀ only) (rises_out p good ls known rise start q₀ only)
      (route breaking).found ((asked p good ls known rise start q₀ only breaking).0 h)

  first_of_sort : (breaking : Bool) (Sort : List Line → Type 0) → ((o : List Line) → is_broken (along M q₀ o) ≡ breaking → Sort o)
      → ((o : List Line) → Explanation (meant p) (run_of ls) o → Sort o → is_broken (along M q₀ o) ≡ breaking)
      → reaches breaking (judged p ls start (count ls)).told.verdict ≡ true → FirstExplanation (meant p) (run_of ls) Sort (order breaking)
  first_of_sort breaking Sort there back h =
      let f : First (Fits breaking) (order breaking) = first_fits breaking h in
      record {
        fits = (explains breaking (order breaking) f.fits, there (order breaking) f.fits.ends);
        first = λ o e. f.first o (fits breaking o e.0 (back o e.0 e.1));
      }

  reads : (o : List Line) → (is_broken (along M q₀ o) ≡ true) ↔ Breaks (meant p) o
  reads o = matcher_reads (meant p) (some-sequence (meant p) good) o

  first_breaks : reaches true (judged p ls start (count ls)).told.verdict ≡ true → FirstExplanation (meant p) (run_of ls) (Breaks (meant p)) (order true)
  first_breaks h = first_of_sort true (Breaks (meant p)) (λ o e. (reads o).0 e) (λ o x k. (reads o).1 k) h

  first_spares : reaches false (judged p ls start (count ls)).told.verdict ≡ true
      → FirstExplanation (meant p) (run_of ls) (λ (o : List Line). ¬ Breaks (meant p) o) (order false)
  first_spares h =
      first_of_sort false (λ (o : List Line). ¬ Breaks (meant p) o) (λ o e k. true≢false (sym ((reads o).1 k) ∙ e))
      (λ o x k. not_true (is_broken (along M q₀ o)) (λ e. k ((reads o).0 e))) h

  -- ---- what is written

  numbers_are : (breaking : Bool) → first (number_at p ls breaking) (count ls) ≡ line_numbers (run_of ls) (order breaking)
  numbers_are breaking =
      sym
      (ap₂ (λ (i o : List ℕ). numbered i o (order breaking)) (in_numbers ls (count ls)) (out-numbers ls (count ls)) ∙ (route breaking).numbers_are)

  shows : (breaking : Bool) (Sort : List Line → Type 0) → FirstExplanation (meant p) (run_of ls) Sort (order breaking) → (l m : Pair)
      → count ls ≤ length l.numbers → count ls ≤ length l.moments → Written p ls breaking l m → Shows (meant p) (run_of ls) Sort l m
  shows breaking Sort f l m ln lm w =
      record {
        order = order breaking;
        is_first = f;
        moments = first (moment_at p ls (place p ls breaking)) (count ls);
        earliest =
            subst (Earliest (meant p) (order breaking)) (earliest-places p ls (place p ls breaking) (count ls))
            (timed-earliest (meant p) (good_bounds (meant p) good) (order breaking) f.fits.0.timed);
        shown_numbers =
            filled_over 0 (count ls) (number_at p ls breaking) l.numbers m.numbers ln w.numbers
            ∙ ap (λ (x : List ℕ). over x l.numbers) (numbers_are breaking);
        shown_moments = filled_over _ (count ls) (moment_at p ls (place p ls breaking)) l.moments m.moments lm w.moments;
      }

  -- ---- the answer

  abbrev v : Verdict
  v = front_verdict (meant p) (lengths (meant p)) t.front

  exact : IsVerdict (meant p) (run_of ls) v
  exact = front_verdict-exact (lengths_reading (meant p) good) (run_of ls) t.fit

  told_is : (judged p ls start (count ls)).told ≡ says (verdict_number v) t.line
  told_is = ap (λ (j : Judged). j.told) t.is

  -- the verdict that was judged, at any verdict of that number
  reach : (breaking : Bool) (w : ℕ) → verdict_number v ≡ w → reaches breaking w ≡ true → reaches breaking (judged p ls start (count ls)).told.verdict ≡ true
  reach breaking w e h = subst (λ (n : ℕ). reaches breaking n ≡ true) (sym (ap (λ (r : Reasoning). r.verdict) told_is ∙ e)) h

  module _ (r : Reasoning) (judged-so : r ≡ (judged p ls start (count ls)).told) (l l2 m m2 : Pair) (ln : count ls ≤ length l.numbers) (lm : count ls ≤ length l.moments) where
    is_told : r ≡ says (verdict_number v) t.line
    is_told = judged-so ∙ told_is

    answer : ShowsBy v (meant p) (run_of ls) l l2 m m2 → TellsWhy (meant p) (run_of ls) r l l2 m m2
    answer s =
        record {
          taken = ap (λ (x : Reasoning). x.refusal) is_told;
          verdict = v;
          exact = exact;
          told = ap (λ (x : Reasoning). x.verdict) is_told;
          line = subst (ReachedAt (meant p) (run_of ls)) (sym (ap (λ (x : Reasoning). x.line) is_told)) t.reached;
          orders = s;
        }

    pub answer-suspect : r.verdict ≡ 1 → Written p ls (ltb 0 r.verdict) l m → count ls ≤ length l2.numbers → count ls ≤ length l2.moments → Written p ls false l2 m2
        → TellsWhy (meant p) (run_of ls) r l l2 m m2
    answer-suspect one w ln2 lm2 w2 = answer (go v refl (sym (ap (λ (x : Reasoning). x.verdict) is_told) ∙ one))
      where
        go : (u : Verdict) → v ≡ u → verdict_number u ≡ 1 → ShowsBy u (meant p) (run_of ls) l l2 m m2
        go Verdict.clear e n = let z : ⊥ = omega arith in absurd z
        go Verdict.certain e n = let z : ⊥ = omega arith in absurd z
        go Verdict.blind e n = let z : ⊥ = omega arith in absurd z
        go Verdict.suspect e n = (
          shows true (Breaks (meant p)) (first_breaks (reach true 1 (ap verdict_number e) refl)) l m ln lm
              (subst (λ (b : Bool). Written p ls b l m) (lt-ltb 0 r.verdict (omega (arith, one))) w),
          shows false (λ (o : List Line). ¬ Breaks (meant p) o) (first_spares (reach false 1 (ap verdict_number e) refl)) l2 m2 ln2 lm2 w2,
        )

    pub answer_other : (r.verdict ≡ 1 → ⊥) → Written p ls (ltb 0 r.verdict) l m → m2 ≡ l2 → TellsWhy (meant p) (run_of ls) r l l2 m m2
    answer_other not-one w same = answer (go v refl (ap (λ (x : Reasoning). x.verdict) is_told) exact)
      where
        go : (u : Verdict) → v ≡ u → r.verdict ≡ verdict_number u → IsVerdict (meant p) (run_of ls) u → ShowsBy u (meant p) (run_of ls) l l2 m m2
        go Verdict.suspect e n x = absurd (not-one n)
        go Verdict.blind e n x = absurd x
        go Verdict.clear e n x = (
          shows false Any (weaker (first_spares (reach false 0 (ap verdict_number e) refl))) l m ln lm (subst (λ (b : Bool). Written p ls b l m) (le-ltb 0 r.verdict (omega (arith, n))) w),
          same,
        )
          where
            -- where none breaks, the first that does not is the first of all
            weaker : FirstExplanation (meant p) (run_of ls) (λ (o : List Line). ¬ Breaks (meant p) o) (order false) → FirstExplanation (meant p) (run_of ls) Any (order false)
            weaker f = record { fits = (f.fits.0, tt); first = λ o h. f.first o (h.0, x o h.0) }
        go Verdict.certain e n x = (
          shows true (Breaks (meant p)) (first_breaks (reach true 2 (ap verdict_number e) refl)) l m ln lm
              (subst (λ (b : Bool). Written p ls b l m) (lt-ltb 0 r.verdict (omega (arith, n))) w),
          same,
        )
