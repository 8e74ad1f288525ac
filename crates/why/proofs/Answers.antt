-- The call's answer, refusal by refusal, and where there is none.
use Rattle.std.specs.Prelude.{Ok, Err}
use Prim.Native.Nat.{ℕ, zero, suc, ◌≤◌, ◌<◌}
use mathlib.Core.Path.{◌≡◌, refl, sym, ap, ◌∙◌, subst}
use mathlib.Core.Bool.{Bool, true, false, not, ◌||◌}
use native.Mathlib.Omega.{arith}
use lib.ListN.{length, get_or-eq_default}
use lib.Dec.{eqb, ltb}
use borrow.Author.Tests.{eq-eqb, ne_eqb, lt-ltb, le-ltb, ltb-true, ltb-false}
use Rattle.laws.proofs.Tests.{neither}
use Rattle.meaning.specs.Limits.{last_stamp}
use Rattle.meaning.specs.Numbers.{given, first_of, property_refusal}
use Rattle.meaning.specs.Calls.{fresh}
use Rattle.meaning.proofs.Tests.{or_left, or_right}
use Rattle.meaning.proofs.Refusals.{first_of-given}
use Rattle.reasons.specs.Reasons.{most_lines, lines_refusal}
use Rattle.outcomes.specs.declared.Refusal.{Refusal}
use Rattle.outcomes.specs.Numbers.{refusal_number}
use Rattle.outcomes.proofs.Same.{refusal_not_0}
use Rattle.property.specs.Meant.{meant}
use Rattle.property.specs.declared.Property.{Property}
use Rattle.judged_rest.specs.Lent.{Lines, stamp_at, line_in, count, run_of}
use Rattle.first_order.specs.Search.{Pair}
use Rattle.why.specs.Why.{shorter, size_refusal, uneven, why_refusal, TellsWhy, ReasonBy, IsReason}
use Rattle.judged_rest.specs.declared.Reason.{Reason}
use Rattle.judged_rest.specs.Judged.{Reasoning, reason_in, Judged, refused_by, judged}
use Rattle.first_order.specs.Search.{start, Sized}
use Rattle.why.proofs.Whole.{AllTaken, all-taken}
use Rattle.why.proofs.Judgement.{Taken, Sofar, all_of, stopped, sofar}

module _ (p : Property) (ls : Lines) (l l2 : Pair) where
  -- refused: the number alone, and the lists as they were
  refused_so : (n : ℕ) → why_refusal p ls l l2 ≡ n → (n ≡ 0 → ⊥) → IsReason p ls (refused_by n) l l2 l l2
  unfolding IsReason
  refused_so n e h = subst (λ (k : ℕ). ReasonBy k (meant p) (run_of ls) (refused_by n) l l2 l l2) (sym e) (go n h)
    where
      go : (n : ℕ) → (n ≡ 0 → ⊥) → ReasonBy n (meant p) (run_of ls) (refused_by n) l l2 l l2
      go zero z = absurd (z refl)
      go (suc n) z = record { alone = refl; kept = refl; kept2 = refl }

  -- the property,
  pub by_property : (refusal : Refusal) → refusal_number refusal ≡ property_refusal (meant p) → IsReason p ls (reason_in (Err refusal)) l l2 l l2
  by_property refusal e =
      refused_so (refusal_number refusal) (first_of-given (property_refusal (meant p)) _ (λ z. refusal_not_0 refusal (e ∙ z)) ∙ sym e) (refusal_not_0 refusal)

  module _ (good : property_refusal (meant p) ≡ 0) where
    past_property : why_refusal p ls l l2 ≡ first_of (given 7 (uneven ls)) (first_of (lines_refusal (meant p) fresh (run_of ls)) (size_refusal (count ls) l l2))
    past_property = ap (λ (n : ℕ). first_of n (first_of (given 7 (uneven ls)) (first_of (lines_refusal (meant p) fresh (run_of ls)) (size_refusal (count ls) l l2)))) good

    -- lists of a run that are not equally long,
    is_uneven : uneven ls ≡ true → IsReason p ls (refused_by 7) l l2 l l2
    is_uneven e =
        refused_so 7 (past_property ∙ ap (λ (b : Bool). first_of (given 7 b) (first_of (lines_refusal (meant p) fresh (run_of ls)) (size_refusal (count ls) l l2))) e)
        (λ z. omega arith)

    pub by_output : (length ls.output ≡ count ls → ⊥) → IsReason p ls (refused_by 7) l l2 l l2
    by_output h = is_uneven (or_left (not (eqb (length ls.action) (count ls))) (ap not (ne_eqb _ _ h)))

    pub by_action : (length ls.action ≡ count ls → ⊥) → IsReason p ls (refused_by 7) l l2 l l2
    by_action h = is_uneven (or_right (not (eqb (length ls.output) (count ls))) (ap not (ne_eqb _ _ h)))

    module _ (even-output : length ls.output ≡ count ls) (even-action : length ls.action ≡ count ls) where
      past_lists : why_refusal p ls l l2 ≡ first_of (lines_refusal (meant p) fresh (run_of ls)) (size_refusal (count ls) l l2)
      past_lists =
          past_property
          ∙ ap (λ (b : Bool). first_of (given 7 b) (first_of (lines_refusal (meant p) fresh (run_of ls)) (size_refusal (count ls) l l2)))
          (neither (ap not (eq-eqb _ _ even-output)) (ap not (eq-eqb _ _ even-action)))

      -- the lines,
      pub by_lines : (refusal : Refusal) → reason_in (Err refusal) ≡ (judged p ls start (count ls)).told → IsReason p ls (reason_in (Err refusal)) l l2 l l2
      by_lines refusal e = go (sofar p good ls (count ls))
        where
          go : Sofar p good ls (count ls) → IsReason p ls (reason_in (Err refusal)) l l2 l l2
          go (all_of t) = absurd (refusal_not_0 refusal (ap (λ (x : Reasoning). x.refusal) (e ∙ ap (λ (j : Judged). j.told) t.is)))
          go (stopped n q j) =
              subst (λ (x : Reasoning). IsReason p ls x l l2 l l2) (sym (e ∙ j))
              (refused_so (suc n) (past_lists ∙ ap (λ (k : ℕ). first_of k (size_refusal (count ls) l l2)) q) (λ z. omega arith))

      module _ (reason : Reason) (so : reason_in (Ok reason) ≡ (judged p ls start (count ls)).told) where
        -- all lines are taken
        pub is_taken : Taken p good ls (count ls)
        is_taken = go (sofar p good ls (count ls))
          where
            go : Sofar p good ls (count ls) → Taken p good ls (count ls)
            go (all_of t) = t
            go (stopped n q j) = let z : suc n ≡ 0 = sym (ap (λ (x : Reasoning). x.refusal) (so ∙ j)) in let w : ⊥ = omega arith in absurd w

        pub is_sized : Sized ls
        is_sized = record { output_long = even-output; action_long = even-action; stamps_low = λ i. low i (ltb i (count ls)) (ltb-true i (count ls)) (ltb-false i (count ls)) }
          where
            known : AllTaken (meant p) (line_in ls) (count ls)
            known = all-taken (meant p) (line_in ls) (count ls) is_taken.none

            low : (i : ℕ) (b : Bool) → (b ≡ true → i < count ls) → (b ≡ false → count ls ≤ i) → stamp_at ls i ≤ last_stamp
            low i true y n = known.low i (y refl)
            low i false y n = let e : stamp_at ls i ≡ 0 = get_or-eq_default ls.stamp 0 (n refl) in omega arith

        past_lines : why_refusal p ls l l2 ≡ size_refusal (count ls) l l2
        past_lines = past_lists ∙ ap (λ (k : ℕ). first_of k (size_refusal (count ls) l l2)) is_taken.none

        -- the size of the run,
        pub by_many : most_lines < count ls → IsReason p ls (refused_by 13) l l2 l l2
        by_many h =
            refused_so 13 (past_lines ∙ ap (λ (b : Bool). first_of (given 13 b) (given 9 (shorter l (count ls) || shorter l2 (count ls)))) (lt-ltb most_lines (count ls) h))
            (λ z. omega arith)

        module _ (few : count ls ≤ most_lines) where
          past_many : why_refusal p ls l l2 ≡ given 9 (shorter l (count ls) || shorter l2 (count ls))
          past_many =
              past_lines ∙ ap (λ (b : Bool). first_of (given 13 b) (given 9 (shorter l (count ls) || shorter l2 (count ls)))) (le-ltb most_lines (count ls) few)

          -- and that of the lists.
          pub by_short : shorter l (count ls) || shorter l2 (count ls) ≡ true → IsReason p ls (refused_by 9) l l2 l l2
          by_short h = refused_so 9 (past_many ∙ ap (given 9) h) (λ z. omega arith)

          pub by_told : (m m2 : Pair) → count ls ≤ length l.numbers → count ls ≤ length l.moments → count ls ≤ length l2.numbers → count ls ≤ length l2.moments
              → TellsWhy (meant p) (run_of ls) (reason_in (Ok reason)) l l2 m m2 → IsReason p ls (reason_in (Ok reason)) l l2 m m2
          unfolding IsReason
          by_told m m2 a b c d told =
              subst (λ (k : ℕ). ReasonBy k (meant p) (run_of ls) (reason_in (Ok reason)) l l2 m m2)
              (sym
              (past_many
              ∙ ap (given 9) (neither (neither (le-ltb _ _ a) (le-ltb _ _ b)) (neither (le-ltb _ _ c) (le-ltb _ _ d)))))
              told
