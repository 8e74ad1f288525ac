-- The P cases hold of the definitions. Each verdict is computed by the step over cuts, which is proved to be the definition's.
use mathlib.Core.Path.{◌≡◌, refl, ◌∙◌, ap, subst}
use mathlib.Core.Bool.{Bool, true, ◌&&◌}
use mathlib.Core.List.{List, [], ◌∷◌}
use lib.Dec.{eqb}
use borrow.Author.Tests.{eqb-true}
use Rattle.meaning.specs.Node.{Breaks, Verdict, verdict_number}
use Rattle.meaning.specs.Calls.{Call, Watch, fresh, refusal, taken, watched, AllTaken, Standing}
use Rattle.meaning.specs.Matcher.{ends, fall_back, some_to}
use Rattle.meaning.specs.Step.{lengths, fresh_cuts, closed, appended, swept, last_set, cuts_verdict, cuts_after}
use Rattle.meaning.specs.Cases.{B, Case, case, cases, AsSaid, GapSaid, inp}
use Rattle.meaning.proofs.Tests.{both, same_number}
use Rattle.meaning.proofs.Sets.{Reading}
use Rattle.meaning.proofs.Calls.{grown_agrees, standing_agrees, standing_unique}
use Rattle.meaning.proofs.Lengths.{lengths_reading}

-- the reading of property B
abbrev R : Reading B (Breaks B)
R = lengths_reading B refl

-- a test that antt computes over the whole list
all-taken : Watch → List Call → Bool
all-taken w [] = true
all-taken w (c ∷ rest) = eqb (refusal B w c) 0 && all-taken (taken B w c) rest

taken_by_test : (w : Watch) (calls : List Call) → all-taken w calls ≡ true → AllTaken B w calls
unfolding all-taken AllTaken
taken_by_test w [] e = tt
taken_by_test w (c ∷ rest) e =
    let q : (eqb (refusal B w c) 0 ≡ true) × (all-taken (taken B w c) rest ≡ true) = both (eqb (refusal B w c) 0) (all-taken (taken B w c) rest) e in
    (eqb-true (refusal B w c) 0 q.0, taken_by_test (taken B w c) rest q.1)

stepped : List Call → Verdict
stepped calls = cuts_verdict B (lengths B) (cuts_after B (lengths B) (fresh_cuts B (lengths B)) calls)

as_stepped : List Case → Bool
as_stepped [] = true
as_stepped (c ∷ rest) = all-taken fresh c.calls && eqb (verdict_number (stepped c.calls)) (verdict_number c.verdict) && as_stepped rest

by_test : (cs : List Case) → as_stepped cs ≡ true → AsSaid cs
unfolding as_stepped AsSaid stepped
by_test [] e = tt
by_test (c ∷ rest) e =
    let q : (all-taken fresh c.calls && eqb (verdict_number (stepped c.calls)) (verdict_number c.verdict) ≡ true) × (as_stepped rest ≡ true) =
    both (all-taken fresh c.calls && eqb (verdict_number (stepped c.calls)) (verdict_number c.verdict)) (as_stepped rest) e in
    let r : (all-taken fresh c.calls ≡ true) × (eqb (verdict_number (stepped c.calls)) (verdict_number c.verdict) ≡ true) =
    both (all-taken fresh c.calls) (eqb (verdict_number (stepped c.calls)) (verdict_number c.verdict)) q.0 in (
      (
        taken_by_test fresh c.calls r.0,
        subst (Standing B (watched B fresh c.calls)) (same_number (stepped c.calls) c.verdict (eqb-true _ _ r.1))
            (standing_agrees R (grown_agrees R c.calls)),
      ),
      by_test rest q.1,
    )

computed : as_stepped cases ≡ true
unfolding as_stepped all-taken stepped cuts_after closed appended swept last_set ends fall_back some_to
computed = refl

after_first : Standing B (watched B fresh (inp 0 100 ∷ [])) Verdict.clear
unfolding AsSaid
after_first = (by_test (case 12 (inp 0 100 ∷ []) Verdict.clear ∷ []) first_computed).0.1
  where
    first_computed : as_stepped (case 12 (inp 0 100 ∷ []) Verdict.clear ∷ []) ≡ true
    first_computed = unfold as_stepped all-taken stepped cuts_after closed appended swept last_set ends fall_back some_to in refl

gap_said : GapSaid
unfolding watched
gap_said a h =
    h.told
    ∙ ap verdict_number
    (standing_unique R (grown_agrees R (inp 0 100 ∷ [])) h.verdict Verdict.clear h.stands after_first)

-- The cases marked P, each of which a reader finds in document 01.
pub p_cases : AsSaid cases × GapSaid
p_cases = (by_test cases computed, gap_said)
