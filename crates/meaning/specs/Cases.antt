-- Document 01, "Stamps on either side of each bound": the cases marked P, as one list. Document 02, CR 1: "Cases 8 and 9 become
-- certain; the others stay."
use Rattle.std.specs.Prelude.{ℕ, ◌≡◌, List, [], ◌∷◌, eqb}
use Rattle.meaning.specs.Words.{Action, Property}
use Rattle.meaning.specs.Node.{Verdict, verdict_number}
use Rattle.meaning.specs.Calls.{Call, mark_at, fresh, watched, AllTaken, Standing, Answer, IsAnswer}

-- "LB 10, UB 30. Property B: sequence ?0, allowed {!1}."
abbrev pub B : Property
B = record { sequence = Action.input 0 ∷ []; allowed = λ k. eqb k 1; LB = 10; UB = 30 }

-- ?k@t, !k@t and a gap mark, whose number of lost lines document 01 does not give: it is 0 here, and no verdict depends on it.
abbrev pub inp : ℕ → ℕ → Call
inp k t = Call.line (record { action = Action.input k; stamp = t })

abbrev pub out : ℕ → ℕ → Call
out k t = Call.line (record { action = Action.output k; stamp = t })

abbrev pub gap : ℕ → Call
gap t = mark_at 0 t

-- A case's number, calls, and the verdict that stands after them. Where a case gives a verdict after each line it has an entry for each.
pub record Case : Type 0 where
  pub number : ℕ
  pub calls : List Call
  pub verdict : Verdict

abbrev pub case : ℕ → List Call → Verdict → Case
case n calls v = record { number = n; calls = calls; verdict = v }

abbrev pub cases : List Case
cases =
    case 1 [] Verdict.clear
    ∷ case 2 (inp 0 100 ∷ out 2 119 ∷ []) Verdict.clear
    ∷ case 3 (inp 0 100 ∷ out 2 120 ∷ []) Verdict.suspect
    ∷ case 4 (inp 0 100 ∷ out 2 160 ∷ []) Verdict.suspect
    ∷ case 5 (inp 0 100 ∷ out 2 161 ∷ []) Verdict.certain
    ∷ case 6 (inp 0 100 ∷ out 2 100 ∷ []) Verdict.clear
    ∷ case 6 (out 2 100 ∷ inp 0 100 ∷ []) Verdict.clear
    ∷ case 7 (inp 0 100 ∷ out 1 161 ∷ []) Verdict.clear
    ∷ case 8 (inp 0 100 ∷ inp 1 101 ∷ out 2 161 ∷ []) Verdict.certain
    ∷ case 9 (inp 0 100 ∷ inp 1 100 ∷ out 2 161 ∷ []) Verdict.certain
    ∷ case 10 (inp 0 100 ∷ []) Verdict.clear
    ∷ case 10 (inp 0 100 ∷ out 1 130 ∷ []) Verdict.clear
    ∷ case 10 (inp 0 100 ∷ out 1 130 ∷ out 2 161 ∷ []) Verdict.suspect
    ∷ case 11 (inp 0 100 ∷ []) Verdict.clear
    ∷ case 11 (inp 0 100 ∷ out 2 120 ∷ []) Verdict.suspect
    ∷ case 11 (inp 0 100 ∷ out 2 120 ∷ out 2 161 ∷ []) Verdict.certain
    ∷ case 12 (inp 0 100 ∷ []) Verdict.clear
    ∷ case 12 (inp 0 100 ∷ gap 200 ∷ []) Verdict.blind
    ∷ case 12 (inp 0 100 ∷ gap 200 ∷ out 2 260 ∷ []) Verdict.blind
    ∷ case 12 (inp 0 100 ∷ gap 200 ∷ out 2 260 ∷ out 2 320 ∷ []) Verdict.blind
    ∷ case 12 (inp 0 100 ∷ gap 200 ∷ out 2 260 ∷ out 2 320 ∷ inp 0 381 ∷ []) Verdict.clear
    ∷ case 12 (inp 0 100 ∷ gap 200 ∷ out 2 260 ∷ out 2 320 ∷ inp 0 381 ∷ out 2 442 ∷ []) Verdict.certain
    ∷ []

-- Every call of a case is taken, and its verdict stands after them.
unfoldable pub AsSaid : List Case → Type 0
AsSaid [] = Unit {0}
AsSaid (c ∷ rest) = (AllTaken B fresh c.calls × Standing B (watched B fresh c.calls) c.verdict) × AsSaid rest

-- Case 12: "the gap's own answer is clear".
abbrev pub GapSaid : Type 0
GapSaid = (a : Answer) → IsAnswer B (watched B fresh (inp 0 100 ∷ [])) (gap 200) a → a.verdict ≡ verdict_number Verdict.clear
