-- Document 02, CR 6: what the call answers, and what it writes into the lists that are lent.
use Rattle.std.specs.Prelude.{ℕ, zero, suc, ◌≡◌, Bool, not, ◌||◌, List, ◌++◌, length, drop, eqb, ltb, ℤ}
use Rattle.meaning.specs.Words.{Line, Run}
use Rattle.meaning.specs.Words
use Rattle.meaning.specs.Node.{Breaks, Verdict, verdict_number, IsVerdict}
use Rattle.meaning.specs.Numbers.{given, first_of, property_refusal}
use Rattle.meaning.specs.Calls.{fresh}
use Rattle.reasons.specs.Reasons.{most_lines, Earliest, FirstExplanation, Any, ReachedAt, line_numbers, lines_refusal}
use Rattle.property.specs.Meant.{meant}
use Rattle.property.specs.declared.Property.{Property}
use Rattle.first_order.specs.Search.{Pair}
use Rattle.judged_rest.specs.Judged.{Reasoning}
use Rattle.judged_rest.specs.Lent.{Lines, count, run_of}

-- "13, more than 256 lines in the run; 9, any list shorter than the run; 13 before 9, both last."
abbrev pub shorter : Pair → ℕ → Bool
shorter l n = ltb (length l.numbers) n || ltb (length l.moments) n

abbrev pub size_refusal : ℕ → Pair → Pair → ℕ
size_refusal n l l2 = first_of (given 13 (ltb most_lines n)) (given 9 (shorter l n || shorter l2 n))

-- The three lists of a run are not equally long.
abbrev pub uneven : Lines → Bool
uneven ls = not (eqb (length ls.output) (count ls)) || not (eqb (length ls.action) (count ls))

abbrev pub why_refusal : Property → Lines → Pair → Pair → ℕ
why_refusal p ls l l2 =
    first_of (property_refusal (meant p))
    (first_of (given 7 (uneven ls)) (first_of (lines_refusal (meant p) fresh (run_of ls)) (size_refusal (count ls) l l2)))

-- These at the front; "unfilled places stay".
abbrev pub over : {A : Type 0} → List A → List A → List A
over front before = front ++ drop (length front) before

-- The first explanation of a sort stands in a pair of lists: the numbers of its lines, and the earliest moments.
pub record Shows (p : Words.Property) (run : Run) (Sort : List Line → Type 0) (before after : Pair) : Type 0 where
  pub order : List Line
  pub is_first : FirstExplanation p run Sort order
  pub moments : List ℤ
  pub earliest : Earliest p order moments
  pub shown_numbers : after.numbers ≡ over (line_numbers run order) before.numbers
  pub shown_moments : after.moments ≡ over moments before.moments

-- "for clear, one explanation; for suspect, one that breaks and one that doesn't; for certain, one that breaks"; "the second serves
-- only the suspect's order that doesn't break".
abbrev pub ShowsBy : Verdict → Words.Property → Run → Pair → Pair → Pair → Pair → Type 0
ShowsBy Verdict.clear p run l l2 m m2 = Shows p run Any l m × (m2 ≡ l2)
ShowsBy Verdict.suspect p run l l2 m m2 = Shows p run (Breaks p) l m × Shows p run (λ (order : List Line). ¬ Breaks p order) l2 m2
ShowsBy Verdict.certain p run l l2 m m2 = Shows p run (Breaks p) l m × (m2 ≡ l2)
ShowsBy Verdict.blind p run l l2 m m2 = ⊥

-- The verdict, the line after which it "first reached its final level", and the orders.
pub record TellsWhy (p : Words.Property) (run : Run) (r : Reasoning) (l l2 m m2 : Pair) : Type 0 where
  pub taken : r.refusal ≡ 0
  pub verdict : Verdict
  pub exact : IsVerdict p run verdict
  pub told : r.verdict ≡ verdict_number verdict
  pub line : ReachedAt p run r.line
  pub orders : ShowsBy verdict p run l l2 m m2

-- Refused: the number alone, and no list is altered.
pub record Refused (n : ℕ) (r : Reasoning) (l l2 m m2 : Pair) : Type 0 where
  pub alone : r ≡ record { refusal = n; verdict = 0; line = 0 }
  pub kept : m ≡ l
  pub kept2 : m2 ≡ l2

abbrev pub ReasonBy : ℕ → Words.Property → Run → Reasoning → Pair → Pair → Pair → Pair → Type 0
ReasonBy zero p run r l l2 m m2 = TellsWhy p run r l l2 m m2
ReasonBy (suc n) p run r l l2 m m2 = Refused (suc n) r l l2 m m2

-- What the call answers and leaves: l and l2 are the pairs as they were lent, m and m2 as they are afterwards.
unfoldable pub IsReason : Property → Lines → Reasoning → Pair → Pair → Pair → Pair → Type 0
IsReason p ls r l l2 m m2 = ReasonBy (why_refusal p ls l l2) (meant p) (run_of ls) r l l2 m m2
