-- Document 02, CR 6: "Show me why."
use Rattle.std.specs.Prelude.{ℕ, suc, ◌<◌, ◌≡◌, ◌⊎◌, Bool, not, cond, List, [], ◌∷◌, ◌++◌, get_or, take, drop, ℤ, ◌≤ℤ◌}
use Rattle.meaning.specs.Words.{Action, Property, Line, Run}
use Rattle.meaning.specs.Node.{Given, NeverFall, Explanation, Numbered, Verdict, IsVerdict}
use Rattle.meaning.specs.Numbers.{first_of}
use Rattle.meaning.specs.Calls.{Call, Watch, refusal, taken}
use Rattle.meaning.specs.Matcher.{is_input}

-- "For a run of up to 256 lines"
abbrev pub most_lines : ℕ
most_lines = 256

-- "moments are the earliest that the order allows": each the least that any moments of that order can have there.
abbrev pub NoneLater : List ℤ → List ℤ → Type 0
NoneLater [] [] = Unit {0}
NoneLater [] (n ∷ ns) = ⊥
NoneLater (m ∷ ms) [] = ⊥
NoneLater (m ∷ ms) (n ∷ ns) = (m ≤ℤ n) × NoneLater ms ns

pub record Earliest (p : Property) (order : List Line) (moments : List ℤ) : Type 0 where
  pub given : Given p order moments
  pub never_fall : NeverFall moments
  pub least : (others : List ℤ) → Given p order others → NeverFall others → NoneLater moments others

-- "at the first difference an output comes before an input": the two orders begin with the same lines, and then the one has an
-- output and the other an input.
pub record Sooner (order other : List Line) : Type 0 where
  pub same : List Line
  pub output : ℕ
  pub sent : ℕ
  pub after : List Line
  pub input : ℕ
  pub got : ℕ
  pub behind : List Line
  pub one : order ≡ same ++ record { action = Action.output output; stamp = sent } ∷ after
  pub two : other ≡ same ++ record { action = Action.input input; stamp = got } ∷ behind

-- "Of all fitting orders give the first".
pub record First (Fitting : List Line → Type 0) (order : List Line) : Type 0 where
  pub fits : Fitting order
  pub first : (other : List Line) → Fitting other → (order ≡ other) ⊎ Sooner order other

-- The first explanation of a run of a sort: any, one that breaks, one that does not.
abbrev pub FirstExplanation : Property → Run → (List Line → Type 0) → List Line → Type 0
FirstExplanation p run Sort order = First (λ (o : List Line). Explanation p run o × Sort o) order

abbrev pub Any : List Line → Type 0
Any order = Unit {0}

-- "after which line the verdict first reached its final level": the least k such that the first k lines have the verdict of all.
pub record ReachedAt (p : Property) (run : Run) (k : ℕ) : Type 0 where
  pub verdict : Verdict
  pub whole : IsVerdict p run verdict
  pub there : IsVerdict p (take k run) verdict
  pub none_before : (j : ℕ) → j < k → ¬ IsVerdict p (take j run) verdict

-- "Lines count from 1 in the run": the numbers of those lines of which a test holds, where the first line is number k.
unfoldable pub numbers_of : (Line → Bool) → ℕ → List Line → List ℕ
numbers_of f k [] = []
numbers_of f k (l ∷ rest) = cond (f l) (k ∷ numbers_of f (suc k) rest) (numbers_of f (suc k) rest)

abbrev pub gets_in : Line → Bool
gets_in l = is_input l.action

abbrev pub goes_out : Line → Bool
goes_out l = not (is_input l.action)

-- "orders as line numbers". Inputs keep their order and outputs keep theirs, so the next input of an order is the next input of the
-- run, and so with outputs. What is left of the inputs' numbers and of the outputs' is given.
unfoldable pub numbered : List ℕ → List ℕ → List Line → List ℕ
numbered ins outs [] = []
numbered ins outs (l ∷ rest) =
    cond (gets_in l) (get_or ins 0 0 ∷ numbered (drop 1 ins) outs rest) (get_or outs 0 0 ∷ numbered ins (drop 1 outs) rest)

abbrev pub line_numbers : Run → List Line → List ℕ
line_numbers run order = numbered (numbers_of gets_in 1 run) (numbers_of goes_out 1 run) order

-- Each number is that of the line beside it.
abbrev pub Names : Run → List ℕ → List Line → Type 0
Names run [] [] = Unit {0}
Names run [] (l ∷ ls) = ⊥
Names run (k ∷ ks) [] = ⊥
Names run (k ∷ ks) (l ∷ ls) = Numbered run k l × Names run ks ls

-- The number with which a session refuses the first of these lines that it does not take; 0 where it takes all.
unfoldable pub lines_refusal : Property → Watch → List Line → ℕ
lines_refusal p w [] = 0
lines_refusal p w (l ∷ rest) = first_of (refusal p w (Call.line l)) (lines_refusal p (taken p w (Call.line l)) rest)
