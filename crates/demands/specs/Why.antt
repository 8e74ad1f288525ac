-- Document 02, CR 6: the words in which the demands speak of the orders that are shown.
use Rattle.std.specs.Prelude.{ℕ, ◌<◌, ◌≡◌, ◌⊎◌, length, take, drop, ℤ, ◌≤ℤ◌}
use mathlib.Core.List.{List, [], ◌∷◌, Forall₂}
use Rattle.meaning.specs.Words.{Action, Property, Line, Run}
use Rattle.meaning.specs.Node.{Given, NeverFall, Explanation, Numbered, Breaks, Verdict, IsVerdict}
use Rattle.reasons.specs.Reasons.{gets_in}
use Rattle.first_order.specs.Search.{Pair}

-- "at the first difference an output comes before an input"
abbrev pub OutputForInput : Action → Action → Type 0
OutputForInput (Action.output k) (Action.input j) = Unit {0}
OutputForInput (Action.output k) (Action.output j) = ⊥
OutputForInput (Action.input k) other = ⊥

abbrev pub ComesBefore : List Line → List Line → Type 0
ComesBefore [] other = ⊥
ComesBefore (x ∷ order) [] = ⊥
ComesBefore (x ∷ order) (y ∷ other) = OutputForInput x.action y.action ⊎ ((x ≡ y) × ComesBefore order other)

-- The number k of a line, beside the numbers of lines that stand behind it in an order: it is none of them, and of its own channel all are
-- above it, since "inputs keep their order and outputs keep theirs".
abbrev pub Before : ℕ → Line → List ℕ → List Line → Type 0
Before k l [] lines = Unit {0}
Before k l (n ∷ numbers) [] = Unit {0}
Before k l (n ∷ numbers) (x ∷ lines) = (k ≡ n → ⊥) × (gets_in l ≡ gets_in x → k < n) × Before k l numbers lines

-- Each number stands once, and the numbers rise within a channel.
abbrev pub InOrder : List ℕ → List Line → Type 0
InOrder [] lines = Unit {0}
InOrder (k ∷ numbers) [] = Unit {0}
InOrder (k ∷ numbers) (l ∷ lines) = Before k l numbers lines × InOrder numbers lines

-- An order stands in a pair of lists.
pub record Shown (p : Property) (run : Run) (Sort : List Line → Type 0) (before after : Pair) : Type 0 where
  pub order : List Line
  -- "The orders must be proved to be explanations of that very run"
  pub explains : Explanation p run order
  -- that break, or don't,
  pub of_the_sort : Sort order
  -- "Of all fitting orders give the first, where at the first difference an output comes before an input";
  pub first : (other : List Line) → Explanation p run other → Sort other → (order ≡ other) ⊎ ComesBefore order other
  -- "write out orders as line numbers with moments": the numbers are those of its lines,
  pub numbers : Forall₂ (Numbered run) (take (length run) after.numbers) order
  pub in_order : InOrder (take (length run) after.numbers) order
  -- "moments are the earliest that the order allows": none is later than in any other moments of the same order,
  pub given : Given p order (take (length run) after.moments)
  pub never_fall : NeverFall (take (length run) after.moments)
  pub earliest : (others : List ℤ) → Given p order others → NeverFall others → Forall₂ ◌≤ℤ◌ (take (length run) after.moments) others
  -- and "unfilled places stay".
  pub numbers_stay : drop (length run) after.numbers ≡ drop (length run) before.numbers
  pub moments_stay : drop (length run) after.moments ≡ drop (length run) before.moments

-- "for clear, one explanation; for suspect, one that breaks and one that doesn't; for certain, one that breaks"
abbrev pub ShownBy : Verdict → Property → Run → Pair → Pair → Pair → Pair → Type 0
ShownBy Verdict.clear p run l l2 m m2 = Shown p run (λ (order : List Line). Unit {0}) l m × (m2 ≡ l2)
ShownBy Verdict.suspect p run l l2 m m2 = Shown p run (Breaks p) l m × Shown p run (λ (order : List Line). ¬ Breaks p order) l2 m2
ShownBy Verdict.certain p run l l2 m m2 = Shown p run (Breaks p) l m × (m2 ≡ l2)
ShownBy Verdict.blind p run l l2 m m2 = ⊥

-- "after which line the verdict first reached its final level, 0 for clear"
pub record FirstReached (p : Property) (run : Run) (verdict : Verdict) (line : ℕ) : Type 0 where
  pub there : IsVerdict p (take line run) verdict
  pub not_before : (j : ℕ) → j < line → ¬ IsVerdict p (take j run) verdict
  pub clear_at_0 : verdict ≡ Verdict.clear → line ≡ 0
