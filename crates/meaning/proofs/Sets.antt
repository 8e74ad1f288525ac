-- What a matcher is, and what it means that sets stand for what it may remember. The main theorem rests on these laws alone.
use mathlib.Core.Path.{◌≡◌, refl}
use mathlib.Core.Logic.{◌↔◌, ◌⊎◌}
use mathlib.Core.Bool.{Bool, true, false}
use mathlib.Core.List.{List, [], ◌∷◌, ◌++◌}
use Rattle.meaning.specs.Words.{Property, Line}
use Rattle.meaning.specs.Step.{Sets}
use Rattle.meaning.proofs.Pairs.{Bounds}

pub record Matcher : Type 1 where
  pub State : Type 0
  pub begin : State
  pub step : State → Line → State
  pub is_broken : State → Bool

-- what the matcher remembers after some lines
unfoldable pub along : (M : Matcher) → M.State → List Line → M.State
along M s [] = s
along M s (l ∷ ls) = along M (M.step s l) ls

pub along_append : (M : Matcher) (s : M.State) (u v : List Line) → along M s (u ++ v) ≡ along M (along M s u) v
unfolding along
along_append M s [] v = refl
along_append M s (l ∷ u) v = along_append M (M.step s l) u v

pub along_last : (M : Matcher) (s : M.State) (u : List Line) (l : Line) → along M s (u ++ l ∷ []) ≡ M.step (along M s u) l
unfolding along
along_last M s u l = along_append M s u (l ∷ [])

pub along_none : (M : Matcher) (s : M.State) → along M s [] ≡ s
unfolding along
along_none M s = refl

pub record SetLaws (M : Matcher) (𝓢 : Sets) : Type 1 where
  pub Member : 𝓢.Set → M.State → Type 0
  pub member_start : (s : M.State) → Member 𝓢.start s ↔ (s ≡ M.begin)
  pub member_none : (s : M.State) → ¬ Member 𝓢.none s
  pub member_join : (a b : 𝓢.Set) (s : M.State) → Member (𝓢.join a b) s ↔ (Member a s ⊎ Member b s)
  pub member_move : (a : 𝓢.Set) (l : Line) (s : M.State)
      → Member (𝓢.move a l) s ↔ ((r : M.State) × Member a r × (M.step r l ≡ s))
  pub some_broken : (a : 𝓢.Set) → (𝓢.some_broken a ≡ true) ↔ ((s : M.State) × Member a s × (M.is_broken s ≡ true))
  pub some_unbroken : (a : 𝓢.Set) → (𝓢.some_unbroken a ≡ true) ↔ ((s : M.State) × Member a s × (M.is_broken s ≡ false))

-- How a property is read over cuts, for breaches of a sort: a matcher that has broken exactly where an order breaks, and
-- sets that stand for what it may remember. All theorems over cuts take this one bundle.
pub record Reading (p : Property) (Breaking : List Line → Type 0) : Type 1 where
  pub bounds : Bounds p
  pub matcher : Matcher
  pub sets : Sets
  pub laws : SetLaws matcher sets
  pub reads : (order : List Line) → (matcher.is_broken (along matcher matcher.begin order) ≡ true) ↔ Breaking order
