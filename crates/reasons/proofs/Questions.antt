-- The step over cuts with another start: the verdict of lines that follow on a state of the matcher.
use Prim.Native.Nat.{ℕ, ◌≤◌}
use mathlib.Core.Path.{◌≡◌, refl, sym, ◌∙◌, ap, subst}
use mathlib.Core.Logic.{◌↔◌}
use mathlib.Core.Bool.{true, cond}
use mathlib.Core.List.{List, [], ◌∷◌, ◌++◌, append-nil}
use native.Mathlib.Omega.{arith}
use lib.ListN.{length}
use Rattle.meaning.specs.Words.{Action, Property, Line, Run, StampsFrom}
use Rattle.meaning.specs.Node.{VerdictFor}
use Rattle.meaning.specs.Calls.{is_open, open_at}
use Rattle.meaning.specs.Step.{Sets, Held, Front, last_set, closed, appended, swept_one, swept, front_next, front_with, verdict_of, front_verdict}
use Rattle.meaning.proofs.Lists.{All, also, snoc_append}
use Rattle.meaning.proofs.Sets.{Matcher, along, Reading}
use Rattle.meaning.proofs.Exact.{Fits, fresh-fits, front_fits, held-is_open, front_verdict-exact}

-- sets with another start
abbrev started : (𝓢 : Sets) → 𝓢.Set → Sets
started 𝓢 s =
    record {
      Set = 𝓢.Set;
      none = 𝓢.none;
      start = s;
      join = 𝓢.join;
      move = 𝓢.move;
      some_broken = 𝓢.some_broken;
      some_unbroken = 𝓢.some_unbroken;
    }

-- a matcher that begins elsewhere
abbrev begun : (M : Matcher) → M.State → Matcher
begun M q = record { State = M.State; begin = q; step = M.step; is_broken = M.is_broken }

along_begun : (M : Matcher) (q s : M.State) (u : List Line) → along (begun M q) s u ≡ along M s u
unfolding along
along_begun M q s [] = refl
along_begun M q s (l ∷ u) = along_begun M q (M.step s l) u

-- the step does not ask for the start
module _ (p : Property) (𝓢 : Sets) (s₀ : 𝓢.Set) where
  same-closed : (T : ℕ) (s : 𝓢.Set) (hs : List (Held 𝓢.Set)) → closed p (started 𝓢 s₀) T s hs ≡ closed p 𝓢 T s hs
  unfolding closed
  same-closed T s [] = refl
  same-closed T s (h ∷ hs) =
      ap (λ (f : Front 𝓢.Set). cond (is_open p T h.line) (record { before = s; held = h ∷ hs }) f) (same-closed T h.after hs)

  same-appended : (x : Line) (s : 𝓢.Set) (hs : List (Held 𝓢.Set)) → appended p (started 𝓢 s₀) x s hs ≡ appended p 𝓢 x s hs
  unfolding appended
  same-appended x s [] = refl
  same-appended x s (h ∷ hs) = ap (λ (l : List (Held 𝓢.Set)). h ∷ l) (same-appended x h.after hs)

  same-swept : (y : Line) (s : 𝓢.Set) (hs : List (Held 𝓢.Set)) → swept p (started 𝓢 s₀) y s hs ≡ swept p 𝓢 y s hs
  unfolding swept
  same-swept y s [] = refl
  same-swept y s (h ∷ hs) =
      ap (λ (l : List (Held 𝓢.Set)). record { line = h.line; after = swept_one p 𝓢 y s h } ∷ l) (same-swept y (swept_one p 𝓢 y s h) hs)

  same_next : (a : Action) (l : Line) (f : Front 𝓢.Set) → front_next p (started 𝓢 s₀) a l f ≡ front_next p 𝓢 a l f
  same_next (Action.input k) l f = ap (λ (hs : List (Held 𝓢.Set)). record { before = f.before; held = hs }) (same-appended l f.before f.held)
  same_next (Action.output k) l f =
      ap (λ (hs : List (Held 𝓢.Set)). record { before = 𝓢.move f.before l; held = hs }) (same-swept l (𝓢.move f.before l) f.held)

  same-with : (f : Front 𝓢.Set) (l : Line) → front_with p (started 𝓢 s₀) f l ≡ front_with p 𝓢 f l
  same-with f l =
      same_next l.action l (closed p (started 𝓢 s₀) l.stamp f.before f.held)
      ∙ ap (front_next p 𝓢 l.action l) (same-closed l.stamp f.before f.held)

  same-last : (s : 𝓢.Set) (hs : List (Held 𝓢.Set)) → last_set p (started 𝓢 s₀) s hs ≡ last_set p 𝓢 s hs
  unfolding last_set
  same-last s [] = refl
  same-last s (h ∷ hs) = same-last h.after hs

  same-verdict : (f : Front 𝓢.Set) → front_verdict p (started 𝓢 s₀) f ≡ front_verdict p 𝓢 f
  same-verdict f = ap (λ (s : 𝓢.Set). verdict_of p 𝓢 (𝓢.some_broken s) (𝓢.some_unbroken s)) (same-last f.before f.held)

-- the front after lines
unfoldable pub through : (p : Property) (𝓢 : Sets) → Front 𝓢.Set → List Line → Front 𝓢.Set
through p 𝓢 f [] = f
through p 𝓢 f (l ∷ ls) = through p 𝓢 (front_with p 𝓢 f l) ls

pub through_last : (p : Property) (𝓢 : Sets) (f : Front 𝓢.Set) (ls : List Line) (l : Line)
    → through p 𝓢 f (ls ++ l ∷ []) ≡ front_with p 𝓢 (through p 𝓢 f ls) l
unfolding through
through_last p 𝓢 f [] l = refl
through_last p 𝓢 f (k ∷ ls) l = through_last p 𝓢 (front_with p 𝓢 f k) ls l

-- a front with one cut
abbrev pub single : {Set : Type 0} → Set → Front Set
single s = record { before = s; held = [] }

module _ {p : Property} {Breaking : List Line → Type 0} (R : Reading p Breaking) (q : R.matcher.State) (s₀ : R.sets.Set)
    (one : (s : R.matcher.State) → R.laws.Member s₀ s ↔ (s ≡ q)) where
  abbrev M : Matcher
  M = R.matcher

  abbrev 𝓢 : Sets
  𝓢 = R.sets

  -- an order leads on from the state to broken
  abbrev pub Broken : List Line → Type 0
  Broken order = M.is_broken (along M q order) ≡ true

  abbrev reading : Reading p Broken
  reading =
      record {
        bounds = R.bounds;
        matcher = begun M q;
        sets = started 𝓢 s₀;
        laws =
            record {
              Member = R.laws.Member;
              member_start = one;
              member_none = R.laws.member_none;
              member_join = R.laws.member_join;
              member_move = R.laws.member_move;
              some_broken = R.laws.some_broken;
              some_unbroken = R.laws.some_unbroken;
            };
        reads = λ order. (
          λ e. subst (λ (s : M.State). M.is_broken s ≡ true) (along_begun M q q order) e,
          λ e. subst (λ (s : M.State). M.is_broken s ≡ true) (sym (along_begun M q q order)) e,
        );
      }

  -- the front after these lines fits them, at a stamp that is not above what none of them is above
  fits_on : (t : ℕ) (run : Run) (f : Front 𝓢.Set) → Fits reading t run f → (more : List Line) (T : ℕ) → StampsFrom t more → t ≤ T
      → All (λ (z : Line). z.stamp ≤ T) more → (u : ℕ) × (u ≤ T) × Fits reading u (run ++ more) (through p 𝓢 f more)
  unfolding through
  fits_on t run f fit [] T rise h k = (t, h, subst (λ (r : Run). Fits reading t r f) (sym (append-nil run)) fit)
  fits_on t run f fit (l ∷ more) T rise h (also low k) =
      let next : Fits reading l.stamp (run ++ l ∷ []) (front_with p 𝓢 f l) =
      subst (Fits reading l.stamp (run ++ l ∷ [])) (same-with p 𝓢 s₀ f l) (front_fits reading t run f fit l rise.0) in
      let r = fits_on l.stamp (run ++ l ∷ []) (front_with p 𝓢 f l) next more T rise.1 low k in
      (r.0, r.1, subst (λ (x : Run). Fits reading r.0 x (through p 𝓢 (front_with p 𝓢 f l) more)) (snoc_append run l more) r.2)

  fits_through : (run : Run) (T : ℕ) → StampsFrom 0 run → All (λ (z : Line). z.stamp ≤ T) run
      → (u : ℕ) × (u ≤ T) × Fits reading u run (through p 𝓢 (single s₀) run)
  fits_through run T rise low = fits_on 0 [] (single s₀) (fresh-fits reading 0) run T rise (omega arith) low

  -- The verdict on what follows,
  pub verdict_on : (run : Run) (T : ℕ) → StampsFrom 0 run → All (λ (z : Line). z.stamp ≤ T) run
      → VerdictFor Broken p run (front_verdict p 𝓢 (through p 𝓢 (single s₀) run))
  verdict_on run T rise low =
      let r = fits_through run T rise low in
      subst (VerdictFor Broken p run) (same-verdict p 𝓢 s₀ (through p 𝓢 (single s₀) run)) (front_verdict-exact reading run r.2)

  -- and how many inputs are open after a line more.
  pub open_on : (run : Run) (l : Line) → StampsFrom 0 run → All (λ (z : Line). z.stamp ≤ l.stamp) run
      → length (front_with p 𝓢 (through p 𝓢 (single s₀) run) l).held ≡ open_at p l.stamp (run ++ l ∷ [])
  open_on run l rise low =
      let r = fits_through run l.stamp rise low in
      let f : Front 𝓢.Set = through p 𝓢 (single s₀) run in
      ap (λ (g : Front 𝓢.Set). length g.held) (sym (same-with p 𝓢 s₀ f l)) ∙ sym (held-is_open reading (front_fits reading r.0 run f r.2 l r.1))
