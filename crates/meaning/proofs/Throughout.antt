-- What holds throughout a front, that is of all its sets, and is preserved by none, start, join and move holds throughout after a step.
use Prim.Native.Nat.{ℕ, ◌+◌, ◌*◌}
use mathlib.Core.Bool.{Bool, true, false, cond}
use mathlib.Core.List.{List, [], ◌∷◌}
use lib.Dec.{leb}
use Rattle.meaning.specs.Words.{Action, Property, Line}
use Rattle.meaning.specs.Calls.{is_open}
use Rattle.meaning.specs.Step.{Sets, Held, Front, closed, appended, swept, swept_one, front_next, front_with, fresh_front, no_front}
use Rattle.meaning.proofs.Lists.{All, done, also}

-- P holds of every set of a front
abbrev pub AfterEach : {Set : Type 0} → (Set → Type 0) → List (Held Set) → Type 0
AfterEach {Set} P hs = All (λ (h : Held Set). P h.after) hs

pub record Throughout {Set : Type 0} (P : Set → Type 0) (f : Front Set) : Type 0 where
  pub before : P f.before
  pub held : AfterEach P f.held

-- P holds of the sets that a step begins with and is preserved where it makes sets of sets
pub record Preserved (𝓢 : Sets) (P : 𝓢.Set → Type 0) : Type 0 where
  pub none : P 𝓢.none
  pub start : P 𝓢.start
  pub join : (s t : 𝓢.Set) → P s → P t → P (𝓢.join s t)
  pub move : (s : 𝓢.Set) (l : Line) → P s → P (𝓢.move s l)

module _ (p : Property) {𝓢 : Sets} {P : 𝓢.Set → Type 0} (K : Preserved 𝓢 P) where
  pub closed_throughout : (T : ℕ) (s : 𝓢.Set) (hs : List (Held 𝓢.Set)) → P s → AfterEach P hs → Throughout P (closed p 𝓢 T s hs)
  unfolding closed
  closed_throughout T s [] a done = record { before = a; held = done }
  closed_throughout T s (h ∷ hs) a (also b r) = go (is_open p T h.line) (closed_throughout T h.after hs b r)
    where
      go : (t : Bool) → Throughout P (closed p 𝓢 T h.after hs)
          → Throughout P (cond t (record { before = s; held = h ∷ hs }) (closed p 𝓢 T h.after hs))
      go true q = record { before = a; held = also b r }
      go false q = q

  pub appended_throughout : (x : Line) (s : 𝓢.Set) (hs : List (Held 𝓢.Set)) → P s → AfterEach P hs → AfterEach P (appended p 𝓢 x s hs)
  unfolding appended
  appended_throughout x s [] a done = also (K.move s x a) done
  appended_throughout x s (h ∷ hs) a (also b r) = also b (appended_throughout x h.after hs b r)

  swept_one_throughout : (y : Line) (s : 𝓢.Set) (h : Held 𝓢.Set) → P s → P h.after → P (swept_one p 𝓢 y s h)
  swept_one_throughout y s h a b = K.join _ _ (go (leb (h.line.stamp + 2 * p.LB) y.stamp)) (K.move s h.line a)
    where
      go : (t : Bool) → P (cond t (𝓢.move h.after y) 𝓢.none)
      go true = K.move h.after y b
      go false = K.none

  pub swept_throughout : (y : Line) (s : 𝓢.Set) (hs : List (Held 𝓢.Set)) → P s → AfterEach P hs → AfterEach P (swept p 𝓢 y s hs)
  unfolding swept
  swept_throughout y s [] a done = done
  swept_throughout y s (h ∷ hs) a (also b r) = let c = swept_one_throughout y s h a b in also c (swept_throughout y (swept_one p 𝓢 y s h) hs c r)

  next_throughout : (a : Action) (l : Line) (f : Front 𝓢.Set) → Throughout P f → Throughout P (front_next p 𝓢 a l f)
  next_throughout (Action.input k) x f h = record { before = h.before; held = appended_throughout x f.before f.held h.before h.held }
  next_throughout (Action.output k) y f h =
      let c = K.move f.before y h.before in record { before = c; held = swept_throughout y (𝓢.move f.before y) f.held c h.held }

  -- after one more line
  pub with_throughout : (f : Front 𝓢.Set) (l : Line) → Throughout P f → Throughout P (front_with p 𝓢 f l)
  with_throughout f l h =
      next_throughout l.action l (closed p 𝓢 l.stamp f.before f.held) (closed_throughout l.stamp f.before f.held h.before h.held)

  pub fresh_throughout : Throughout P (fresh_front p 𝓢)
  fresh_throughout = record { before = K.start; held = done }

  pub none_throughout : Throughout P (no_front p 𝓢)
  none_throughout = record { before = K.none; held = done }
