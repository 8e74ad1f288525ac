-- The step over a front, by its places: what closing leaves, where the sweep and a new input put their sets, and how many are held.
use Prim.Native.Nat.{ℕ, zero, suc, ◌+◌, ◌-◌, ◌≤◌, ◌<◌}
use mathlib.Core.Path.{◌≡◌, refl, sym, ap, ap₂, ◌∙◌}
use mathlib.Core.Bool.{Bool, true, false, cond}
use mathlib.Core.List.{List, [], ◌∷◌, ◌++◌, map}
use native.Mathlib.Nat.{zero-add, suc-add}
use native.Mathlib.Omega.{arith}
use lib.ListN.{length}
use Rattle.laws.specs.Places.{first}
use Rattle.laws.proofs.Places.{first-same}
use Rattle.meaning.specs.Limits.{most_open}
use Rattle.meaning.specs.Words.{Action, Property, Line}
use Rattle.meaning.specs.Calls.{is_open}
use Rattle.meaning.specs.Step.{Sets, Held, Front, last_set, closed, appended, swept_one, swept, front_next, front_with, fresh_front, verdict_of, front_verdict}
use Rattle.meaning.specs.Fronts.{held_by, front_by, front_from}

-- the lines of the inputs held
abbrev pub lines : {Set : Type 0} → List (Held Set) → List Line
lines {Set} hs = map (λ (h : Held Set). h.line) hs

abbrev front : {Set : Type 0} → Set → List (Held Set) → Front Set
front s hs = record { before = s; held = hs }

abbrev held : {Set : Type 0} → Line → Set → Held Set
held l s = record { line = l; after = s }

-- the places in use decide
pub front_same : {Set : Type 0} (L L' : ℕ → Line) (S S' : ℕ → Set) (n : ℕ) → ((i : ℕ) → i < n → L i ≡ L' i) → ((i : ℕ) → i ≤ n → S i ≡ S' i)
    → front_by L S n ≡ front_by L' S' n
front_same L L' S S' n l s =
    ap₂ front (s 0 (omega arith)) (first-same (held_by L S) (held_by L' S') n (λ i h. ap₂ held (l i h) (s (suc i) (omega arith))))

module _ (p : Property) (𝓢 : Sets) where
  pub last_set-first : (L : ℕ → Line) (S : ℕ → 𝓢.Set) (n : ℕ) → last_set p 𝓢 (S 0) (first (held_by L S) n) ≡ S n
  unfolding last_set first
  last_set-first L S zero = refl
  last_set-first L S (suc n) = last_set-first (λ i. L (suc i)) (λ i. S (suc i)) n

  -- the verdict is that of the last set
  pub verdict_by : (L : ℕ → Line) (S : ℕ → 𝓢.Set) (n : ℕ)
      → front_verdict p 𝓢 (front_by L S n) ≡ verdict_of p 𝓢 (𝓢.some_broken (S n)) (𝓢.some_unbroken (S n))
  verdict_by L S n = ap (λ (s : 𝓢.Set). verdict_of p 𝓢 (𝓢.some_broken s) (𝓢.some_unbroken s)) (last_set-first L S n)

  -- The first d have closed, and the next one is open.
  pub closed-first : (T : ℕ) (L : ℕ → Line) (S : ℕ → 𝓢.Set) (d n : ℕ) → d ≤ n
      → ((i : ℕ) → i < d → is_open p T (L i) ≡ false) → (d < n → is_open p T (L d) ≡ true)
      → closed p 𝓢 T (S 0) (first (held_by L S) n) ≡ front_from L S d (n - d)
  unfolding closed first
  closed-first T L S zero zero h c o = refl
  closed-first T L S zero (suc n) h c o =
      ap (λ (b : Bool). cond b (front (S 0) (first (held_by L S) (suc n))) (closed p 𝓢 T (S 1) (first (λ i. held_by L S (suc i)) n))) (o (omega arith))
      ∙ ap (front (S 0))
      (first-same (held_by L S) (λ i. held_by L S (0 + i)) (suc n) (λ i l. ap (held_by L S) (sym (zero-add i)))
      ∙ ap (first (λ i. held_by L S (0 + i))) (let e : suc n ≡ suc n - 0 = omega arith in e))
  closed-first T L S (suc d) zero h c o = let w : ⊥ = omega arith in absurd w
  closed-first T L S (suc d) (suc n) h c o =
      ap (λ (b : Bool). cond b (front (S 0) (first (held_by L S) (suc n))) (closed p 𝓢 T (S 1) (first (λ i. held_by L S (suc i)) n))) (c zero (omega arith))
      ∙ closed-first T (λ i. L (suc i)) (λ i. S (suc i)) d n (omega arith) (λ i l. c (suc i) (omega arith)) (λ l. o (omega arith))
      ∙ ap (front (S (suc d)))
      (first-same (λ i. held_by L S (suc (d + i))) (λ i. held_by L S (suc d + i)) (n - d) (λ i l. ap (held_by L S) (sym (suc-add d i)))
      ∙ ap (first (λ i. held_by L S (suc d + i))) (let e : n - d ≡ suc n - suc d = omega arith in e))

  -- A new input stands behind the others.
  pub appended-first : (x : Line) (L : ℕ → Line) (S : ℕ → 𝓢.Set) (F : ℕ → Held 𝓢.Set) (n : ℕ)
      → ((i : ℕ) → i < n → held_by L S i ≡ F i) → record { line = x; after = 𝓢.move (S n) x } ≡ F n
      → appended p 𝓢 x (S 0) (first (held_by L S) n) ≡ first F (suc n)
  unfolding appended first
  appended-first x L S F zero a l = ap (λ (h : Held 𝓢.Set). h ∷ []) l
  appended-first x L S F (suc n) a l =
      ap₂ ◌∷◌ (a zero (omega arith))
      (appended-first x (λ i. L (suc i)) (λ i. S (suc i)) (λ i. F (suc i)) n (λ i k. a (suc i) (omega arith)) l)

  pub input_by : (k : ℕ) (x : Line) (L L' : ℕ → Line) (S S' : ℕ → 𝓢.Set) (n : ℕ)
      → ((i : ℕ) → i < n → L i ≡ L' i) → x ≡ L' n → ((i : ℕ) → i ≤ n → S i ≡ S' i) → 𝓢.move (S n) x ≡ S' (suc n)
      → front_next p 𝓢 (Action.input k) x (front_by L S n) ≡ front_by L' S' (suc n)
  input_by k x L L' S S' n l x-last s m =
      ap₂ front (s 0 (omega arith))
      (appended-first x L S (held_by L' S') n (λ i h. ap₂ held (l i h) (s (suc i) (omega arith))) (ap₂ held x-last m))

  -- An output moves the first set, and each next set comes of the new one before it.
  swept_by : (y : Line) (H : ℕ → Held 𝓢.Set) (S : ℕ → 𝓢.Set) (n : ℕ) (s : 𝓢.Set) → s ≡ S 0
      → ((i : ℕ) → i < n → swept_one p 𝓢 y (S i) (H i) ≡ S (suc i))
      → swept p 𝓢 y s (first H n) ≡ first (λ i. held (H i).line (S (suc i))) n
  unfolding swept first
  swept_by y H S zero s e h = refl
  swept_by y H S (suc n) s e h =
      let q : swept_one p 𝓢 y s (H 0) ≡ S 1 = ap (λ (r : 𝓢.Set). swept_one p 𝓢 y r (H 0)) e ∙ h 0 (omega arith) in
      ap₂ ◌∷◌ (ap (held (H 0).line) q)
      (swept_by y (λ i. H (suc i)) (λ i. S (suc i)) n (swept_one p 𝓢 y s (H 0)) q (λ i k. h (suc i) (omega arith)))

  -- The sets of the cuts after an output: the first is given, and each next one comes of the one before.
  unfoldable pub swept-set : Line → 𝓢.Set → (ℕ → Held 𝓢.Set) → ℕ → 𝓢.Set
  swept-set y s H zero = s
  swept-set y s H (suc i) = swept_one p 𝓢 y (swept-set y s H i) (H i)

  pub swept-first : (y : Line) (s : 𝓢.Set) (H : ℕ → Held 𝓢.Set) (n : ℕ)
      → swept p 𝓢 y s (first H n) ≡ first (λ i. record { line = (H i).line; after = swept-set y s H (suc i) }) n
  unfolding swept-set
  swept-first y s H n = swept_by y H (swept-set y s H) n s refl (λ i h. refl)

  -- How many are held after a line.
  length-swept : (y : Line) (s : 𝓢.Set) (l : List (Held 𝓢.Set)) → length (swept p 𝓢 y s l) ≡ length l
  unfolding swept
  length-swept y s [] = refl
  length-swept y s (h ∷ l) = ap suc (length-swept y (swept_one p 𝓢 y s h) l)

  length-appended : (x : Line) (s : 𝓢.Set) (l : List (Held 𝓢.Set)) → length (appended p 𝓢 x s l) ≡ suc (length l)
  unfolding appended
  length-appended x s [] = refl
  length-appended x s (h ∷ l) = ap suc (length-appended x h.after l)

  pub open_after_output : (k : ℕ) (y : Line) (f g : Front 𝓢.Set) → f ≡ g
      → length g.held ≡ length (front_next p 𝓢 (Action.output k) y f).held
  open_after_output k y f g e = sym (length-swept y _ f.held ∙ ap (λ (h : Front 𝓢.Set). length h.held) e)

  pub open_after_input : (k : ℕ) (x : Line) (f g : Front 𝓢.Set) → f ≡ g
      → suc (length g.held) ≡ length (front_next p 𝓢 (Action.input k) x f).held
  open_after_input k x f g e = sym (length-appended x f.before f.held ∙ ap (λ (h : Front 𝓢.Set). suc (length h.held)) e)

  -- the first line of a run holds at most itself
  one-first : (a : Action) (T : ℕ) → length (front_with p 𝓢 (fresh_front p 𝓢) (record { action = a; stamp = T })).held ≤ 1
  unfolding closed appended swept
  one-first (Action.input k) T = omega arith
  one-first (Action.output k) T = omega arith

  pub few-first : (a : Action) (T : ℕ) → length (front_with p 𝓢 (fresh_front p 𝓢) (record { action = a; stamp = T })).held ≤ most_open
  few-first a T = omega (arith, one-first a T)

  -- Which are held after a line.
  pub swept_lines : (y : Line) (s : 𝓢.Set) (hs : List (Held 𝓢.Set)) → lines (swept p 𝓢 y s hs) ≡ lines hs
  unfolding swept
  swept_lines y s [] = refl
  swept_lines y s (h ∷ hs) = ap (λ (l : List Line). h.line ∷ l) (swept_lines y (swept_one p 𝓢 y s h) hs)

  pub appended-lines : (x : Line) (s : 𝓢.Set) (hs : List (Held 𝓢.Set)) → lines (appended p 𝓢 x s hs) ≡ lines hs ++ x ∷ []
  unfolding appended
  appended-lines x s [] = refl
  appended-lines x s (h ∷ hs) = ap (λ (l : List Line). h.line ∷ l) (appended-lines x h.after hs)
