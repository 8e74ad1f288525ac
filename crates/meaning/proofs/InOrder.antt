-- The inputs held are in their order: each is an input, their stamps never fall, and none is past the latest. A step keeps that.
use Prim.Native.Nat.{ℕ, zero, suc, ◌≤◌, ◌<◌}
use mathlib.Core.Path.{◌≡◌, refl, sym, ap}
use mathlib.Core.Bool.{Bool, true, false, cond}
use mathlib.Core.List.{List, [], ◌∷◌}
use native.Mathlib.Omega.{arith}
use lib.ListN.{length, get_or}
use Rattle.laws.specs.Places.{first}
use Rattle.meaning.specs.Words.{Action, Property, Line}
use Rattle.meaning.specs.Calls.{is_open}
use Rattle.meaning.specs.Step.{Sets, Held, Front, closed, appended, swept, swept_one, front_with}
use Rattle.meaning.proofs.Lists.{All, done, also}
use Rattle.meaning.proofs.Channels.{In}

-- a held input that stands for nothing, where a list has ended
abbrev pub nothing : {Set : Type 0} → Set → Held Set
nothing s = record { line = record { action = Action.input 0; stamp = 0 }; after = s }

-- by their places; d stands where the list has ended
abbrev pub stamp_at : {Set : Type 0} → Held Set → List (Held Set) → ℕ → ℕ
stamp_at d hs i = (get_or hs i d).line.stamp

-- from a stamp on, up to the latest
pub data InOrder {Set : Type 0} : ℕ → List (Held Set) → ℕ → Type 0 where
  ended : {t e : ℕ} → t ≤ e → InOrder t [] e
  then : {t e : ℕ} {h : Held Set} {hs : List (Held Set)} → In h.line → t ≤ h.line.stamp → InOrder h.line.stamp hs e → InOrder t (h ∷ hs) e

module _ {Set : Type 0} where
  order_from : {s t e : ℕ} {hs : List (Held Set)} → s ≤ t → InOrder t hs e → InOrder s hs e
  order_from {s} {t} {e} h (ended l) = ended {t = s} {e = e} (omega arith)
  order_from {s} h (then {h = x} i l o) = then {t = s} {h = x} i (omega arith) o

  pub order_to : {t e e' : ℕ} {hs : List (Held Set)} → e ≤ e' → InOrder t hs e → InOrder t hs e'
  order_to {t} {e} {e'} h (ended l) = ended {t = t} {e = e'} (omega arith)
  order_to h (then i l o) = then i l (order_to h o)

  order-ends : {t e : ℕ} {hs : List (Held Set)} → InOrder t hs e → t ≤ e
  order-ends (ended l) = l
  order-ends (then i l o) = omega (arith, order-ends o)

  pub order-inputs : {t e : ℕ} {hs : List (Held Set)} → InOrder t hs e → All (λ (h : Held Set). In h.line) hs
  order-inputs (ended l) = done
  order-inputs (then i l o) = also i (order-inputs o)

  pub order-next : (d : Held Set) {t e : ℕ} {hs : List (Held Set)} → InOrder t hs e → (i : ℕ) → suc i < length hs
      → stamp_at d hs i ≤ stamp_at d hs (suc i)
  order-next d (ended l) i h = let z : ⊥ = omega arith in absurd z
  order-next d (then a l (ended k)) i h = let z : ⊥ = omega arith in absurd z
  order-next d (then a l (then b k o)) zero h = k
  order-next d (then a l (then b k o)) (suc i) h = order-next d (then b k o) i (omega arith)

  pub order-within : (d : Held Set) {t e : ℕ} {hs : List (Held Set)} → InOrder t hs e → (i : ℕ) → i < length hs → stamp_at d hs i ≤ e
  order-within d (ended l) i h = let z : ⊥ = omega arith in absurd z
  order-within d (then a l o) zero h = order-ends o
  order-within d (then a l o) (suc i) h = order-within d o i (omega arith)

  -- given by places
  pub order-first : (f : ℕ → Held Set) (t n e : ℕ) → ((i : ℕ) → In (f i).line)
      → (n ≡ 0 → t ≤ e) → (0 < n → t ≤ (f 0).line.stamp)
      → ((i : ℕ) → suc i < n → (f i).line.stamp ≤ (f (suc i)).line.stamp)
      → ((i : ℕ) → suc i ≡ n → (f i).line.stamp ≤ e)
      → InOrder t (first f n) e
  unfolding first
  order-first f t zero e ins none low rise last = ended (none refl)
  order-first f t (suc n) e ins none low rise last =
      then (ins 0) (low (omega arith))
      (order-first (λ i. f (suc i)) (f 0).line.stamp n e (λ i. ins (suc i)) (λ z. last 0 (ap suc (sym z))) (λ h. rise 0 (omega arith))
      (λ i h. rise (suc i) (omega arith)) (λ i h. last (suc i) (ap suc h)))

module _ (p : Property) (𝓢 : Sets) where
  pub order-closed : {t e : ℕ} (T : ℕ) (s : 𝓢.Set) (hs : List (Held 𝓢.Set)) → InOrder t hs e → InOrder t (closed p 𝓢 T s hs).held e
  unfolding closed
  order-closed T s [] (ended l) = ended l
  order-closed {t} {e} T s (h ∷ hs) (then i l o) = go (is_open p T h.line) (order-closed T h.after hs (order_from l o))
    where
      go : (b : Bool) → InOrder t (closed p 𝓢 T h.after hs).held e
          → InOrder t (cond b (record { before = s; held = h ∷ hs }) (closed p 𝓢 T h.after hs)).held e
      go true r = then {h = h} i l o
      go false r = r

  pub order-appended : {t e : ℕ} {hs : List (Held 𝓢.Set)} (x : Line) → In x → e ≤ x.stamp → (s : 𝓢.Set) → InOrder t hs e
      → InOrder t (appended p 𝓢 x s hs) x.stamp
  unfolding appended
  order-appended {t} x i h s (ended l) =
      then {t = t} {h = record { line = x; after = 𝓢.move s x }} i (omega arith) (ended {t = x.stamp} {e = x.stamp} (omega arith))
  order-appended x i h s (then {h = y} a l o) = then {h = y} a l (order-appended x i h y.after o)

  pub order-swept : {t e : ℕ} {hs : List (Held 𝓢.Set)} (y : Line) (s : 𝓢.Set) → InOrder t hs e → InOrder t (swept p 𝓢 y s hs) e
  unfolding swept
  order-swept y s (ended l) = ended l
  order-swept y s (then {h = h} a l o) =
      then {h = record { line = h.line; after = swept_one p 𝓢 y s h }} a l (order-swept y (swept_one p 𝓢 y s h) o)

  -- after one more line, not stamped below the latest
  pub order-with : {t e : ℕ} (f : Front 𝓢.Set) (a : Action) (T : ℕ) → e ≤ T → InOrder t f.held e
      → InOrder t (front_with p 𝓢 f (record { action = a; stamp = T })).held T
  order-with f (Action.input k) T h o =
      order-appended (record { action = Action.input k; stamp = T }) tt h (closed p 𝓢 T f.before f.held).before
      (order-closed T f.before f.held o)
  order-with f (Action.output k) T h o =
      let y : Line = record { action = Action.output k; stamp = T } in
      order-swept y _ (order_to h (order-closed T f.before f.held o))
