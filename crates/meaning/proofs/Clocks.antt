-- The clock of a session: which of the three a line taken comes to, and what stands while a run is open and while blind.
use Prim.Native.Nat.{ℕ}
use mathlib.Core.Path.{◌≡◌, refl, ap}
use mathlib.Core.Bool.{Bool, true, false, cond}
use mathlib.Core.List.{[]}
use Rattle.meaning.specs.Words.{Property, Run}
use Rattle.meaning.specs.Calls.{Clock, Watch, beyond, by_time}
use Rattle.meaning.specs.Step.{Sets, Front, Cuts, no_front}

-- the same stamps, blind or not
abbrev pub blind_if : Bool → Clock → Clock
blind_if b k = record { latest = k.latest; is_blind = b }

pub blind_is : (k : Clock) {b : Bool} → k.is_blind ≡ b → k ≡ blind_if b k
blind_is k e = ap (λ (b : Bool). blind_if b k) e

abbrev pub open_watch : Run → Clock → Watch
open_watch run k = record { clock = blind_if false k; run = run }

abbrev pub blind_watch : Clock → Watch
blind_watch k = record { clock = blind_if true k; run = [] }

abbrev pub open_cuts : {Set : Type 0} → Front Set → Clock → Cuts Set
open_cuts f k = record { clock = blind_if false k; front = f }

abbrev pub blind-cuts : (p : Property) (𝓢 : Sets) → Clock → Cuts 𝓢.Set
blind-cuts p 𝓢 k = record { clock = blind_if true k; front = no_front p 𝓢 }

module _ {A : Type 0} (p : Property) (k : Clock) (T : ℕ) (first skipped next : A) where
  -- which of the three, by the two tests: with true and true this is the first, with true and false the skipped one, with false the next
  pub by_time_is : {b far : Bool} → k.is_blind ≡ b → beyond p k T ≡ far → by_time p k T first skipped next ≡ cond b (cond far first skipped) next
  by_time_is e f = λ i. cond (e i) (cond (f i) first skipped) next

  -- what is so of each is so of the one that it comes to
  pub by_time_each : (P : A → Type 0)
      → (k.is_blind ≡ true → beyond p k T ≡ true → P first)
      → (k.is_blind ≡ true → beyond p k T ≡ false → P skipped)
      → (k.is_blind ≡ false → P next)
      → P (by_time p k T first skipped next)
  by_time_each P on-first on-skipped on_next = go k.is_blind (beyond p k T) refl refl
    where
      go : (b far : Bool) → k.is_blind ≡ b → beyond p k T ≡ far → P (cond b (cond far first skipped) next)
      go true true e f = on-first e f
      go true false e f = on-skipped e f
      go false far e f = on_next e
