-- Each promise determines the whole answer: two results allowed by it are equal.
use Prim.Native.Nat.{ℕ}
use mathlib.Core.Path.{◌≡◌, refl, sym, ◌∙◌, ap}
use mathlib.Core.List.{List}
use native.Mathlib.Omega.{arith}
use denote.Ref.{Bor}
use Rattle.fields.specs.Rest.{Rest}
use Rattle.fields.proofs.Determined.{rest_determined}
use Rattle.outcomes.proofs.Same.{same_refusal}
use Rattle.session_record.specs.declared.Session.{Session}
use Rattle.walk.specs.declared.Walked.{Walked}
use Rattle.walk.specs.declared.Stop.{Stop}
use Rattle.walk.specs.declared.Stop.TheVariants.{Budget, End, Refused}
use Rattle.walk.specs.Walk.{Walking, stop_in, stop_number, stop_refusal, in_numbers, walk_of}

-- an answer is told by its numbers
stop-told : (a b : Stop) → stop_number (stop_in a) ≡ stop_number (stop_in b) → stop_refusal (stop_in a) ≡ stop_refusal (stop_in b) → a ≡ b
stop-told Budget Budget e f = refl
stop-told Budget End e f = let z : ⊥ = omega arith in absurd z
stop-told Budget (Refused n) e f = let z : ⊥ = omega arith in absurd z
stop-told End Budget e f = let z : ⊥ = omega arith in absurd z
stop-told End End e f = refl
stop-told End (Refused n) e f = let z : ⊥ = omega arith in absurd z
stop-told (Refused m) Budget e f = let z : ⊥ = omega arith in absurd z
stop-told (Refused m) End e f = let z : ⊥ = omega arith in absurd z
stop-told (Refused m) (Refused n) e f = ap Refused (same_refusal m n f)

pub walk_determined : (s : Session) (bytes : List ℕ) (budget : ℕ) (r t : Walked) → in_numbers r ≡ walk_of s bytes budget → in_numbers t ≡ walk_of s bytes budget → r ≡ t
walk_determined s bytes budget r t e f =
    let same = e ∙ sym f in
    let stop = stop-told r.stop t.stop (ap (λ (w : Walking). w.stop) same) (ap (λ (w : Walking). w.refusal) same) in
    λ i. record { taken = (same i).taken; stop = stop i; read = (same i).read; lost = (same i).lost; session = (same i).session }

-- Two rests are the same bytes in the same place.
pub walk_rest_determined : {n : ℕ} {s r t : Bor (List ℕ)} → Rest n s r → Rest n s t → (r.ref_ptr ≡ t.ref_ptr) × (r.now ≡ t.now)
walk_rest_determined = rest_determined
