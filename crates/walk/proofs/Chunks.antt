-- Callers feed long logs in chunks: two calls of the walk, one behind the other, are one.
use Prim.Native.Nat.{ℕ, zero, suc, ◌+◌, ◌≤◌}
use mathlib.Core.Path.{◌≡◌, sym, ◌∙◌, ap, subst}
use mathlib.Core.Bool.{Bool, false, cond}
use mathlib.Core.List.{List}
use native.Mathlib.Omega.{arith}
use lib.ListN.{drop}
use borrow.Author.Tests.{le-ltb}
use Rattle.meaning.specs.Calls.{Call}
use Rattle.session_record.specs.declared.Session.{Session}
use Rattle.session_record.specs.Record.{out_of_range}
use Rattle.session_record.proofs.Steps.{stays_in_range}
use Rattle.walk.specs.Walk.{Stopping, Walk, Walking, stop_number, stop_refusal, walk_on, last_lost, some_gap, walk_answer, budget_of, walk_of}
use Rattle.walk.proofs.Steps.{Steps, none, more, walk_exactly, then, GoesOn, two_walks, spaced}
use Rattle.walk.proofs.Lost.{last-append, last_by_gap}
use Rattle.walk.proofs.Going.{walk-taken}

-- single steps lead from a record in range to one in range
steps_stay : {s last : Session} {cs : List Call} → Steps s cs last → out_of_range s ≡ false → out_of_range last ≡ false
steps_stay none h = h
steps_stay (more {s = s} {c = c} one rest) h = steps_stay rest (ap out_of_range one.steps ∙ stays_in_range s h c)

-- The session that a walk gives back is in range if the one given was.
pub walk_stays : (budget : ℕ) (s : Session) (bytes : List ℕ) → out_of_range s ≡ false → out_of_range (walk_on budget s bytes).session ≡ false
walk_stays budget s bytes h = steps_stay (walk_exactly budget s bytes).steps h

within : (b : ℕ) → b ≤ 4_096 → budget_of b ≡ b
within b h = ap (λ (t : Bool). cond t 4_096 b) (le-ltb 4_096 b h)

-- The first walk's numbers before the second's. The last gap's number of lost lines is the second's if it took a gap, else the first's.
abbrev pub and_then : (took-a-gap : Bool) → Walking → Walking → Walking
and_then took-a-gap v w =
    record {
      taken = v.taken + w.taken;
      stop = w.stop;
      refusal = w.refusal;
      read = v.read + w.read;
      lost = cond took-a-gap w.lost v.lost;
      session = w.session;
    }

-- A second walk goes on after a first that stopped at its budget (0), or, with a budget of its own, at a refusal (2).
abbrev pub GoesOnBy : ℕ → ℕ → Type 0
GoesOnBy zero second = Unit {0}
GoesOnBy (suc zero) second = ⊥
GoesOnBy (suc (suc other)) second = 1 ≤ second

goes_on : (stop : Stopping) (second : ℕ) → GoesOnBy (stop_number stop) second → GoesOn stop second
goes_on Stopping.at_budget second h = tt
goes_on Stopping.at_end second h = h
goes_on (Stopping.at_refusal n) second h = h

-- A walk that stopped at its budget or at a refusal, followed by a walk over its rest, is the one walk of the two budgets.
pub chunks : (b₁ b₂ : ℕ) (s : Session) (bytes : List ℕ) → b₁ + b₂ ≤ 4_096 → out_of_range s ≡ false → GoesOnBy (walk_of s bytes b₁).stop b₂
    → let v : Walking = walk_of s bytes b₁ in
    let w : Walking = walk_of v.session (drop v.read bytes) b₂ in
    walk_of s bytes (b₁ + b₂) ≡ and_then (some_gap w.taken (drop v.read bytes)) v w
chunks b₁ b₂ s bytes few h g =
    is (b₁ + b₂) few s bytes h
    ∙ ap (walk_answer bytes) (two_walks b₁ b₂ s bytes on)
    ∙ joined
    ∙ ap (λ (w : Walking). and_then (some_gap w.taken (drop v.read bytes)) (walk_answer bytes v) w)
    (sym (is b₂ (omega arith) v.session (drop v.read bytes) (walk_stays b₁ s bytes h)))
    ∙ ap (λ (x : Walking).
    and_then (some_gap (walk_of x.session (drop x.read bytes) b₂).taken (drop x.read bytes)) x (walk_of x.session (drop x.read bytes) b₂)) (sym first)
  where
    v : Walk
    v = walk_on b₁ s bytes

    is : (b : ℕ) → b ≤ 4_096 → (x : Session) (l : List ℕ) → out_of_range x ≡ false → walk_of x l b ≡ walk_answer l (walk_on b x l)
    is b k x l e = walk-taken x l b e ∙ ap (λ (n : ℕ). walk_answer l (walk_on n x l)) (within b k)

    first : walk_of s bytes b₁ ≡ walk_answer bytes (walk_on b₁ s bytes)
    first = is b₁ (omega arith) s bytes h

    on : GoesOn v.stop b₂
    on = goes_on v.stop b₂ (subst (λ (w : Walking). GoesOnBy w.stop b₂) first g)

    w₂ : Walk
    w₂ = walk_on b₂ v.session (drop v.read bytes)

    joined : walk_answer bytes (then v w₂) ≡ and_then (some_gap w₂.taken (drop v.read bytes)) (walk_answer bytes v) (walk_answer (drop v.read bytes) w₂)
    joined =
        let lost : last_lost 0 (v.taken + w₂.taken) bytes ≡ last_lost (last_lost 0 v.taken bytes) w₂.taken (drop v.read bytes) =
        last-append 0 v.taken w₂.taken bytes
        ∙ ap (λ (k : ℕ). last_lost (last_lost 0 v.taken bytes) w₂.taken (drop k bytes)) (sym (spaced b₁ b₂ s bytes on)) in
        ap (λ (n : ℕ).
        record {
          taken = v.taken + w₂.taken;
          stop = stop_number w₂.stop;
          refusal = stop_refusal w₂.stop;
          read = v.read + w₂.read;
          lost = n;
          session = w₂.session;
        }) (lost ∙ last_by_gap (last_lost 0 v.taken bytes) w₂.taken (drop v.read bytes))
