-- A walk is exactly as many single steps as it took, two walks one behind the other are one, and the rest stands behind what was read.
use Prim.Native.Nat.{ℕ, zero, suc, ◌+◌, ◌*◌, ◌≤◌, ◌<◌}
use mathlib.Core.Path.{◌≡◌, refl, sym, ◌∙◌, ap, subst}
use mathlib.Core.Bool.{Bool, true, false, cond, not}
use mathlib.Core.List.{List, [], ◌∷◌}
use native.Mathlib.Omega.{arith}
use lib.ListN.{length, drop, length-drop}
use lib.Dec.{T, leb, leb→le, nleb→lt}
use lib.Seq.{drop-drop}
use borrow.Author.Tests.{le-ltb}
use Rattle.meaning.specs.Calls.{Call}
use Rattle.record_form.specs.Record.{record_size, record_answer}
use Rattle.trace_form.specs.ReadAs.{ReadAs, read_as}
use Rattle.trace_form.proofs.ReadAs.{short_read}
use Rattle.session_record.specs.declared.Session.{Session}
use Rattle.session_record.specs.Record.{latest_of, out_of_range}
use Rattle.session_record.specs.Step.{stepped_of}
use Rattle.walk.specs.Walk.{Stopping, Walk, One, one_call, one_read, one_of, stopped, one_more, walked_by, walk_on, walk_answer, budget_of, walk_of, rest_start}

-- ---- single steps

-- What is taken is a call that the session takes, and the session after it is that of the single step.
pub record IsStep (s : Session) (c : Call) (after : Session) : Type 0 where
  pub taken : (stepped_of s c).answer.refusal ≡ 0
  pub steps : after ≡ (stepped_of s c).session

-- calls that are taken one after the other, with the session after all
pub data Steps : Session → List Call → Session → Type 0 where
  none : {s : Session} → Steps s [] s
  more : {s after last : Session} {c : Call} {cs : List Call} → IsStep s c after → Steps after cs last → Steps s (c ∷ cs) last

-- a record that is taken is a single step
abbrev pub StepOf : Session → One → Type 0
StepOf s One.ended = Unit {0}
StepOf s (One.refused n) = Unit {0}
StepOf s (One.took c after) = IsStep s c after

call_step : (s : Session) (c : Call) (n : ℕ) → (stepped_of s c).answer.refusal ≡ n → StepOf s (one_call s c n)
unfolding one_call
call_step s c zero e = record { taken = e; steps = refl }
call_step s c (suc n) e = tt

pub one_step : (s : Session) (bytes : List ℕ) → StepOf s (one_of s bytes)
one_step s bytes = go (read_as (record_answer bytes (latest_of s)))
  where
    go : (x : ReadAs) → StepOf s (one_read s x)
    go (ReadAs.call c) = unfold one_read in (call_step s c _ refl)
    go ReadAs.end = unfold one_read in tt
    go (ReadAs.refused n) = unfold one_read in tt

-- The number taken is the number of single steps, at most the budget, and the session is theirs.
pub record Exactly (budget : ℕ) (s : Session) (w : Walk) : Type 0 where
  pub calls : List Call
  pub steps : Steps s calls w.session
  pub counted : w.taken ≡ length calls
  pub within : w.taken ≤ budget

by_steps : (budget : ℕ) (s : Session) (o : One) → StepOf s o → (f : Session → Walk) → ((after : Session) → Exactly budget after (f after))
    → Exactly (suc budget) s (walked_by o s f)
unfolding walked_by
by_steps budget s One.ended h f k = record { calls = []; steps = none; counted = refl; within = omega arith }
by_steps budget s (One.refused n) h f k = record { calls = []; steps = none; counted = refl; within = omega arith }
by_steps budget s (One.took c after) h f k =
    let e : Exactly budget after (f after) = k after in
    record { calls = c ∷ e.calls; steps = more h e.steps; counted = ap suc e.counted; within = omega (arith, e.within) }

pub walk_exactly : (budget : ℕ) (s : Session) (bytes : List ℕ) → Exactly budget s (walk_on budget s bytes)
unfolding walk_on
walk_exactly zero s bytes = record { calls = []; steps = none; counted = refl; within = omega arith }
walk_exactly (suc budget) s bytes =
    by_steps budget s (one_of s bytes) (one_step s bytes) (λ after. walk_on budget after (drop record_size bytes))
    (λ after. walk_exactly budget after (drop record_size bytes))

-- ---- two walks

-- the first walk's numbers before the second's
abbrev pub then : Walk → Walk → Walk
then v w = record { taken = v.taken + w.taken; stop = w.stop; read = v.read + w.read; session = w.session }

-- How the second walk stops after a first that stopped so.
abbrev pub GoesOn : Stopping → ℕ → Type 0
GoesOn Stopping.at_budget second = Unit {0}
GoesOn Stopping.at_end second = ⊥
GoesOn (Stopping.at_refusal n) second = 1 ≤ second

one_more_then : (v w : Walk) → one_more (then v w) ≡ then (one_more v) w
one_more_then v w =
    let t : suc (v.taken + w.taken) ≡ suc v.taken + w.taken = omega arith in
    let r : record_size + (v.read + w.read) ≡ record_size + v.read + w.read = omega arith in
    λ i. record { taken = t i; stop = w.stop; read = r i; session = w.session }

refused_is : (n : ℕ) (s : Session) (f : Session → Walk) → walked_by (One.refused n) s f ≡ stopped s (Stopping.at_refusal n) 0
unfolding walked_by
refused_is n s f = refl

nothing_then : (s : Session) (stop : Stopping) (w : Walk) → w ≡ then (stopped s stop 0) w
nothing_then s stop w =
    let t : w.taken ≡ 0 + w.taken = omega arith in
    let r : w.read ≡ 0 + w.read = omega arith in
    λ i. record { taken = t i; stop = w.stop; read = r i; session = w.session }

-- A walk that stopped at its budget or at a refusal, followed by a walk over its rest, is the one walk of the two budgets.
pub two_walks : (b₁ b₂ : ℕ) (s : Session) (bytes : List ℕ) → GoesOn (walk_on b₁ s bytes).stop b₂
    → walk_on (b₁ + b₂) s bytes
    ≡ then (walk_on b₁ s bytes) (walk_on b₂ (walk_on b₁ s bytes).session (drop (walk_on b₁ s bytes).read bytes))
unfolding walk_on
two_walks zero b₂ s bytes g =
    let e : 0 + b₂ ≡ b₂ = omega arith in ap (λ (b : ℕ). walk_on b s bytes) e ∙ nothing_then s Stopping.at_budget (walk_on b₂ s bytes)
two_walks (suc b₁) b₂ s bytes g =
    ap (λ (b : ℕ). walk_on b s bytes) sum-suc
    ∙ go (one_of s bytes) refl g (λ after k. two_walks b₁ b₂ after (drop record_size bytes) k)
  where
    sum-suc : suc b₁ + b₂ ≡ suc (b₁ + b₂)
    sum-suc = omega arith

    again : (n b : ℕ) → 1 ≤ b → one_of s bytes ≡ One.refused n → walk_on b s bytes ≡ stopped s (Stopping.at_refusal n) 0
    again n zero h e = let z : ⊥ = omega arith in absurd z
    again n (suc b) h e = ap (λ (o : One). walked_by o s (λ after. walk_on b after (drop record_size bytes))) e ∙ refused_is n s (λ after. walk_on b after (drop record_size bytes))

    go : (o : One) → one_of s bytes ≡ o
        → GoesOn (walked_by o s (λ after. walk_on b₁ after (drop record_size bytes))).stop b₂
        → ((after : Session) → GoesOn (walk_on b₁ after (drop record_size bytes)).stop b₂
        → walk_on (b₁ + b₂) after (drop record_size bytes)
        ≡ then (walk_on b₁ after (drop record_size bytes))
        (walk_on b₂ (walk_on b₁ after (drop record_size bytes)).session (drop (walk_on b₁ after (drop record_size bytes)).read (drop record_size bytes))))
        → walked_by o s (λ after. walk_on (b₁ + b₂) after (drop record_size bytes))
        ≡ then (walked_by o s (λ after. walk_on b₁ after (drop record_size bytes)))
        (walk_on b₂ (walked_by o s (λ after. walk_on b₁ after (drop record_size bytes))).session
        (drop (walked_by o s (λ after. walk_on b₁ after (drop record_size bytes))).read bytes))
    go One.ended e k ih = absurd (unfold walked_by in k)
    go (One.refused n) e k ih = unfold walked_by in (nothing_then s (Stopping.at_refusal n) (stopped s (Stopping.at_refusal n) 0) ∙ ap (then (stopped s (Stopping.at_refusal n) 0)) (sym (again n b₂ (unfold walked_by in k) e)))
    go (One.took c after) e k ih =
        unfold walked_by in
        (ap one_more (ih after (unfold walked_by in k))
        ∙ one_more_then (walk_on b₁ after (drop record_size bytes)) _
        ∙ ap (λ (l : List ℕ). then (one_more (walk_on b₁ after (drop record_size bytes))) (walk_on b₂ (walk_on b₁ after (drop record_size bytes)).session l))
        (drop-drop (walk_on b₁ after (drop record_size bytes)).read record_size bytes))

-- A walk that another can go on from has read the records taken and no more.
pub spaced : (budget second : ℕ) (s : Session) (bytes : List ℕ) → GoesOn (walk_on budget s bytes).stop second
    → (walk_on budget s bytes).read ≡ record_size * (walk_on budget s bytes).taken
unfolding walk_on
spaced zero second s bytes g = refl
spaced (suc budget) second s bytes g = go (one_of s bytes) g (λ after. spaced budget second after (drop record_size bytes))
  where
    on : Session → Walk
    on after = walk_on budget after (drop record_size bytes)

    go : (o : One) → GoesOn (walked_by o s on).stop second → ((after : Session) → GoesOn (on after).stop second → (on after).read ≡ record_size * (on after).taken)
        → (walked_by o s on).read ≡ record_size * (walked_by o s on).taken
    go One.ended k ih = absurd (unfold walked_by in k)
    go (One.refused n) k ih = unfold walked_by in refl
    go (One.took c after) k ih = unfold walked_by in (omega (arith, ih after (unfold walked_by in k)))

-- ---- a budget of as many records as there are bytes

-- fewer bytes than a record are refused
short_refused : (s : Session) (bytes : List ℕ) → length bytes < record_size → one_of s bytes ≡ One.refused 7
unfolding one_read
short_refused s bytes h = ap (one_read s) (short_read bytes (latest_of s) h)

pub data NotBudget : Stopping → Type 0 where
  at_end : NotBudget Stopping.at_end
  at-refusal : (n : ℕ) → NotBudget (Stopping.at_refusal n)

-- With a budget of more records than the bytes can hold a walk stops at an end record or at a refusal.
pub budget_enough : (budget : ℕ) (s : Session) (bytes : List ℕ) → length bytes < record_size * budget → NotBudget (walk_on budget s bytes).stop
unfolding walk_on
budget_enough zero s bytes h = let z : ⊥ = omega arith in absurd z
budget_enough (suc budget) s bytes h = go (leb record_size (length bytes)) (leb→le record_size (length bytes)) (nleb→lt record_size (length bytes))
    (λ after k. budget_enough budget after (drop record_size bytes) k)
  where
    by_one : (o : One) → ((after : Session) → NotBudget (walk_on budget after (drop record_size bytes)).stop)
        → NotBudget (walked_by o s (λ after. walk_on budget after (drop record_size bytes))).stop
    by_one One.ended k = unfold walked_by in at_end
    by_one (One.refused n) k = unfold walked_by in at-refusal n
    by_one (One.took c after) k = unfold walked_by in k after

    go : (t : Bool) → (T t → record_size ≤ length bytes) → (T (not t) → length bytes < record_size)
        → ((after : Session) → length (drop record_size bytes) < record_size * budget → NotBudget (walk_on budget after (drop record_size bytes)).stop)
        → NotBudget (walked_by (one_of s bytes) s (λ after. walk_on budget after (drop record_size bytes))).stop
    go true y n k =
        let le : record_size ≤ length bytes = y tt in
        by_one (one_of s bytes) (λ after. k after (omega (arith, length-drop record_size bytes)))
    go false y n k =
        subst (λ (o : One). NotBudget (walked_by o s (λ after. walk_on budget after (drop record_size bytes))).stop) (sym (short_refused s bytes (n tt)))
        (unfold walked_by in at-refusal 7)

-- ---- the bytes read

-- A walk reads no more bytes than there are.
pub read-inside : (budget : ℕ) (s : Session) (bytes : List ℕ) → (walk_on budget s bytes).read ≤ length bytes
unfolding walk_on
read-inside zero s bytes = omega arith
read-inside (suc budget) s bytes = go (leb record_size (length bytes)) (leb→le record_size (length bytes)) (nleb→lt record_size (length bytes))
    (λ after. read-inside budget after (drop record_size bytes))
  where
    by_one : (o : One) → record_size ≤ length bytes
        → ((after : Session) → (walk_on budget after (drop record_size bytes)).read ≤ length (drop record_size bytes))
        → (walked_by o s (λ after. walk_on budget after (drop record_size bytes))).read ≤ length bytes
    by_one One.ended h k = unfold walked_by in h
    by_one (One.refused n) h k = unfold walked_by in (omega arith)
    by_one (One.took c after) h k = unfold walked_by in (omega (arith, k after, length-drop record_size bytes))

    go : (t : Bool) → (T t → record_size ≤ length bytes) → (T (not t) → length bytes < record_size)
        → ((after : Session) → (walk_on budget after (drop record_size bytes)).read ≤ length (drop record_size bytes))
        → (walked_by (one_of s bytes) s (λ after. walk_on budget after (drop record_size bytes))).read ≤ length bytes
    go true y n k = by_one (one_of s bytes) (y tt) k
    go false y n k =
        subst (λ (o : One). (walked_by o s (λ after. walk_on budget after (drop record_size bytes))).read ≤ length bytes) (sym (short_refused s bytes (n tt)))
        (unfold walked_by in (omega arith))

-- So the rest is what stands behind them, and never the whole slice in its place.
pub rest_behind : (s : Session) (bytes : List ℕ) (budget : ℕ) → rest_start (length bytes) (walk_of s bytes budget).read ≡ (walk_of s bytes budget).read
unfolding walk_of
rest_behind s bytes budget = le-start (out_of_range s)
  where
    le-start : (b : Bool) → rest_start (length bytes) (walk_answer bytes (cond b (stopped s (Stopping.at_refusal 10) 0) (walk_on (budget_of budget) s bytes))).read
        ≡ (walk_answer bytes (cond b (stopped s (Stopping.at_refusal 10) 0) (walk_on (budget_of budget) s bytes))).read
    le-start true = ap (λ (t : Bool). cond t 0 0) (le-ltb (length bytes) 0 (omega arith))
    le-start false =
        ap (λ (t : Bool). cond t 0 (walk_on (budget_of budget) s bytes).read)
        (le-ltb (length bytes) (walk_on (budget_of budget) s bytes).read (read-inside (budget_of budget) s bytes))
