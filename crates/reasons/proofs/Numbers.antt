-- The numbers of an order name its lines in the run.
use Prim.Native.Nat.{ℕ, suc, ◌+◌}
use mathlib.Core.Path.{◌≡◌, refl, sym, ap, ap₂, ◌∙◌, subst}
use mathlib.Core.Bool.{Bool, cond}
use mathlib.Core.List.{List, [], ◌∷◌, ◌++◌}
use native.Mathlib.Omega.{arith}
use lib.ListN.{length, length-append, get_or, drop}
use Rattle.meaning.specs.Words.{Action, Line, Run}
use Rattle.meaning.specs.Node.{ins, outs, keep_input, keep_output, Order}
use Rattle.meaning.specs.Matcher.{is_input}
use Rattle.meaning.proofs.Lists.{snoc_append}
use Rattle.reasons.specs.Reasons.{numbers_of, gets_in, goes_out, numbered, line_numbers, Names}

-- one line on
on_by_one : (f : Line → Bool) (before : List Line) (l : Line) (rest kept : List Line)
    → Names ((before ++ l ∷ []) ++ rest) (numbers_of f (suc (length (before ++ l ∷ []))) rest) kept
    → Names (before ++ l ∷ rest) (numbers_of f (suc (suc (length before))) rest) kept
on_by_one f before l rest kept h =
    subst (λ (run : Run). Names run (numbers_of f (suc (suc (length before))) rest) kept) (snoc_append before l rest)
    (subst (λ (k : ℕ). Names ((before ++ l ∷ []) ++ rest) (numbers_of f (suc k) rest) kept)
    (let e : length (before ++ l ∷ []) ≡ suc (length before) = omega (arith, length-append before (l ∷ [])) in e) h)

pub ins_named : (before rest : List Line) → Names (before ++ rest) (numbers_of gets_in (suc (length before)) rest) (ins rest)
unfolding numbers_of
ins_named before [] = tt
ins_named before (l ∷ rest) = go l.action l.stamp (on_by_one gets_in before l rest (ins rest) (ins_named (before ++ l ∷ []) rest))
  where
    go : (a : Action) (t : ℕ) → Names (before ++ record { action = a; stamp = t } ∷ rest) (numbers_of gets_in (suc (suc (length before))) rest) (ins rest)
        → Names (before ++ record { action = a; stamp = t } ∷ rest)
        (cond (is_input a) (suc (length before) ∷ numbers_of gets_in (suc (suc (length before))) rest) (numbers_of gets_in (suc (suc (length before))) rest))
        (keep_input a (record { action = a; stamp = t }) (ins rest))
    go (Action.input k) t h = (record { before = before; after = rest; stands = refl; counted = refl }, h)
    go (Action.output k) t h = h

pub outs_named : (before rest : List Line) → Names (before ++ rest) (numbers_of goes_out (suc (length before)) rest) (outs rest)
unfolding numbers_of
outs_named before [] = tt
outs_named before (l ∷ rest) = go l.action l.stamp (on_by_one goes_out before l rest (outs rest) (outs_named (before ++ l ∷ []) rest))
  where
    go : (a : Action) (t : ℕ) → Names (before ++ record { action = a; stamp = t } ∷ rest) (numbers_of goes_out (suc (suc (length before))) rest) (outs rest)
        → Names (before ++ record { action = a; stamp = t } ∷ rest)
        (cond (goes_out (record { action = a; stamp = t })) (suc (length before) ∷ numbers_of goes_out (suc (suc (length before))) rest) (numbers_of goes_out (suc (suc (length before))) rest))
        (keep_output a (record { action = a; stamp = t }) (outs rest))
    go (Action.input k) t h = h
    go (Action.output k) t h = (record { before = before; after = rest; stands = refl; counted = refl }, h)

both_named : (run : Run) (is os : List ℕ) (order : List Line) → Names run is (ins order) → Names run os (outs order) → Names run (numbered is os order) order
unfolding numbered
both_named run is os [] h k = tt
both_named run is os (l ∷ rest) h k = go l.action l.stamp is os h k (λ is os. both_named run is os rest)
  where
    go : (a : Action) (t : ℕ) (is os : List ℕ) → Names run is (keep_input a (record { action = a; stamp = t }) (ins rest))
        → Names run os (keep_output a (record { action = a; stamp = t }) (outs rest))
        → ((is os : List ℕ) → Names run is (ins rest) → Names run os (outs rest) → Names run (numbered is os rest) rest)
        → Names run (cond (is_input a) (get_or is 0 0 ∷ numbered (drop 1 is) os rest) (get_or os 0 0 ∷ numbered is (drop 1 os) rest)) (record { action = a; stamp = t } ∷ rest)
    go (Action.input k) t [] os h k' ih = absurd h
    go (Action.input k) t (i ∷ is) os h k' ih = (h.0, ih is os h.1 k')
    go (Action.output k) t is [] h k' ih = absurd k'
    go (Action.output k) t is (o ∷ os) h k' ih = (k'.0, ih is os h k'.1)

-- Each number is that of the order's line in the run.
pub numbers-name : (run order : List Line) → Order run order → Names run (line_numbers run order) order
numbers-name run order o =
    both_named run (numbers_of gets_in 1 run) (numbers_of goes_out 1 run) order
    (subst (Names run (numbers_of gets_in 1 run)) (sym o.inputs_kept) (ins_named [] run))
    (subst (Names run (numbers_of goes_out 1 run)) (sym o.outputs_kept) (outs_named [] run))

-- An order has as many lines as the run.
channels_long : (u : List Line) → length (ins u) + length (outs u) ≡ length u
channels_long [] = omega arith
channels_long (l ∷ u) = go l.action (channels_long u)
  where
    go : (a : Action) → length (ins u) + length (outs u) ≡ length u → length (keep_input a l (ins u)) + length (keep_output a l (outs u)) ≡ suc (length u)
    go (Action.input k) e = omega arith
    go (Action.output k) e = omega arith

pub order-long : (run order : List Line) → Order run order → length order ≡ length run
order-long run order o = sym (channels_long order) ∙ ap₂ ◌+◌ (ap length o.inputs_kept) (ap length o.outputs_kept) ∙ channels_long run
