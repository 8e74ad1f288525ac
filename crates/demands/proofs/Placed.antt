-- An order that is shown, in the demands' words: it is the first, its numbers are those of its lines, each once and rising within a channel, and
-- its moments the earliest.
use Prim.Native.Nat.{ℕ, suc, ◌<◌}
use mathlib.Core.Path.{◌≡◌, refl, sym, ◌∙◌, ap, subst, subst₂}
use mathlib.Core.Logic.{◌⊎◌, inl, inr}
use mathlib.Core.Bool.{Bool, true, false, cond, true≢false}
use mathlib.Core.List.{List, [], ◌∷◌, ◌++◌, Forall₂}
use native.Mathlib.Omega.{arith}
use lib.ListN.{length, get_or, drop}
use lib.IntN.{ℤ}
use lib.Signed.{◌≤ℤ◌}
use Rattle.meaning.specs.Words.{Action, Line, Run}
use Rattle.meaning.specs.Node.{ins, outs, keep_input, keep_output, Numbered, Order}
use Rattle.meaning.specs.Matcher.{is_input}
use Rattle.reasons.specs.Reasons.{NoneLater, Sooner, numbers_of, gets_in, goes_out, numbered, line_numbers, Names}
use Rattle.reasons.proofs.Numbers.{ins_named, outs_named}
use Rattle.demands.specs.Why.{ComesBefore, Before, InOrder}

-- ---- the same in other words

comes_before : {order other : List Line} → Sooner order other → ComesBefore order other
comes_before s = subst₂ ComesBefore (sym s.one) (sym s.two) (go s.same)
  where
    go : (same : List Line)
        → ComesBefore (same ++ record { action = Action.output s.output; stamp = s.sent } ∷ s.after) (same ++ record { action = Action.input s.input; stamp = s.got } ∷ s.behind)
    go [] = inl tt
    go (x ∷ same) = inr (refl, go same)

pub first-shown : {order other : List Line} → (order ≡ other) ⊎ Sooner order other → (order ≡ other) ⊎ ComesBefore order other
first-shown (inl e) = inl e
first-shown (inr s) = inr (comes_before s)

pub names_each : (run : Run) (ks : List ℕ) (ls : List Line) → Names run ks ls → Forall₂ (Numbered run) ks ls
names_each run [] [] h = Forall₂.nil
names_each run [] (l ∷ ls) h = absurd h
names_each run (k ∷ ks) [] h = absurd h
names_each run (k ∷ ks) (l ∷ ls) h = Forall₂.cons h.0 (names_each run ks ls h.1)

pub none_later : (ms ns : List ℤ) → NoneLater ms ns → Forall₂ ◌≤ℤ◌ ms ns
none_later [] [] h = Forall₂.nil
none_later [] (n ∷ ns) h = absurd h
none_later (m ∷ ms) [] h = absurd h
none_later (m ∷ ms) (n ∷ ns) h = Forall₂.cons h.0 (none_later ms ns h.1)

-- ---- a number has one line

one_line : (a b : List Line) (l x : Line) (c d : List Line) → a ++ l ∷ c ≡ b ++ x ∷ d → length a ≡ length b → l ≡ x
one_line [] [] l x c d e n = ap (head l) e
  where
    head : Line → List Line → Line
    head z [] = z
    head z (y ∷ ys) = y
one_line [] (y ∷ b) l x c d e n = absurd (omega (arith, n))
one_line (y ∷ a) [] l x c d e n = absurd (omega (arith, n))
one_line (y ∷ a) (z ∷ b) l x c d e n = one_line a b l x c d (ap (drop 1) e) (omega (arith, n))

same_line : (run : Run) (k : ℕ) (l x : Line) → Numbered run k l → Numbered run k x → l ≡ x
same_line run k l x h g =
    one_line h.before g.before l x h.after g.after (sym h.stands ∙ g.stands)
    (let p = h.counted in let q = g.counted in let r : length h.before ≡ length g.before = omega (arith, p, q) in r)

-- two lines of which one is an input have not the same number
apart : (run : Run) (k n : ℕ) (l x : Line) → Numbered run k l → Numbered run n x → (gets_in l ≡ gets_in x → ⊥) → k ≡ n → ⊥
apart run k n l x h g other e = other (ap gets_in (same_line run k l x h (subst (λ (i : ℕ). Numbered run i x) (sym e) g)))

-- ---- rising numbers

abbrev Rising : ℕ → List ℕ → Type 0
Rising k [] = Unit {0}
Rising k (n ∷ numbers) = (k < n) × Rising n numbers

from_below : (k n : ℕ) (numbers : List ℕ) → k < n → Rising n numbers → Rising k numbers
from_below k n [] h r = tt
from_below k n (m ∷ numbers) h r = (omega (arith, h, r.0), r.1)

rising : (f : Line → Bool) (k n : ℕ) (lines : List Line) → k < n → Rising k (numbers_of f n lines)
unfolding numbers_of
rising f k n [] h = tt
rising f k n (l ∷ lines) h = go (f l) (rising f n (suc n) lines (omega arith)) (rising f k (suc n) lines (omega (arith, h)))
  where
    go : (t : Bool) → Rising n (numbers_of f (suc n) lines) → Rising k (numbers_of f (suc n) lines)
        → Rising k (cond t (n ∷ numbers_of f (suc n) lines) (numbers_of f (suc n) lines))
    go true r s = (h, r)
    go false r s = s

-- ---- the numbers behind a line, by the channel that it is of

module _ (run : Run) (k : ℕ) (l : Line) (named : Numbered run k l) where
  abbrev Behind : Bool → List ℕ → List ℕ → List Line → Type 0
  Behind t is os rest =
      Rising k (cond t is os) → Names run is (ins rest) → Names run os (outs rest) → Before k l (numbered is os rest) rest

  behind : (t : Bool) → gets_in l ≡ t → (rest : List Line) (is os : List ℕ) → Behind t is os rest
  unfolding numbered
  behind t e [] is os r h g = tt
  behind t e (x ∷ rest) is os r h g = go t e x.action x.stamp is os r h g (behind t e rest)
    where
      go : (t : Bool) → gets_in l ≡ t → (a : Action) (s : ℕ) (is os : List ℕ) → Rising k (cond t is os)
          → Names run is (keep_input a (record { action = a; stamp = s }) (ins rest)) → Names run os (keep_output a (record { action = a; stamp = s }) (outs rest))
          → ((is os : List ℕ) → Behind t is os rest)
          → Before k l (cond (is_input a) (get_or is 0 0 ∷ numbered (drop 1 is) os rest) (get_or os 0 0 ∷ numbered is (drop 1 os) rest)) (record { action = a; stamp = s } ∷ rest)
      go t e (Action.input j) s [] os r h g on = absurd h
      go true e (Action.input j) s (i ∷ is) os r h g on =
          ((λ q. omega (arith, r.0, q)), (λ q. r.0), on is os (from_below k i is r.0 r.1) h.1 g)
      go false e (Action.input j) s (i ∷ is) os r h g on =
          let other : gets_in l ≡ true → ⊥ = λ q. true≢false (sym q ∙ e) in
          (apart run k i l _ named h.0 other, (λ q. absurd (other q)), on is os r h.1 g)
      go t e (Action.output j) s is [] r h g on = absurd g
      go true e (Action.output j) s is (o ∷ os) r h g on =
          let other : gets_in l ≡ false → ⊥ = λ q. true≢false (sym e ∙ q) in
          (apart run k o l _ named g.0 other, (λ q. absurd (other q)), on is os r h g.1)
      go false e (Action.output j) s is (o ∷ os) r h g on =
          ((λ q. omega (arith, r.0, q)), (λ q. r.0), on is os (from_below k o os r.0 r.1) h g.1)

all-in_order : (run : Run) (order : List Line) (is os : List ℕ) → Rising 0 is → Rising 0 os → Names run is (ins order) → Names run os (outs order)
    → InOrder (numbered is os order) order
unfolding numbered
all-in_order run [] is os ri ro h g = tt
all-in_order run (x ∷ rest) is os ri ro h g = go x.action x.stamp is os ri ro h g (all-in_order run rest)
  where
    go : (a : Action) (s : ℕ) (is os : List ℕ) → Rising 0 is → Rising 0 os
        → Names run is (keep_input a (record { action = a; stamp = s }) (ins rest)) → Names run os (keep_output a (record { action = a; stamp = s }) (outs rest))
        → ((is os : List ℕ) → Rising 0 is → Rising 0 os → Names run is (ins rest) → Names run os (outs rest) → InOrder (numbered is os rest) rest)
        → InOrder (cond (is_input a) (get_or is 0 0 ∷ numbered (drop 1 is) os rest) (get_or os 0 0 ∷ numbered is (drop 1 os) rest)) (record { action = a; stamp = s } ∷ rest)
    go (Action.input j) s [] os ri ro h g on = absurd h
    go (Action.input j) s (i ∷ is) os ri ro h g on =
        (behind run i _ h.0 true refl rest is os ri.1 h.1 g, on is os (from_below 0 i is ri.0 ri.1) ro h.1 g)
    go (Action.output j) s is [] ri ro h g on = absurd g
    go (Action.output j) s is (o ∷ os) ri ro h g on =
        (behind run o _ g.0 false refl rest is os ro.1 h g.1, on is os ri (from_below 0 o os ro.0 ro.1) h g.1)

-- Of an order of a run.
pub numbers-in_order : (run order : List Line) → Order run order → InOrder (line_numbers run order) order
numbers-in_order run order o =
    all-in_order run order (numbers_of gets_in 1 run) (numbers_of goes_out 1 run) (rising gets_in 0 1 run (omega arith)) (rising goes_out 0 1 run (omega arith))
    (subst (Names run (numbers_of gets_in 1 run)) (sym o.inputs_kept) (ins_named [] run))
    (subst (Names run (numbers_of goes_out 1 run)) (sym o.outputs_kept) (outs_named [] run))

-- Two equal lines are not both line 1.
pub not_twice : (l : Line) → InOrder (1 ∷ 1 ∷ []) (l ∷ l ∷ []) → ⊥
not_twice l h = h.0.0 refl
