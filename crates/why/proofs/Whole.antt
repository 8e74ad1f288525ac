-- All lines of a run judged: the refusal is the one that a session would give, and where there is none the verdict is exact and the
-- line the one after which it was first reached.
use Prim.Native.Nat.{ℕ, zero, suc, ◌≤◌, ◌<◌}
use mathlib.Core.Path.{◌≡◌, refl, sym, ap, ◌∙◌, subst}
use mathlib.Core.Bool.{Bool, true, false}
use mathlib.Core.List.{List, [], ◌∷◌, ◌++◌, append-nil}
use native.Mathlib.Omega.{arith}
use lib.Dec.{eqb, ltb}
use borrow.Author.Tests.{eqb-true, eqb-false, ltb-false}
use Rattle.laws.specs.Places.{first}
use Rattle.laws.proofs.Places.{first_snoc}
use Rattle.meaning.specs.Limits.{last_stamp, most_open}
use Rattle.meaning.specs.Words.{Line, Run}
use Rattle.meaning.specs.Words
use Rattle.meaning.specs.Numbers.{first_of, action_above}
use Rattle.meaning.specs.Calls.{Call, Clock, fresh_clock, ticked, Watch, fresh, refusal, taken, stamp_refusal, open_at}
use Rattle.meaning.proofs.Refusals.{first_of-none, first_of-first, none_first, given-none}
use Rattle.meaning.proofs.Lists.{snoc_append}
use Rattle.meaning.proofs.Clocks.{blind_if, open_watch}
use Rattle.reasons.specs.Reasons.{lines_refusal}

-- the watch after lines that are taken
unfoldable pub taken-lines : Words.Property → Watch → List Line → Watch
taken-lines p w [] = w
taken-lines p w (l ∷ ls) = taken-lines p (taken p w (Call.line l)) ls

module _ (p : Words.Property) where
  -- one line more
  pub lines_snoc : (w : Watch) (u : List Line) (l : Line)
      → lines_refusal p w (u ++ l ∷ []) ≡ first_of (lines_refusal p w u) (refusal p (taken-lines p w u) (Call.line l))
  unfolding lines_refusal taken-lines
  lines_snoc w [] l = none-behind (refusal p w (Call.line l))
    where
      none-behind : (n : ℕ) → first_of n 0 ≡ first_of 0 n
      none-behind zero = refl
      none-behind (suc n) = refl
  lines_snoc w (k ∷ u) l =
      ap (first_of (refusal p w (Call.line k))) (lines_snoc (taken p w (Call.line k)) u l)
      ∙ first_of-first (refusal p w (Call.line k)) (lines_refusal p (taken p w (Call.line k)) u)
      (refusal p (taken-lines p (taken p w (Call.line k)) u) (Call.line l))

  pub taken_snoc : (w : Watch) (u : List Line) (l : Line) → taken-lines p w (u ++ l ∷ []) ≡ taken p (taken-lines p w u) (Call.line l)
  unfolding taken-lines
  taken_snoc w [] l = refl
  taken_snoc w (k ∷ u) l = taken_snoc (taken p w (Call.line k)) u l

  -- a run that is open stays open
  pub stays_open : (run u : List Line) (k : Clock) → (k' : Clock) × (taken-lines p (open_watch run k) u ≡ open_watch (run ++ u) k')
  unfolding taken-lines
  stays_open run [] k = (k, λ i. open_watch (sym (append-nil run) i) k)
  stays_open run (l ∷ u) k =
      let r = stays_open (run ++ l ∷ []) u (ticked (blind_if false k) l false) in (r.0, r.1 ∙ (λ i. open_watch (snoc_append run l u i) r.0))

-- ---- what is known of lines that are all taken

pub record AllTaken (p : Words.Property) (L : ℕ → Line) (n : ℕ) : Type 0 where
  pub acts : (k : ℕ) → k < n → action_above (L k).action ≡ false
  pub low : (k : ℕ) → k < n → (L k).stamp ≤ last_stamp
  pub room : (k : ℕ) → k < n → open_at p (L k).stamp (first L (suc k)) ≤ most_open

module _ (p : Words.Property) (L : ℕ → Line) where
  snoc_refusal : (k : ℕ) → lines_refusal p fresh (first L (suc k))
      ≡ first_of (lines_refusal p fresh (first L k)) (refusal p (taken-lines p fresh (first L k)) (Call.line (L k)))
  snoc_refusal k = ap (lines_refusal p fresh) (first_snoc L k) ∙ lines_snoc p fresh (first L k) (L k)

  each_taken : (n : ℕ) → lines_refusal p fresh (first L n) ≡ 0 → (k : ℕ) → k < n → refusal p (taken-lines p fresh (first L k)) (Call.line (L k)) ≡ 0
  each_taken zero e k h = let z : ⊥ = omega arith in absurd z
  each_taken (suc n) e k h = go (eqb k n) (eqb-true k n) (eqb-false k n) (each_taken n parts.0 k)
    where
      parts : (lines_refusal p fresh (first L n) ≡ 0) × (refusal p (taken-lines p fresh (first L n)) (Call.line (L n)) ≡ 0)
      parts = first_of-none (lines_refusal p fresh (first L n)) (sym (snoc_refusal n) ∙ e)

      go : (b : Bool) → (b ≡ true → k ≡ n) → (b ≡ false → k ≡ n → ⊥) → (k < n → refusal p (taken-lines p fresh (first L k)) (Call.line (L k)) ≡ 0)
          → refusal p (taken-lines p fresh (first L k)) (Call.line (L k)) ≡ 0
      go true y d ih = subst (λ (i : ℕ). refusal p (taken-lines p fresh (first L i)) (Call.line (L i)) ≡ 0) (sym (y refl)) parts.1
      go false y d ih = let w : k ≡ n → ⊥ = d refl in ih (omega arith)

  -- a line is taken into an open run: what none of the refusals says
  taken_facts : (run : Run) (k : Clock) (l : Line) → refusal p (open_watch run k) (Call.line l) ≡ 0
      → (action_above l.action ≡ false) × (l.stamp ≤ last_stamp) × (open_at p l.stamp (run ++ l ∷ []) ≤ most_open)
  taken_facts run k l e =
      let a = none_first 2 (action_above l.action) e in
      let q = first_of-none (stamp_refusal k l.stamp) a.1 in
      (a.0, ltb-false last_stamp l.stamp (none_first 3 (ltb last_stamp l.stamp) q.0).0, ltb-false most_open _ (given-none 5 _ q.1))

  pub all-taken : (n : ℕ) → lines_refusal p fresh (first L n) ≡ 0 → AllTaken p L n
  all-taken n e =
      record {
        acts = λ k h. (at k h).0;
        low = λ k h. (at k h).1;
        room = λ k h. subst (λ (r : Run). open_at p (L k).stamp r ≤ most_open) (sym (first_snoc L k)) (at k h).2;
      }
    where
      at : (k : ℕ) → k < n → (action_above (L k).action ≡ false) × ((L k).stamp ≤ last_stamp) × (open_at p (L k).stamp (first L k ++ L k ∷ []) ≤ most_open)
      at k h =
          let w = stays_open p [] (first L k) fresh_clock in
          taken_facts (first L k) w.0 (L k) (subst (λ (x : Watch). refusal p x (Call.line (L k)) ≡ 0) w.1 (each_taken n e k h))
