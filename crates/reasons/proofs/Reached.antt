-- The line after which the verdict first reached its final level: it exists and is unique, and one line more leaves it or is it.
use Prim.Native.Nat.{ℕ, suc, ◌≤◌, ◌<◌}
use mathlib.Core.Path.{◌≡◌, refl, sym, ◌∙◌, ap, subst}
use mathlib.Core.Bool.{Bool, true, false}
use mathlib.Core.List.{[], ◌∷◌, ◌++◌, append-nil}
use native.Mathlib.Omega.{arith}
use lib.Dec.{eqb}
use borrow.Author.Tests.{eqb-true, eqb-false}
use lib.ListN.{length, take, drop, take-append-drop, length-append}
use lib.Seq.{take-length, take-append-le}
use Rattle.meaning.specs.Words.{Property, Line, Run, StampsFrom}
use Rattle.meaning.specs.Node.{Verdict, verdict_number, IsVerdict, Breaks}
use Rattle.meaning.specs.Numbers.{property_refusal}
use Rattle.meaning.proofs.Lists.{snoc_append}
use Rattle.meaning.proofs.Tests.{same_number}
use Rattle.meaning.proofs.Pairs.{Bounds, good_bounds}
use Rattle.meaning.proofs.Channels.{from_left}
use Rattle.meaning.proofs.Facts.{verdict_unique}
use Rattle.stays_told.proofs.NeverFalls.{never_falls}
use Rattle.stays_told.proofs.Calls.{has-verdict}
use Rattle.reasons.specs.Reasons.{ReachedAt}

module _ (p : Property) (good : property_refusal p ≡ 0) where
  bounds : Bounds p
  bounds = good_bounds p good

  pub one-verdict : (run : Run) → StampsFrom 0 run → (v w : Verdict) → IsVerdict p run v → IsVerdict p run w → v ≡ w
  one-verdict run rise v w h k = verdict_unique p bounds run 0 rise (Breaks p) v w h k

  -- "0 for clear"
  pub reached_empty : (v : Verdict) → IsVerdict p [] v → ReachedAt p [] 0
  reached_empty v h = record { verdict = v; whole = h; there = h; none_before = λ j l e. omega arith }

  module _ (run : Run) (l : Line) (rise : StampsFrom 0 (run ++ l ∷ [])) where
    rises : StampsFrom 0 run
    rises = from_left 0 run (l ∷ []) rise

    -- the verdict stays
    pub reached_same : (k : ℕ) → k ≤ length run → (r : ReachedAt p run k) → IsVerdict p (run ++ l ∷ []) r.verdict → ReachedAt p (run ++ l ∷ []) k
    reached_same k h r w =
        record {
          verdict = r.verdict;
          whole = w;
          there = subst (λ (x : Run). IsVerdict p x r.verdict) (sym (take-append-le k run (l ∷ []) h)) r.there;
          none_before = λ j i e.
              r.none_before j i (subst (λ (x : Run). IsVerdict p x r.verdict) (take-append-le j run (l ∷ []) (omega arith)) e);
        }

    -- it has changed with this line: since it never falls, no front had it
    pub reached_new : (v w : Verdict) → IsVerdict p run v → IsVerdict p (run ++ l ∷ []) w → (verdict_number v ≡ verdict_number w → ⊥)
        → ReachedAt p (run ++ l ∷ []) (suc (length run))
    reached_new v w h k other =
        record {
          verdict = w;
          whole = k;
          there =
              subst (λ (x : Run). IsVerdict p x w)
              (sym (ap (λ (n : ℕ). take n (run ++ l ∷ [])) (let e : suc (length run) ≡ length (run ++ l ∷ []) = omega (arith, length-append run (l ∷ [])) in e) ∙ take-length (run ++ l ∷ [])))
              k;
          none_before = λ j i e. before j i (subst (λ (x : Run). IsVerdict p x w) (take-append-le j run (l ∷ []) (omega arith)) e);
        }
      where
        before : (j : ℕ) → j < suc (length run) → IsVerdict p (take j run) w → ⊥
        before j i e =
            let low : verdict_number w ≤ verdict_number v =
            never_falls p bounds.least bounds.order (take j run) (drop j run) (subst (StampsFrom 0) (sym (take-append-drop j run)) rises) w v e
            (subst (λ (x : Run). IsVerdict p x v) (sym (take-append-drop j run)) h) in
            let up : verdict_number v ≤ verdict_number w = never_falls p bounds.least bounds.order run (l ∷ []) rise v w h k in
            other (omega arith)

  -- it is unique,
  pub reached_unique : (run : Run) → StampsFrom 0 run → (j k : ℕ) → ReachedAt p run j → ReachedAt p run k → j ≡ k
  reached_unique run rise j k a b =
      let e : a.verdict ≡ b.verdict = one-verdict run rise a.verdict b.verdict a.whole b.whole in
      let not-less : j < k → ⊥ = λ h. b.none_before j h (subst (λ (v : Verdict). IsVerdict p (take j run) v) e a.there) in
      let not_more : k < j → ⊥ = λ h. a.none_before k h (subst (λ (v : Verdict). IsVerdict p (take k run) v) (sym e) b.there) in
      omega (arith, not-less, not_more)

  -- and exists.
  abbrev Found : Run → Type 0
  Found run = (k : ℕ) × (k ≤ length run) × ReachedAt p run k

  found_next : (run : Run) (l : Line) → StampsFrom 0 (run ++ l ∷ []) → Found run → Found (run ++ l ∷ [])
  found_next run l rise f =
      let v : ((v : Verdict) × IsVerdict p (run ++ l ∷ []) v) = has-verdict p good (run ++ l ∷ []) rise in
      let a : ℕ = verdict_number f.2.verdict in
      go v.0 v.1 (eqb a (verdict_number v.0)) (eqb-true a (verdict_number v.0)) (eqb-false a (verdict_number v.0))
    where
      longer : length (run ++ l ∷ []) ≡ suc (length run)
      longer = let e : length (run ++ l ∷ []) ≡ suc (length run) = omega (arith, length-append run (l ∷ [])) in e

      go : (w : Verdict) → IsVerdict p (run ++ l ∷ []) w → (t : Bool)
          → (t ≡ true → verdict_number f.2.verdict ≡ verdict_number w)
          → (t ≡ false → verdict_number f.2.verdict ≡ verdict_number w → ⊥) → Found (run ++ l ∷ [])
      go w k true e n = (
        f.0,
        let h : f.0 ≤ length run = f.1 in omega (arith, longer),
        reached_same run l rise f.0 f.1 f.2
            (subst (λ (x : Verdict). IsVerdict p (run ++ l ∷ []) x) (sym (same_number f.2.verdict w (e refl))) k),
      )
      go w k false e n = (suc (length run), omega (arith, longer), reached_new run l rise f.2.verdict w f.2.whole k (n refl))

  found_on : (run more : Run) → StampsFrom 0 (run ++ more) → Found run → Found (run ++ more)
  found_on run [] rise f = subst Found (sym (append-nil run)) f
  found_on run (l ∷ more) rise f =
      subst Found (snoc_append run l more)
      (found_on (run ++ l ∷ []) more longer (found_next run l (from_left 0 (run ++ l ∷ []) more longer) f))
    where
      longer : StampsFrom 0 ((run ++ l ∷ []) ++ more)
      longer = subst (StampsFrom 0) (sym (snoc_append run l more)) rise

  pub reached_exists : (run : Run) → StampsFrom 0 run → (k : ℕ) × (k ≤ length run) × ReachedAt p run k
  reached_exists run rise =
      let v : ((v : Verdict) × IsVerdict p [] v) = has-verdict p good [] tt in found_on [] run rise (0, omega arith, reached_empty v.0 v.1)

  -- "0 for clear": a run of no line is clear.
  pub reached_clear : (run : Run) → StampsFrom 0 run → IsVerdict p run Verdict.clear → (k : ℕ) → ReachedAt p run k → k ≡ 0
  reached_clear run rise c k r =
      let v : ((v : Verdict) × IsVerdict p [] v) = has-verdict p good [] tt in
      let e : r.verdict ≡ Verdict.clear = one-verdict run rise r.verdict Verdict.clear r.whole c in
      let low : verdict_number v.0 ≤ 0 = never_falls p bounds.least bounds.order [] run rise v.0 Verdict.clear v.1 c in
      let z : v.0 ≡ r.verdict = same_number v.0 Verdict.clear (omega arith) ∙ sym e in
      let not_more : 0 < k → ⊥ = λ h. r.none_before 0 h (subst (λ (x : Verdict). IsVerdict p [] x) z v.1) in
      omega (arith, not_more)
