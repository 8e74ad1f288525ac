-- After any calls the session over cuts agrees with what the calls have come to: refusals, number open, verdict.
use Prim.Native.Nat.{ℕ, zero, suc, ◌≤◌}
use mathlib.Core.Path.{◌≡◌, refl, sym, ◌∙◌, ap, subst}
use mathlib.Core.Bool.{Bool, true, false, cond}
use mathlib.Core.List.{List, [], ◌∷◌, ◌++◌}
use native.Mathlib.Omega.{arith}
use lib.ListN.{length}
use lib.Dec.{ltb}
use borrow.Author.Tests.{ltb-false}
use Rattle.meaning.specs.Limits.{most_open, most_lost, last_stamp}
use Rattle.meaning.specs.Words.{Property, Line, Run}
use Rattle.meaning.specs.Node.{Breaks, Verdict, verdict_number}
use Rattle.meaning.specs.Numbers.{given, action_above}
use Rattle.meaning.specs.Calls.{open_at, Mark, Call, Clock, fresh_clock, ticked, marked, stamp_refusal, mark_refusal, beyond}
use Rattle.meaning.specs.Calls.{Watch, fresh, with_line, refusal, taken, unless_refused, next, watched}
use Rattle.meaning.specs.Calls.{Standing, open_of, Answer, refused, Told, TakenAnswer, AnswerBy, IsAnswer}
use Rattle.meaning.specs.Step.{Sets, Front, Cuts, front_with, fresh_front, fresh_cuts, cuts_verdict, cuts_open, cuts_with_line}
use Rattle.meaning.specs.Step.{cuts_refusal, cuts_taken, cuts_next, cuts_told, cuts_answer, cuts_after}
use Rattle.meaning.proofs.Refusals.{first_of-none, first_of_later, given-none, none_first}
use Rattle.meaning.proofs.Facts.{verdict_unique}
use Rattle.meaning.proofs.Fronts.{few-first}
use Rattle.meaning.proofs.Sets.{Reading}
use Rattle.meaning.proofs.Clocks.{open_watch, blind_watch, open_cuts, blind-cuts}
use Rattle.meaning.proofs.Exact.{Fits, fresh-fits, front_fits, held-is_open, front_verdict-exact}

pub not-refused-stamp : (k : Clock) (t : ℕ) → stamp_refusal k t ≡ 0 → k.latest ≤ t
not-refused-stamp k t e = ltb-false t k.latest (given-none 4 (ltb t k.latest) (none_first 3 (ltb last_stamp t) e).1)

-- a mark that is taken is taken for its stamp
pub not-refused-mark : (k : Clock) (g : Mark) → mark_refusal k g ≡ 0 → stamp_refusal k g.stamp ≡ 0
not-refused-mark k g e = (none_first 2 (ltb most_lost g.lost) e).1

module _ {p : Property} {Breaking : List Line → Type 0} (R : Reading p Breaking) where
  abbrev 𝓢 : Sets
  𝓢 = R.sets

  pub data Agrees : Watch → Cuts 𝓢.Set → Type 0 where
    open_run : (run : Run) (clock : Clock) (f : Front 𝓢.Set) → Fits R clock.latest run f → length f.held ≤ most_open
        → Agrees (open_watch run clock) (open_cuts f clock)
    blind : (clock : Clock) → Agrees (blind_watch clock) (blind-cuts p 𝓢 clock)

  pub fresh_agrees : Agrees fresh (fresh_cuts p 𝓢)
  fresh_agrees = open_run [] fresh_clock (fresh_front p 𝓢) (fresh-fits R 0) (omega arith)

  pub refusal_agrees : {w : Watch} {c : Cuts 𝓢.Set} → Agrees w c → (k : Call) → cuts_refusal p 𝓢 c k ≡ refusal p w k
  refusal_agrees (open_run run clock f fit few) (Call.line l) =
      first_of_later (given 3 (action_above l.action))
      (λ z. first_of_later (stamp_refusal clock l.stamp)
      (λ e. ap (λ (n : ℕ). given 6 (ltb most_open n))
      (sym (held-is_open R (front_fits R clock.latest run f fit l (not-refused-stamp clock l.stamp e))))))
  refusal_agrees (open_run run clock f fit few) (Call.mark g) = refl
  refusal_agrees (blind clock) (Call.line l) = refl
  refusal_agrees (blind clock) (Call.mark g) = refl

  pub taken_agrees : {w : Watch} {c : Cuts 𝓢.Set} → Agrees w c → (k : Call) → refusal p w k ≡ 0 → Agrees (taken p w k) (cuts_taken p 𝓢 c k)
  taken_agrees (open_run run clock f fit few) (Call.line l) e =
      let q : (stamp_refusal clock l.stamp ≡ 0) × (given 6 (ltb most_open (open_at p l.stamp (run ++ l ∷ []))) ≡ 0) =
      first_of-none (stamp_refusal clock l.stamp) (none_first 2 (action_above l.action) e).1 in
      let fit' : Fits R l.stamp (run ++ l ∷ []) (front_with p 𝓢 f l) =
      front_fits R clock.latest run f fit l (not-refused-stamp clock l.stamp q.0) in
      open_run (run ++ l ∷ []) (ticked clock l false) (front_with p 𝓢 f l) fit'
      (subst (λ (n : ℕ). n ≤ most_open) (held-is_open R fit') (ltb-false most_open (open_at p l.stamp (run ++ l ∷ [])) (given-none 5 _ q.1)))
  taken_agrees (open_run run clock f fit few) (Call.mark g) e = blind (marked clock g)
  taken_agrees (blind clock) (Call.line l) e = go (beyond p clock l.stamp)
    where
      later : Clock
      later = ticked clock l false

      first-front : Front 𝓢.Set
      first-front = front_with p 𝓢 (fresh_front p 𝓢) l

      go : (far : Bool)
          → Agrees (cond far (open_watch (l ∷ []) later) (blind_watch later)) (cond far (open_cuts first-front later) (blind-cuts p 𝓢 later))
      go true =
          open_run (l ∷ []) later first-front
          (front_fits R 0 [] (fresh_front p 𝓢) (fresh-fits R 0) l (omega arith))
          (few-first p 𝓢 l.action l.stamp)
      go false = blind later
  taken_agrees (blind clock) (Call.mark g) e = blind (marked clock g)

  pub next_agrees : {w : Watch} {c : Cuts 𝓢.Set} → Agrees w c → (k : Call) → Agrees (next p w k) (cuts_next p 𝓢 c k)
  next_agrees {w} {c} a k =
      subst (λ (n : ℕ). Agrees (next p w k) (unless_refused n (cuts_taken p 𝓢 c k) c)) (sym (refusal_agrees a k)) (go (refusal p w k) (taken_agrees a k))
    where
      go : (n : ℕ) → (n ≡ 0 → Agrees (taken p w k) (cuts_taken p 𝓢 c k)) → Agrees (unless_refused n (taken p w k) w) (unless_refused n (cuts_taken p 𝓢 c k) c)
      go zero h = h refl
      go (suc n) h = a

  pub after_agrees : {w : Watch} {c : Cuts 𝓢.Set} → Agrees w c → (ks : List Call) → Agrees (watched p w ks) (cuts_after p 𝓢 c ks)
  unfolding watched cuts_after
  after_agrees {w} {c} a [] = a
  after_agrees {w} {c} a (k ∷ ks) = after_agrees {w = next p w k} {c = cuts_next p 𝓢 c k} (next_agrees a k) ks

  -- after any calls on a fresh session
  pub grown_agrees : (ks : List Call) → Agrees (watched p fresh ks) (cuts_after p 𝓢 (fresh_cuts p 𝓢) ks)
  grown_agrees = after_agrees fresh_agrees

  pub open_agrees : {w : Watch} {c : Cuts 𝓢.Set} → Agrees w c → cuts_open p 𝓢 c ≡ open_of p w
  open_agrees (open_run run clock f fit few) = sym (held-is_open R fit)
  open_agrees (blind clock) = refl

  -- "there are never more than sixty-five cuts to hold, one before each open input and one after all"
  pub few-cuts : {w : Watch} {c : Cuts 𝓢.Set} → Agrees w c → suc (length c.front.held) ≤ 65
  few-cuts (open_run run clock f fit few) = omega (arith, few)
  few-cuts (blind clock) = omega arith

-- For the breaches of document 01, which the definition of an answer names:
module _ {p : Property} (R : Reading p (Breaks p)) where
  -- the verdict read off the cuts is the one that stands
  pub standing_agrees : {w : Watch} {c : Cuts R.sets.Set} → Agrees R w c → Standing p w (cuts_verdict p R.sets c)
  standing_agrees (open_run run clock f fit few) = front_verdict-exact R run fit
  standing_agrees (blind clock) = refl

  pub answer_agrees : {w : Watch} {c : Cuts R.sets.Set} → Agrees R w c → (k : Call) → IsAnswer p w k (cuts_answer p R.sets c k)
  answer_agrees {w} {c} a k =
      subst (λ (n : ℕ). IsAnswer p w k (unless_refused n (cuts_told p R.sets c k) (refused n))) (sym (refusal_agrees R a k)) (go (refusal p w k) refl)
    where
      taken-told : (k : Call) → refusal p w k ≡ 0 → TakenAnswer p w k (cuts_told p R.sets c k)
      taken-told (Call.line l) e =
          let a' : Agrees R (with_line p w l) (cuts_with_line p R.sets c l) = taken_agrees R a (Call.line l) e in
          record {
            taken = refl;
            verdict = cuts_verdict p R.sets (cuts_with_line p R.sets c l);
            stands = standing_agrees a';
            told = refl;
            counted = open_agrees R a';
          }
      taken-told (Call.mark g) e =
          record { taken = refl; verdict = cuts_verdict p R.sets c; stands = standing_agrees a; told = refl; counted = refl }

      go : (n : ℕ) → refusal p w k ≡ n → AnswerBy n p w k (unless_refused n (cuts_told p R.sets c k) (refused n))
      go zero e = taken-told k e
      go (suc n) e = refl

  -- one verdict stands, and a call has one answer
  pub standing_unique : {w : Watch} {c : Cuts R.sets.Set} → Agrees R w c → (u v : Verdict) → Standing p w u → Standing p w v → u ≡ v
  standing_unique (open_run run clock f fit few) u v h k = verdict_unique p R.bounds run 0 fit.rising (Breaks p) u v h k
  standing_unique (blind clock) u v h k = h ∙ sym k

  told_unique : {w : Watch} {c : Cuts R.sets.Set} → Agrees R w c → (n : ℕ) (x y : Answer) → Told p w n x → Told p w n y → x ≡ y
  told_unique a n x y h k =
      let v : h.verdict ≡ k.verdict = standing_unique a h.verdict k.verdict h.stands k.stands in
      let r : x.refusal ≡ y.refusal = h.taken ∙ sym k.taken in
      let t : x.verdict ≡ y.verdict = h.told ∙ ap verdict_number v ∙ sym k.told in
      let o : x.open_count ≡ y.open_count = h.counted ∙ sym k.counted in
      λ i. record { refusal = r i; verdict = t i; open_count = o i }

  pub answer_unique : {w : Watch} {c : Cuts R.sets.Set} → Agrees R w c → (k : Call) (x y : Answer) → IsAnswer p w k x → IsAnswer p w k y → x ≡ y
  answer_unique {w} {c} a k x y h h' = go (refusal p w k) refl h h'
    where
      taken_unique : (k : Call) → refusal p w k ≡ 0 → TakenAnswer p w k x → TakenAnswer p w k y → x ≡ y
      taken_unique (Call.line l) e t t' = told_unique (taken_agrees R a (Call.line l) e) (open_of p (with_line p w l)) x y t t'
      taken_unique (Call.mark g) e t t' = told_unique a 0 x y t t'

      go : (n : ℕ) → refusal p w k ≡ n → AnswerBy n p w k x → AnswerBy n p w k y → x ≡ y
      go zero e t t' = taken_unique k e t t'
      go (suc n) e t t' = t ∙ sym t'
