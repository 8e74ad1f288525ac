-- Demands 2 and 3 over the meaning, and of the numbers that the running calls answer.
use Prim.Native.Nat.{ℕ, ◌+◌, ◌*◌, ◌<◌}
use mathlib.Core.Path.{◌≡◌, sym, ◌∙◌, ap, subst}
use mathlib.Core.Bool.{Bool, true, cond}
use mathlib.Core.List.{List, [], ◌∷◌, ◌++◌}
use Rattle.meaning.specs.Words.{Line}
use Rattle.meaning.specs.Words
use Rattle.meaning.specs.Node.{Verdict, VerdictFor, IsVerdict, verdict_number}
use Rattle.meaning.specs.Numbers.{property_refusal}
use Rattle.meaning.specs.Calls.{Mark, Call, Watch, fresh, watched, AllTaken, kept, Standing, AnswerBy, Told, refusal, with_line}
use Rattle.meaning.specs.Step.{grown}
use Rattle.meaning.specs.History.{Event, fed, all_lines, Premises, highest, Quiet, NoMark, BreaksAfter}
use Rattle.meaning.proofs.Lengths.{lengths_reading}
use Rattle.meaning.proofs.Calls.{grown_agrees, standing_agrees, standing_unique, answer_agrees}
use Rattle.meaning.proofs.Lost.{history_verdict}
use Rattle.meaning.proofs.Histories.{blind_until, taken-append, kept_same, kept-taken, fed-append}
use Rattle.property.specs.Meant.{meant}
use Rattle.property.specs.declared.Property.{Property}
use Rattle.cuts.specs.Steps.{verdict_by, answer_by}
use Rattle.session_record.specs.Step.{stepped_of, standing}
use Rattle.session_record.proofs.Running.{running_answer}
use Rattle.demands.proofs.Running.{running, seen, running_stands, running_property, seen-taken}

module _ (q : Words.Property) (good : property_refusal q ≡ 0) where
  -- calls of which those taken are what the watcher was fed
  module _ (calls : List Call) (earlier : List Event) (g : Mark) (between : List Event) (quiet : Quiet q (highest 0 (fed earlier ++ Call.mark g ∷ [])) (fed between)) where
    blind-fed : AllTaken q fresh (fed (earlier ++ Event.mark g ∷ between))
        → (watched q fresh (fed (earlier ++ Event.mark g ∷ between))).clock.is_blind ≡ true
    unfolding fed
    blind-fed t =
        let e = fed-append earlier (Event.mark g ∷ between) in
        ap (λ (ks : List Call). (watched q fresh ks).clock.is_blind) e
        ∙ blind_until q (fed earlier) (fed between) g (subst (AllTaken q fresh) e t) quiet

    pub blind-kept : kept q fresh calls ≡ fed (earlier ++ Event.mark g ∷ between) → (watched q fresh calls).clock.is_blind ≡ true
    blind-kept e =
        ap (λ (w : Watch). w.clock.is_blind) (sym (kept_same q fresh calls) ∙ ap (watched q fresh) e)
        ∙ blind-fed (subst (AllTaken q fresh) e (kept-taken q fresh calls))

    pub exact-kept : (first : Line) (later : List Event) → kept q fresh calls ≡ fed ((earlier ++ Event.mark g ∷ between) ++ Event.line first ∷ later)
        → Premises ((earlier ++ Event.mark g ∷ between) ++ Event.line first ∷ later)
        → highest 0 (fed (earlier ++ Event.mark g ∷ between)) + 2 * q.UB < first.stamp → NoMark (fed later)
        → (v : Verdict) → Standing q (watched q fresh calls) v
        → VerdictFor (BreaksAfter q (all_lines (earlier ++ Event.mark g ∷ between))) q (all_lines ((earlier ++ Event.mark g ∷ between) ++ Event.line first ∷ later)) v
    exact-kept first later e premises far no_mark v stands =
        let before : List Event = earlier ++ Event.mark g ∷ between in
        let takes : AllTaken q fresh (fed (before ++ Event.line first ∷ later)) = subst (AllTaken q fresh) e (kept-taken q fresh calls) in
        let taken-before : AllTaken q fresh (fed before) =
        (taken-append q fresh (fed before) (fed (Event.line first ∷ later)) (subst (AllTaken q fresh) (fed-append before (Event.line first ∷ later)) takes)).0 in
        history_verdict q (lengths_reading q good).bounds before later first premises takes (blind-fed taken-before) far no_mark v
        (subst (λ (w : Watch). Standing q w v) (sym (kept_same q fresh calls) ∙ ap (watched q fresh) e) stands)

-- ---- the number that a call answers

module _ (p : Property) (good : property_refusal (meant p) ≡ 0) where
  -- a line that is taken: the verdict that then stands, in its number
  pub line-told : (calls : List Call) (l : Line) → refusal (meant p) (seen p good calls) (Call.line l) ≡ 0
      → (v : Verdict) × Standing (meant p) (seen p good (calls ++ Call.line l ∷ [])) v × ((stepped_of (running p good calls) (Call.line l)).answer.verdict ≡ verdict_number v)
  line-told calls l e =
      let R = lengths_reading (meant p) good in
      let a = answer_by p (grown (meant p) calls) (Call.line l) in
      let told : Told (meant p) (with_line (meant p) (seen p good calls) l) _ a =
      subst (λ (n : ℕ). AnswerBy n (meant p) (seen p good calls) (Call.line l) a) e (answer_agrees R (grown_agrees R calls) (Call.line l)) in (
        told.verdict,
        subst (λ (w : Watch). Standing (meant p) w told.verdict) (sym (seen-taken p good calls (Call.line l) e)) told.stands,
        ap (λ x. x.verdict) (running_answer p good calls (Call.line l)) ∙ told.told,
      )

  -- the verdict that stands on the session, in its number
  pub standing-told : (calls : List Call)
      → (v : Verdict) × Standing (meant p) (seen p good calls) v × (standing (running p good calls) ≡ verdict_number v)
      × ((u : Verdict) → Standing (meant p) (seen p good calls) u → u ≡ v)
  unfolding standing
  standing-told calls =
      let R = lengths_reading (meant p) good in
      let a = grown_agrees R calls in
      let v = verdict_by p (grown (meant p) calls) in (
        v,
        standing_agrees R a,
        (λ i. verdict_number (verdict_by (running_property p good calls i) (running_stands p good calls i))),
        (λ u h. standing_unique R a u v h (standing_agrees R a)),
      )

  blind_only : (w : Watch) (v : Verdict) → w.clock.is_blind ≡ true → Standing (meant p) w v → v ≡ Verdict.blind
  blind_only w v e h = subst (λ (b : Bool). cond b (v ≡ Verdict.blind) (IsVerdict (meant p) w.run v)) e h

  pub says-blind : (w : Watch) (v : Verdict) → w.clock.is_blind ≡ true → Standing (meant p) w v → verdict_number v ≡ 3
  says-blind w v e h = ap verdict_number (blind_only w v e h)
