-- The session that any calls on a fresh one have made, beside what the calls have come to by the rules.
use mathlib.Core.Path.{◌≡◌, refl, sym, ◌∙◌, ap, subst}
use mathlib.Core.Bool.{false}
use mathlib.Core.List.{List, [], ◌∷◌, ◌++◌}
use Rattle.meaning.specs.Node.{Breaks}
use Rattle.meaning.specs.Numbers.{property_refusal}
use Rattle.meaning.specs.Calls.{Call, Clock, Watch, fresh, watched, AllTaken, refusal, taken, next}
use Rattle.meaning.specs.Matcher.{Lengths}
use Rattle.meaning.specs.Step.{Cuts, grown}
use Rattle.meaning.proofs.Sets.{Reading}
use Rattle.meaning.proofs.Lengths.{lengths_reading}
use Rattle.meaning.proofs.Refusals.{unless_taken}
use Rattle.meaning.proofs.Histories.{watched-last}
use Rattle.meaning.proofs.Calls.{Agrees, open_run, blind, grown_agrees, refusal_agrees}
use Rattle.property.specs.Meant.{meant}
use Rattle.property.specs.declared.Property.{Property}
use Rattle.cuts.specs.Steps.{refusal_by}
use Rattle.session_record.specs.declared.Session.{Session}
use Rattle.session_record.specs.Record.{latest_of, cuts_of, out_of_range}
use Rattle.session_record.specs.Step.{fresh_of, stepped_of, stepped_through}
use Rattle.session_record.proofs.Fit.{in_range}
use Rattle.session_record.proofs.Steps.{answer-refusal, refusal-fits}
use Rattle.session_record.proofs.Grown.{grown-stands, grown_fit}
use Rattle.session_record.proofs.Running.{running_record}
use Rattle.demands.specs.Traces.{TakenOneByOne}

-- calls behind others
pub through_append : (s : Session) (a b : List Call) → stepped_through s (a ++ b) ≡ stepped_through (stepped_through s a) b
unfolding stepped_through
through_append s [] b = refl
through_append s (c ∷ a) b = through_append (stepped_of s c).session a b

module _ (p : Property) (good : property_refusal (meant p) ≡ 0) where
  abbrev pub running : List Call → Session
  running calls = stepped_through (fresh_of p).session calls

  abbrev pub seen : List Call → Watch
  seen calls = watched (meant p) fresh calls

  abbrev R : Reading (meant p) (Breaks (meant p))
  R = lengths_reading (meant p) good

  -- it stands for the session over cuts
  pub running_stands : (calls : List Call) → cuts_of (running calls) ≡ grown (meant p) calls
  running_stands calls = ap cuts_of (running_record p good calls) ∙ grown-stands p good calls

  pub running_range : (calls : List Call) → out_of_range (running calls) ≡ false
  running_range calls = ap out_of_range (running_record p good calls) ∙ in_range p good (grown_fit p good calls)

  pub running_property : (calls : List Call) → (running calls).property ≡ p
  running_property calls = ap (λ (s : Session). s.property) (running_record p good calls)

  agrees_clock : {w : Watch} {c : Cuts Lengths} → Agrees R w c → c.clock ≡ w.clock
  agrees_clock (open_run run clock f fit few) = refl
  agrees_clock (blind clock) = refl

  pub running_latest : (calls : List Call) → latest_of (running calls) ≡ (seen calls).clock.latest
  running_latest calls =
      ap (λ (k : Clock). k.latest) (ap (λ (c : Cuts Lengths). c.clock) (running_stands calls) ∙ agrees_clock (grown_agrees R calls))

  -- the refusal is that of the table over the history
  pub running_number : (calls : List Call) (c : Call) → (stepped_of (running calls) c).answer.refusal ≡ refusal (meant p) (seen calls) c
  running_number calls c =
      answer-refusal (running calls) c
      ∙ refusal-fits (running calls) c (running_range calls)
      ∙ (λ i. refusal_by (running_property calls i) (running_stands calls i) c)
      ∙ refusal_agrees R (grown_agrees R calls) c

  pub running_next : (calls : List Call) (c : Call) → running (calls ++ c ∷ []) ≡ (stepped_of (running calls) c).session
  unfolding stepped_through
  running_next calls c = through_append (fresh_of p).session calls (c ∷ [])

  pub seen_next : (calls : List Call) (c : Call) → seen (calls ++ c ∷ []) ≡ next (meant p) (seen calls) c
  seen_next calls c = watched-last (meant p) fresh calls c

  pub seen-taken : (calls : List Call) (c : Call) → refusal (meant p) (seen calls) c ≡ 0 → seen (calls ++ c ∷ []) ≡ taken (meant p) (seen calls) c
  seen-taken calls c e = seen_next calls c ∙ unless_taken (refusal (meant p) (seen calls) c) (taken (meant p) (seen calls) c) (seen calls) e

  -- calls that the session takes one by one are taken by the rules
  pub all-taken : (calls cs : List Call) → TakenOneByOne (running calls) cs → AllTaken (meant p) (seen calls) cs
  unfolding AllTaken
  all-taken calls [] h = tt
  all-taken calls (c ∷ cs) h =
      let z : refusal (meant p) (seen calls) c ≡ 0 = sym (running_number calls c) ∙ h.0 in (
        z,
        subst (λ (w : Watch). AllTaken (meant p) w cs) (seen-taken calls c z)
            (all-taken (calls ++ c ∷ []) cs (subst (λ (s : Session). TakenOneByOne s cs) (sym (running_next calls c)) h.1)),
      )
