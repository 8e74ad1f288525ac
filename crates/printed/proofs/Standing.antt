-- The answer to a call that is taken, and what stands on the session after it.
use Rattle.std.proofs.Common.{◌≡◌, sym, refl, ap, ◌∙◌, subst}
use Rattle.meaning.specs.Words.{Line}
use Rattle.meaning.specs.Node.{verdict_number}
use Rattle.meaning.specs.Calls.{Call, Mark}
use Rattle.meaning.specs.Matcher.{Lengths}
use Rattle.meaning.specs.Step.{Cuts}
use Rattle.cuts.specs.Steps.{verdict_by, taken_by}
use Rattle.session_record.specs.declared.Session.{Session}
use Rattle.session_record.specs.Step.{Stepping}
use Rattle.session_record.specs.Record.{count_of, cuts_of, record_of}
use Rattle.session_record.specs.Step.{refusal_of, stepped_of, standing}
use Rattle.session_record.proofs.Range.{ranged}
use Rattle.session_record.proofs.Fit.{cuts_back}
use Rattle.session_record.proofs.Steps.{answer-refusal, step_taken, taken-fits, step_fit}

-- After a line: its answer has both.
pub record AsAnswered (r : Stepping) : Type 0 where
  pub verdict : r.answer.verdict ≡ standing r.session
  pub counted : r.answer.open_count ≡ count_of r.session

pub line-answered : (s : Session) (l : Line) → (stepped_of s (Call.line l)).answer.refusal ≡ 0 → AsAnswered (stepped_of s (Call.line l))
unfolding standing
line-answered s l e =
    subst AsAnswered (sym (step_taken s (Call.line l) none))
    (record { verdict = ap (λ (c : Cuts Lengths). verdict_number (verdict_by s.property c)) (sym back); counted = refl })
  where
    none : refusal_of s (Call.line l) ≡ 0
    none = sym (answer-refusal s (Call.line l)) ∙ e

    back : cuts_of (record_of s.property (taken_by s.property (cuts_of s) (Call.line l))) ≡ taken_by s.property (cuts_of s) (Call.line l)
    back = cuts_back s.property (ranged s (taken-fits s (Call.line l) none)).formed (step_fit s (Call.line l) none)

-- After a gap mark: "`blind` and 0"
pub record AsBlind (s : Session) : Type 0 where
  pub verdict : 3 ≡ standing s
  pub counted : 0 ≡ count_of s

pub mark-blind : (s : Session) (g : Mark) → (stepped_of s (Call.mark g)).answer.refusal ≡ 0 → AsBlind (stepped_of s (Call.mark g)).session
unfolding standing
mark-blind s g e =
    subst (λ (r : Stepping). AsBlind r.session) (sym (step_taken s (Call.mark g) (sym (answer-refusal s (Call.mark g)) ∙ e))) (record { verdict = refl; counted = refl })
