-- A line of a run that is taken.
use Rattle.std.specs.Prelude.{ℕ, ◌≡◌, List, length, Ok}
use Rattle.meaning.specs.Matcher.{Lengths}
use Rattle.meaning.specs.Step.{Front}
use Rattle.property.specs.declared.Property.{Property}
use Rattle.clock.specs.declared.Clock.{Clock}
use Rattle.cuts.specs.Steps.{front_says, says}
use Rattle.cuts.specs.Fronts.{Holds}
use Rattle.session_record.specs.Step.{answer_in, answer_of}
use Rattle.answers.specs.declared.Reply.{Reply}

-- The rows hold the front after it, and the answer is read off that front.
pub record LineTaken (p : Property) (f : Front Lengths) (clock : Clock) (rows : List (List ℕ)) (r : Reply) : Type 0 where
  pub holds : Holds p f rows r.status.span 0
  pub answered : answer_in (Ok r.told) ≡ answer_of (says p (front_says p f) (length f.held))
  pub clocked : r.status.clock ≡ clock
