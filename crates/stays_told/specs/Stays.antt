-- Document 02, CR 3: "A verdict once told stays told."
use Rattle.std.specs.Prelude.{◌≤◌, ◌≡◌, false, List, [], ◌∷◌, ◌++◌}
use Rattle.meaning.specs.Words.{Property, Line, Run, StampsFrom}
use Rattle.meaning.specs.Node.{Verdict, verdict_number, VerdictFor, IsVerdict}
use Rattle.meaning.specs.Calls.{Mark, Call, Watch, fresh, watched, kept, refusal, Standing, Answer, IsAnswer}
use Rattle.meaning.specs.History.{Event, fed, all_lines, Premises, NoMark, BreaksAfter}

-- "within a run the verdict never falls, over the definition and for all further lines with stamps that do not fall": its number
-- on the longer run is not below the one on the shorter.
abbrev pub NeverFalls : Property → Type 0
NeverFalls p =
    (run : Run) (more : List Line) → StampsFrom 0 (run ++ more)
    → (v w : Verdict) → IsVerdict p run v → IsVerdict p (run ++ more) w → verdict_number v ≤ verdict_number w

-- The same over a full history, for breaches that begin, at the node, with a line logged after `earlier`, as demand 3 has them.
abbrev pub NeverFallsAfter : Property → Type 0
NeverFallsAfter p =
    (earlier history more : List Line) → StampsFrom 0 (history ++ more)
    → (v w : Verdict) → VerdictFor (BreaksAfter p earlier) p history v → VerdictFor (BreaksAfter p earlier) p (history ++ more) w
    → verdict_number v ≤ verdict_number w

-- "a verdict closed by a gap mark is not above the one that the same run followed by the lost lines would have had, under demand
-- 3's premise on lost lines". The calls taken so far are what the watcher was fed of what was `logged`, a run is open, and a gap mark
-- is answered with a. `behind` is what was logged behind the run, of any length: lines lost before the mark, the mark, lines lost
-- behind it, further marks and the lines lost before or behind them.
abbrev pub ClosedNotAbove : Property → Type 0
ClosedNotAbove p =
    (calls : List Call) (logged behind : List Event) → kept p fresh calls ≡ fed logged → Premises (logged ++ behind)
    → (watched p fresh calls).clock.is_blind ≡ false
    → (g : Mark) (a : Answer) → IsAnswer p (watched p fresh calls) (Call.mark g) a
    → (w : Verdict) → IsVerdict p ((watched p fresh calls).run ++ all_lines behind) w → a.verdict ≤ verdict_number w

-- A run is open, and these calls do not close it: no gap mark among them is taken. Refused calls may be among them.
pub record SameRun (p : Property) (w : Watch) (more : List Call) : Type 0 where
  pub open_before : w.clock.is_blind ≡ false
  pub no_mark : NoMark (kept p w more)

-- The verdict that stands after more calls of the same run is not below the one that stood before them.
abbrev pub StandingStays : Property → Type 0
StandingStays p =
    (calls more : List Call) → SameRun p (watched p fresh calls) more
    → (v w : Verdict) → Standing p (watched p fresh calls) v → Standing p (watched p fresh (calls ++ more)) w → verdict_number v ≤ verdict_number w

-- The verdict answered to a later line of the same run, or to the gap mark that closes it, is not below one answered earlier.
abbrev pub AnswersStay : Property → Type 0
AnswersStay p =
    (calls : List Call) (l : Line) (more : List Call) (c : Call) → SameRun p (watched p fresh (calls ++ Call.line l ∷ [])) more
    → refusal p (watched p fresh (calls ++ Call.line l ∷ more)) c ≡ 0
    → (a b : Answer) → IsAnswer p (watched p fresh calls) (Call.line l) a → IsAnswer p (watched p fresh (calls ++ Call.line l ∷ more)) c b
    → a.verdict ≤ b.verdict
