-- The meaning's step over cuts and matched lengths, of a property given as plain data: shorter names, and no more.
use Rattle.std.specs.Prelude.{ℕ, Bool, List}
use Rattle.meaning.specs.Words.{Action, Line}
use Rattle.meaning.specs.Node.{Verdict}
use Rattle.meaning.specs.Calls.{Call}
use Rattle.meaning.specs.Calls
use Rattle.meaning.specs.Matcher.{Lengths}
use Rattle.meaning.specs.Step.{Held, Front, Cuts, lengths, closed, front_next, front_with, fresh_front, no_front, front_verdict}
use Rattle.meaning.specs.Step.{fresh_cuts, told, cuts_verdict, cuts_refusal, cuts_taken, cuts_next, cuts_told, cuts_answer, cuts_after}
use Rattle.property.specs.Meant.{action_of, meant}
use Rattle.property.specs.declared.Property.{Property}

-- A line: an output (true) or an input, its action's number, its stamp.
abbrev pub line_of : Bool → ℕ → ℕ → Line
line_of out act t = record { action = action_of out act; stamp = t }

-- A front: closed at a stamp, with a line of an action then, after a line, of an empty run, of none, and what it says.
abbrev pub front_closed : Property → ℕ → Lengths → List (Held Lengths) → Front Lengths
front_closed p = closed (meant p) (lengths (meant p))

abbrev pub front_then : Property → Action → Line → Front Lengths → Front Lengths
front_then p = front_next (meant p) (lengths (meant p))

abbrev pub front_after : Property → Front Lengths → Line → Front Lengths
front_after p = front_with (meant p) (lengths (meant p))

abbrev pub front_fresh : Property → Front Lengths
front_fresh p = fresh_front (meant p) (lengths (meant p))

abbrev pub front_none : Property → Front Lengths
front_none p = no_front (meant p) (lengths (meant p))

abbrev pub front_says : Property → Front Lengths → Verdict
front_says p = front_verdict (meant p) (lengths (meant p))

-- A session over cuts: fresh, its verdict, and a call's refusal, its session taken, its answer.
abbrev pub fresh_by : Property → Cuts Lengths
fresh_by p = fresh_cuts (meant p) (lengths (meant p))

abbrev pub verdict_by : Property → Cuts Lengths → Verdict
verdict_by p = cuts_verdict (meant p) (lengths (meant p))

abbrev pub refusal_by : Property → Cuts Lengths → Call → ℕ
refusal_by p = cuts_refusal (meant p) (lengths (meant p))

abbrev pub taken_by : Property → Cuts Lengths → Call → Cuts Lengths
taken_by p = cuts_taken (meant p) (lengths (meant p))

abbrev pub next_by : Property → Cuts Lengths → Call → Cuts Lengths
next_by p = cuts_next (meant p) (lengths (meant p))

abbrev pub told_by : Property → Cuts Lengths → Call → Calls.Answer
told_by p = cuts_told (meant p) (lengths (meant p))

abbrev pub answer_by : Property → Cuts Lengths → Call → Calls.Answer
answer_by p = cuts_answer (meant p) (lengths (meant p))

abbrev pub after_by : Property → Cuts Lengths → List Call → Cuts Lengths
after_by p = cuts_after (meant p) (lengths (meant p))

-- "the verdict .. and the number open", told
abbrev pub says : Property → Verdict → ℕ → Calls.Answer
says p = told (meant p) (lengths (meant p))
