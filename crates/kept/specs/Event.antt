-- The call of the meaning that an event stands for.
use Rattle.meaning.specs.Calls.{Call, mark_at}
use Rattle.cuts.specs.Steps.{line_of}
use Rattle.kept.specs.declared.Event.{Event}
use Rattle.kept.specs.declared.Event.TheVariants.{Line, Mark}

abbrev pub call_of : Event → Call
call_of (Line output action stamp) = Call.line (line_of output action stamp)
call_of (Mark lost stamp) = mark_at lost stamp
