-- The clock of the meaning that a clock in memory stands for, and the way back.
use Rattle.meaning.specs.Calls
use Rattle.clock.specs.declared.Clock.{Clock}

abbrev pub clock_of : Clock → Calls.Clock
clock_of k = record { latest = k.latest; is_blind = k.blind }

abbrev pub stored_clock : Calls.Clock → Clock
stored_clock k = record { latest = k.latest; blind = k.is_blind }
