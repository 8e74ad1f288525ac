-- What a property record means: the property of the meaning.
use Rattle.std.specs.Prelude.{false, List, get_or}
use Rattle.laws.specs.Places.{first}
use Rattle.laws.specs.Bits.{bit}
use Rattle.meaning.specs.Words.{Action}
pub use Rattle.meaning.specs.Words.{action_of}
use Rattle.meaning.specs.Words
use Rattle.property.specs.declared.Property.{Property}

-- The first n places are the sequence.
abbrev pub sequence_of : Property → List Action
sequence_of p = first (λ i. action_of (get_or p.output i false) (get_or p.number i 0)) p.n

-- Output k is allowed where bit k is set.
abbrev pub meant : Property → Words.Property
meant p =
    record {
      sequence = sequence_of p;
      allowed = bit p.allowed;
      LB = p.lb;
      UB = p.ub;
    }
