-- The property record that stands where there is no property.
use Rattle.std.specs.Prelude.{false, replicate}
use Rattle.meaning.specs.Limits.{most_actions}
use Rattle.property.specs.declared.Property.{Property}

-- "A refusal carries 0 in all other numbers"
abbrev pub zeros : Property
zeros =
    record {
      n = 0;
      output = replicate most_actions false;
      number = replicate most_actions 0;
      allowed = 0;
      lb = 0;
      ub = 0;
    }
