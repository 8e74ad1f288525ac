-- A record on a session, by what it stands for.
use Rattle.std.specs.Prelude.{◌≡◌}
use Rattle.trace_form.specs.ReadAs.{ReadAs}
use Rattle.session_record.specs.Lent.{Memory, record_in, Ready}
use Rattle.one_record.specs.Doing.{Doing, doing_of, session_after}

-- A record leads from what the memory means to what it did and what the memory means then, and a next record can start from that.
pub record Takes (m : Memory) (x : ReadAs) (d : Doing) (after : Memory) : Type 0 where
  pub did : d ≡ doing_of (record_in m) x
  pub session : record_in after ≡ session_after (record_in m) x
  pub ready : Ready after
