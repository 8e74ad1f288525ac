-- A record on a session and on the one made of its rows: the same, but that where nothing is taken the session comes back as it was.
use Rattle.std.proofs.Common.{◌≡◌, ℕ, Bool, true, false, cond, List, sym, refl, ap, ◌∙◌}
use Rattle.record_form.specs.Record.{record_answer}
use Rattle.trace_form.specs.ReadAs.{read_as}
use Rattle.session_record.specs.declared.Session.{Session}
use Rattle.session_record.specs.Record.{latest_of, out_of_range}
use Rattle.session_record.specs.Lent.{Memory, memory_of, record_in, tidied}
use Rattle.walk.specs.Walk.{One, one_of}
use Rattle.walk.proofs.Tidied.{one_same}
use Rattle.printed.specs.declared.Printed.{Printed}
use Rattle.printed.specs.declared.lent.Added.{Added}
use Rattle.printed.specs.Printed.{by_one, printed_of}
use Rattle.printed.specs.Lent.{in_session, Adds}
use Rattle.printed.proofs.Listed.{not_named}

module _ (s : Session) (fits : out_of_range s ≡ false) (count : ℕ) where
  -- The session as it was, where nothing is taken.
  abbrev kept : Printed → Printed
  kept w = cond w.more w (record { text = w.text; session = s; count = w.count; more = false })

  same_by : (o : One) → by_one s count o ≡ kept (by_one (tidied s) count o)
  unfolding by_one
  same_by One.ended = refl
  same_by (One.refused n) = refl
  same_by (One.took c after) = refl

  -- the record by value, from the one on its rows
  module _ (bytes : List ℕ) (r : Added) (after : Memory) (adds : Adds (memory_of s) count (read_as (record_answer bytes (latest_of s))) r after) where
    comes_to : kept (in_session r (record_in after)) ≡ printed_of s count bytes
    comes_to =
        ap kept (sym adds.listed ∙ ap (by_one (tidied s) count) (one_same s fits (read_as (record_answer bytes (latest_of s)))))
        ∙ sym (same_by (one_of s bytes))
        ∙ sym (not_named record_answer s count bytes fits)

    pub by_value : (t : Session) → t ≡ cond r.more (record_in after) s
        → ◌≡◌ {A = Printed} (record { text = r.text; session = t; count = r.count; more = r.more }) (printed_of s count bytes)
    by_value t is = (λ i. record { text = r.text; session = is i; count = r.count; more = r.more }) ∙ go r.more ∙ comes_to
      where
        go : (m : Bool) → record { text = r.text; session = cond m (record_in after) s; count = r.count; more = m }
            ≡ kept (record { text = r.text; session = record_in after; count = r.count; more = m })
        go true = refl
        go false = refl
