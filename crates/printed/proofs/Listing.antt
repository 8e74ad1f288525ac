-- What one record adds to the whole listing: the line of a call that is taken, or the last line.
use Rattle.std.proofs.Common.{◌≡◌, ℕ, suc, false, List, ◌++◌, take, drop, refl, ap, ◌∙◌, append-nil}
use Rattle.meaning.specs.Calls.{Call}
use Rattle.record_form.specs.Record.{Reader, RecordAnswer}
use Rattle.trace_form.specs.ReadAs.{ReadAs, read_as}
use Rattle.trace_form.proofs.Reader.{Reads}
use Rattle.session_record.specs.declared.Session.{Session}
use Rattle.session_record.specs.Record.{latest_of, out_of_range}
use Rattle.session_record.specs.Step.{stepped_of}
use Rattle.walk.specs.Walk.{One, one_call, one_read}
use Rattle.printout.specs.Text.{end_text, stop_text}
use Rattle.printed.specs.declared.Printed.{Printed}
use Rattle.printed.specs.Printed.{one_after, call_text, by_one}
use Rattle.printed.specs.Listing.{and_more, lines_by}
use Rattle.printed.proofs.Listed.{not_named}

module _ (size : ℕ) (reader : Reader) (reads : Reads size reader) (most : ℕ) (s : Session) (count : ℕ) (bytes : List ℕ) (fits : out_of_range s ≡ false) where
  -- what it adds, with all behind it, by what it does to the session
  abbrev added : One → List ℕ
  added o = and_more (by_one s count o) (lines_by size reader most (by_one s count o).session (by_one s count o).count (drop size bytes))

  by_read : (x : ReadAs) → read_as (reader bytes (latest_of s)) ≡ x → (o : One) → one_read s x ≡ o → lines_by size reader (suc most) s count bytes ≡ added o
  unfolding lines_by
  by_read x e o q =
      ap (λ (r : Printed). and_more r (lines_by size reader most r.session r.count (drop size bytes)))
      (not_named reader s count (take size bytes) fits
      ∙ ap (λ (a : RecordAnswer). by_one s count (one_read s (read_as a))) (reads.front bytes (latest_of s))
      ∙ ap (λ (y : ReadAs). by_one s count (one_read s y)) e
      ∙ ap (by_one s count) q)

  -- a call that is taken adds its line
  pub took-line : (c : Call) → read_as (reader bytes (latest_of s)) ≡ ReadAs.call c → (stepped_of s c).answer.refusal ≡ 0
      → lines_by size reader (suc most) s count bytes
      ≡ call_text (one_after count) c (stepped_of s c).session ++ lines_by size reader most (stepped_of s c).session (one_after count) (drop size bytes)
  took-line c e z = by_read (ReadAs.call c) e (One.took c after) is ∙ shows
    where
      after : Session
      after = (stepped_of s c).session

      is : one_read s (ReadAs.call c) ≡ One.took c after
      is = unfold one_read one_call in (ap (one_call s c) z)

      shows : added (One.took c after) ≡ call_text (one_after count) c after ++ lines_by size reader most after (one_after count) (drop size bytes)
      shows =
          unfold by_one in refl

  -- a refused record, or call, adds the last line, and so does an end
  pub refused-line : (x : ReadAs) → read_as (reader bytes (latest_of s)) ≡ x → (n : ℕ) → one_read s x ≡ One.refused n → lines_by size reader (suc most) s count bytes ≡ stop_text count n
  refused-line x e n q = by_read x e (One.refused n) q ∙ shows
    where
      shows : added (One.refused n) ≡ stop_text count n
      shows = unfold by_one in (append-nil _)

  pub end_line : read_as (reader bytes (latest_of s)) ≡ ReadAs.end → lines_by size reader (suc most) s count bytes ≡ end_text count
  end_line e = by_read ReadAs.end e One.ended (unfold one_read in refl) ∙ shows
    where
      shows : added One.ended ≡ end_text count
      shows = unfold by_one in (append-nil _)
