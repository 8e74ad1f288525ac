-- Traces that are read as the same lines, each by its own reader, have the same listing: the card's records of lines that it can say, and
-- document 01's records of them.
use Prim.Native.Nat.{ℕ, zero, suc, ◌≤◌}
use mathlib.Core.Path.{◌≡◌, refl, sym, ◌∙◌, ap, subst}
use mathlib.Core.Bool.{false}
use mathlib.Core.List.{List, [], ◌∷◌, ◌++◌}
use native.Mathlib.Omega.{arith}
use lib.Dec.{lit≤}
use lib.ListN.{length, drop, length-drop}
use Rattle.property.specs.declared.Property.{Property}
use Rattle.property_form.specs.Read.{read}
use Rattle.record_form.specs.Record.{Reader, RecordAnswer, record_size, record_answer}
use Rattle.trace_form.specs.ReadAs.{ReadAs, read_as}
use Rattle.trace_form.specs.Trace.{Entry, stamp_of, entry_call, trace_form, TakenBy}
use Rattle.trace_form.proofs.ReadAs.{entry_read, end_read}
use Rattle.trace_form.proofs.Reader.{Reads, reads_whole, record_reads}
use Rattle.trace_form.proofs.Trace.{trace_reads_back}
use Rattle.tap_form.specs.Tap.{tap_size, tap_answer}
use Rattle.tap_form.specs.Card.{card_form, CardCanSay}
use Rattle.tap_form.proofs.Card.{card_reads_back, card_can_be_written}
use Rattle.tap_form.proofs.Reader.{tap_reads}
use Rattle.session_record.specs.declared.Session.{Session}
use Rattle.session_record.specs.Record.{latest_of, out_of_range}
use Rattle.session_record.specs.Step.{fresh_of, stepped_of, stepped_through}
use Rattle.session_record.proofs.Running.{fresh_record}
use Rattle.session_record.proofs.Steps.{stays_in_range}
use Rattle.walk.specs.Walk.{one_call, one_read}
use Rattle.printout.specs.Text.{header_text, end_text, stop_text}
use Rattle.printed.specs.Printed.{one_after, call_text}
use Rattle.printed.specs.Listing.{lines_by, listing_by, listing_of}
use Rattle.printed.proofs.Listing.{took-line, refused-line, end_line}
use Rattle.printed.proofs.Whole.{listing_taken, listing_refused}
use Rattle.demands.proofs.Running.{running_range}
use Rattle.demands.proofs.Listing.{read_good}
use Rattle.demands.proofs.Walks.{entry-latest}

-- The lines of a trace on a session, by the number with which its first call is refused, 0 for none; `on` are those of what follows.
abbrev by_first : ℕ → Session → ℕ → Entry → List ℕ → List ℕ
by_first zero s count e on = call_text (one_after count) (entry_call e) (stepped_of s (entry_call e)).session ++ on
by_first (suc n) s count e on = stop_text count (suc n)

unfoldable trace_text : Session → ℕ → List Entry → List ℕ
trace_text s count [] = end_text count
trace_text s count (e ∷ trace) =
    by_first (stepped_of s (entry_call e)).answer.refusal s count e (trace_text (stepped_of s (entry_call e)).session (one_after count) trace)

module _ (size : ℕ) (reader : Reader) (reads : Reads size reader) where
  -- a trace has no more records than bytes
  few : (trace : List Entry) (bytes : List ℕ) (before : ℕ) → TakenBy size reader bytes before trace → length trace ≤ length bytes
  few [] bytes before h = omega arith
  few (e ∷ trace) bytes before h =
      let whole = reads_whole reads bytes before (ap (λ (a : RecordAnswer). a.refusal) h.0) in
      omega (arith, whole, reads.some, few trace (drop size bytes) (stamp_of e) h.1, length-drop size bytes)

  trace_lines : (trace : List Entry) (most : ℕ) (s : Session) (count : ℕ) (bytes : List ℕ) → out_of_range s ≡ false → length trace ≤ most
      → TakenBy size reader bytes (latest_of s) trace → lines_by size reader (suc most) s count bytes ≡ trace_text s count trace
  unfolding trace_text
  trace_lines [] most s count bytes fits l h =
      end_line size reader reads most s count bytes fits (ap read_as h.0 ∙ end_read 0 (latest_of s))
  trace_lines (e ∷ trace) zero s count bytes fits l h = let z : ⊥ = omega (arith, l) in absurd z
  trace_lines (e ∷ trace) (suc most) s count bytes fits l h =
      go (stepped_of s (entry_call e)).answer.refusal refl (λ after ok k. trace_lines trace most after (one_after count) (drop size bytes) ok (omega (arith, l)) k)
    where
      after : Session
      after = (stepped_of s (entry_call e)).session

      is : read_as (reader bytes (latest_of s)) ≡ ReadAs.call (entry_call e)
      is = ap read_as h.0 ∙ entry_read e

      go : (n : ℕ) → (stepped_of s (entry_call e)).answer.refusal ≡ n
          → ((x : Session) → out_of_range x ≡ false → TakenBy size reader (drop size bytes) (latest_of x) trace
          → lines_by size reader (suc most) x (one_after count) (drop size bytes) ≡ trace_text x (one_after count) trace)
          → lines_by size reader (suc (suc most)) s count bytes ≡ by_first n s count e (trace_text after (one_after count) trace)
      go zero z on =
          took-line size reader reads (suc most) s count bytes fits (entry_call e) is z
          ∙ ap (λ (rest : List ℕ). call_text (one_after count) (entry_call e) after ++ rest)
          (on after (stays_in_range s fits (entry_call e)) (subst (λ (t : ℕ). TakenBy size reader (drop size bytes) t trace) (sym (entry-latest s e z)) h.1))
      go (suc n) z on =
          refused-line size reader reads (suc most) s count bytes fits (ReadAs.call (entry_call e)) is (suc n)
          (unfold one_read one_call in (ap (one_call s (entry_call e)) z))

  -- The listing of a property that is taken and of a trace.
  trace_listing : (property : List ℕ) (trace : List Entry) (bytes : List ℕ) → (read property).refusal ≡ 0 → TakenBy size reader bytes 0 trace
      → listing_by size reader property bytes ≡ header_text ++ trace_text (fresh_of (read property).property).session 0 trace
  unfolding stepped_through
  trace_listing property trace bytes e h =
      let p : Property = (read property).property in
      let good = read_good property e in
      listing_taken size reader property bytes e
      ∙ ap (λ (l : List ℕ). header_text ++ l)
      (trace_lines trace (length bytes) (fresh_of p).session 0 bytes (running_range p good []) (few trace bytes 0 h)
      (subst (λ (x : Session). TakenBy size reader bytes (latest_of x) trace) (sym (fresh_record p good)) h))

-- So it does not matter which reader has read the lines.
same_listing : (size other : ℕ) (reader second : Reader) → Reads size reader → Reads other second → (property : List ℕ) (trace : List Entry) (s t : List ℕ)
    → TakenBy size reader s 0 trace → TakenBy other second t 0 trace → listing_by size reader property s ≡ listing_by other second property t
same_listing size other reader second reads reads2 property trace s t h k = go (read property).refusal refl
  where
    go : (n : ℕ) → (read property).refusal ≡ n → listing_by size reader property s ≡ listing_by other second property t
    go zero e = trace_listing size reader reads property trace s e h ∙ sym (trace_listing other second reads2 property trace t e k)
    go (suc n) e = listing_refused size reader property s n e ∙ sym (listing_refused other second property t n e)

-- "Its logs must be judged as any other": of lines and marks that the card can say, its records have the listing of document 01's.
pub demand_tap : (property : List ℕ) (trace : List Entry) → CardCanSay 0 trace
    → listing_by tap_size tap_answer property (card_form trace) ≡ listing_of property (trace_form 0 trace)
demand_tap property trace can =
    same_listing tap_size record_size tap_answer record_answer tap_reads record_reads property trace (card_form trace) (trace_form 0 trace)
    (card_reads_back 0 trace (lit≤ tt) can) (trace_reads_back 0 trace (card_can_be_written 0 trace (lit≤ tt) can))
