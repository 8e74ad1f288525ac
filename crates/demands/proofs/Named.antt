-- The listing with names is one of the same records (`Lister`), with a name in each row.
use Prim.Native.Nat.{ℕ, suc, ◌+◌, ◌%◌, ◌^◌}
use mathlib.Core.Path.{◌≡◌, refl, ◌∙◌, ap}
use mathlib.Core.Bool.{false, cond}
use mathlib.Core.List.{List, [], ◌++◌, append-nil}
use lib.ListN.{take, drop}
use Rattle.meaning.specs.Words.{Action}
use Rattle.meaning.specs.Node.{Verdict, verdict_number}
use Rattle.record_form.specs.Record.{RecordAnswer, record_answer}
use Rattle.trace_form.specs.ReadAs.{ReadAs, read_as}
use Rattle.trace_form.specs.Trace.{Entry, kind_of, action_of, stamp_of, entry_call}
use Rattle.trace_form.proofs.Reader.{record_reads}
use Rattle.session_record.specs.declared.Session.{Session}
use Rattle.session_record.specs.Record.{latest_of, count_of, out_of_range}
use Rattle.session_record.specs.Step.{standing, stepped_of}
use Rattle.walk.specs.Walk.{One, one_call, one_read, one_of}
use Rattle.printout.specs.Text.{end_text, stop_text}
use Rattle.printout.specs.Named.{named_line_text}
use Rattle.printed.specs.Printed.{one_after, by_one, printed_of}
use Rattle.printed.proofs.Listed.{not_named}
use Rattle.named.specs.Named.{names_of, named_call_text, named_by_one, named_of}
use Rattle.named.specs.Listing.{named_lines_of}
use Rattle.demands.specs.Texts.{or_none, name_text, named_row_text, end_line, stop_line}
use Rattle.demands.proofs.Texts.{demand_last, demand_named_line}
use Rattle.demands.proofs.Listing.{Lister}

-- the name of a record, and its line
name_of : (Action → List ℕ) → Entry → List ℕ
name_of names (Entry.input k t) = names (Action.input k)
name_of names (Entry.output k t) = names (Action.output k)
name_of names (Entry.gap n t) = []

name-shown : (names : Action → List ℕ) (e : Entry) → or_none (name_of names e) ≡ name_text names e
unfolding name_of
name-shown names (Entry.input k t) = refl
name-shown names (Entry.output k t) = refl
name-shown names (Entry.gap n t) = refl

entry-line : (names : Action → List ℕ) (number : ℕ) (e : Entry) (after : Session)
    → named_call_text names number (entry_call e) after ≡ named_line_text number (kind_of e) (action_of e) (name_of names e) (stamp_of e) (standing after) (count_of after)
unfolding named_call_text name_of
entry-line names number (Entry.input a t) after = refl
entry-line names number (Entry.output a t) after = refl
entry-line names number (Entry.gap n t) after = refl

-- with the verdict standing after it
pub named_entry_text : (names : Action → List ℕ) (number : ℕ) (e : Entry) (after : Session) (v : Verdict) → standing after ≡ verdict_number v
    → named_call_text names number (entry_call e) after ≡ named_row_text names (record { number = number; entry = e; verdict = v; open_count = count_of after })
named_entry_text names number e after v h =
    entry-line names number e after
    ∙ ap (λ (w : ℕ). named_line_text number (kind_of e) (action_of e) (name_of names e) (stamp_of e) w (count_of after)) h
    ∙ demand_named_line names (record { number = number; entry = e; verdict = v; open_count = count_of after }) (name_of names e) (name-shown names e)

module _ (site release : List ℕ) where
  abbrev names : Action → List ℕ
  names = names_of site release

  abbrev lines : ℕ → Session → ℕ → List ℕ → List ℕ
  lines most s count bytes = named_lines_of site release most s count bytes

  module _ (most : ℕ) (s : Session) (count : ℕ) (bytes : List ℕ) (fits : out_of_range s ≡ false) where
    -- what a record adds, with all behind it, by what it does to the session
    abbrev added : One → List ℕ
    added o = named_by_one names count o ++ cond (by_one s count o).more (lines most (by_one s count o).session (by_one s count o).count (drop 6 bytes)) []

    by_read : (x : ReadAs) → read_as (record_answer bytes (latest_of s)) ≡ x → (o : One) → one_read s x ≡ o → lines (suc most) s count bytes ≡ added o
    unfolding named_lines_of named_of
    by_read x e o q =
        let one : one_of s (take 6 bytes) ≡ o =
        ap (λ (a : RecordAnswer). one_read s (read_as a)) (record_reads.front bytes (latest_of s)) ∙ ap (one_read s) e ∙ q in
        let p : printed_of s count (take 6 bytes) ≡ by_one s count o = not_named record_answer s count (take 6 bytes) fits ∙ ap (by_one s count) one in
        λ i.
        cond (fits i) (stop_text count 10) (named_by_one names count (one i))
        ++ cond (p i).more (lines most (p i).session (p i).count (drop 6 bytes)) []

    pub ended : read_as (record_answer bytes (latest_of s)) ≡ ReadAs.end → lines (suc most) s count bytes ≡ end_line count
    ended e = by_read ReadAs.end e One.ended (unfold one_read in refl) ∙ shows ∙ (demand_last count 0).0
      where
        shows : added One.ended ≡ end_text count
        shows = unfold by_one named_by_one in (append-nil (end_text count))

    pub refused : (x : ReadAs) → read_as (record_answer bytes (latest_of s)) ≡ x → (n : ℕ) → one_read s x ≡ One.refused n → lines (suc most) s count bytes ≡ stop_line count n
    refused x e n q = by_read x e (One.refused n) q ∙ shows ∙ (demand_last count n).1
      where
        shows : added (One.refused n) ≡ stop_text count n
        shows = unfold by_one named_by_one in (append-nil (stop_text count n))

    pub called : (e : Entry) → read_as (record_answer bytes (latest_of s)) ≡ ReadAs.call (entry_call e) → (stepped_of s (entry_call e)).answer.refusal ≡ 0
        → (v : Verdict) → standing (stepped_of s (entry_call e)).session ≡ verdict_number v
        → lines (suc most) s count bytes
        ≡ named_row_text names (record { number = (count + 1) % 2 ^ 64; entry = e; verdict = v; open_count = count_of (stepped_of s (entry_call e)).session })
        ++ lines most (stepped_of s (entry_call e)).session ((count + 1) % 2 ^ 64) (drop 6 bytes)
    called e q z v h = by_read (ReadAs.call (entry_call e)) q (One.took (entry_call e) after) is ∙ shows ∙ ap (λ (t : List ℕ). t ++ lines most after next (drop 6 bytes)) (named_entry_text names next e after v h)
      where
        after : Session
        after = (stepped_of s (entry_call e)).session

        next : ℕ
        next = (count + 1) % 2 ^ 64

        is : one_read s (ReadAs.call (entry_call e)) ≡ One.took (entry_call e) after
        is = unfold one_read one_call in (ap (one_call s (entry_call e)) z)

        shows : added (One.took (entry_call e) after) ≡ named_call_text names next (entry_call e) after ++ lines most after next (drop 6 bytes)
        shows = unfold by_one named_by_one one_after in refl

  unfoldable pub named_lister : Lister 6 record_answer
  named_lister = record { row = named_row_text names; lines = lines; at_end = ended; at-refusal = refused; at_call = called }
