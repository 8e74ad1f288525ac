-- `printed::size`, `begin` and `record`, and `named::record`, on any session record: what each adds to a listing, in the documents' words.
use Prim.Native.Nat.{ℕ, suc, ◌+◌, ◌-◌, ◌%◌, ◌^◌}
use mathlib.Core.Path.{◌≡◌, refl, sym, ◌∙◌, ap}
use mathlib.Core.Bool.{true, false, cond}
use mathlib.Core.List.{List, [], ◌++◌}
use lib.Dec.{eqb}
use lib.ListN.{length, replicate, take}
use Rattle.meaning.specs.Node.{Verdict, verdict_number}
use Rattle.fields.specs.Fields.{field}
use Rattle.property_form.specs.Form.{form_size}
use Rattle.property_form.specs.Read.{length_read}
use Rattle.property_form.specs.Read
use Rattle.record_form.specs.Record.{case_by, record_answer}
use Rattle.record_form.specs.Record
use Rattle.trace_form.specs.ReadAs.{ReadAs, read_as}
use Rattle.trace_form.specs.Trace.{Entry, kind_of, action_of, stamp_of, entry_call}
use Rattle.session_record.specs.declared.Session.{Session}
use Rattle.session_record.specs.Record.{latest_of, count_of, out_of_range}
use Rattle.session_record.specs.Step.{standing, fresh_of, stepped_of}
use Rattle.walk.specs.Walk.{One, one_call, one_read, one_of, walk_of}
use Rattle.line_text.specs.Kept.{kept, Keeps}
use Rattle.line_text.specs.Text.{room, named_room}
use Rattle.printout.specs.Text.{stop_text}
use Rattle.printed.specs.declared.Printed.{Printed}
use Rattle.printed.specs.Printed.{one_after, last_line, by_one, printed_of, opening_text, begun_of}
use Rattle.printed.proofs.Listed.{not_named}
use Rattle.named.specs.Named.{names_of, named_by_one, named_of}
use Rattle.named.proofs.Lines.{last-same}
use Rattle.demands.specs.Packed.{property_bytes}
use Rattle.demands.specs.Texts.{row_text, named_row_text, end_line, stop_line}
use Rattle.demands.proofs.Texts.{demand_last}
use Rattle.demands.proofs.Listing.{entry-text, refused-shown}
use Rattle.demands.proofs.Named.{named_entry_text}

-- A text is handed back in a room of its own, with zeros behind it: of these bytes a text of the listing, and one of the listing with names,
-- has these fields and no others.
pub text-kept : (l bytes : List ℕ) (len : ℕ) → take len bytes ≡ l
    → (Keeps 96 bytes len → (bytes ≡ l ++ replicate (96 - length l) 0) × (len ≡ length l))
    × (Keeps 144 bytes len → (bytes ≡ l ++ replicate (144 - length l) 0) × (len ≡ length l))
text-kept l bytes len e =
    (λ h. (sym h.zeros ∙ ap (kept 96) e, sym h.text ∙ ap length e), λ h. (sym h.zeros ∙ ap (kept 144) e, sym h.text ∙ ap length e))

-- `line_text::whole_line` and `whole_named_line` hand back the room of a line, and of one with names: these bytes and no others.
pub line-whole : (l bytes : List ℕ)
    → (bytes ≡ kept room l → bytes ≡ l ++ replicate (96 - length l) 0) × (bytes ≡ kept named_room l → bytes ≡ l ++ replicate (144 - length l) 0)
line-whole l bytes = (λ e. e, λ e. e)

-- `printed::size`: a property's first byte has its length n, and it takes 122 + 7n bits, "to a full byte";
pub demand_size : (s : List ℕ) → form_size (length_read s) ≡ property_bytes (field s 0 6)
demand_size s = refl

-- `begin`: "A refused property prints the header and `stop 0` with its number"; one that is taken, the header alone.
pub record Demand-begun (bytes : List ℕ) : Type 0 where
  pub refused : (n : ℕ) → (Read.read bytes).refusal ≡ suc n → (begun_of bytes).text ≡ stop_line 0 (suc n)
  pub taken : (Read.read bytes).refusal ≡ 0 → (begun_of bytes).text ≡ []
  pub session : (begun_of bytes).session ≡ (fresh_of (Read.read bytes).property).session
  pub count : (begun_of bytes).count ≡ 0
  pub more : (begun_of bytes).more ≡ eqb (Read.read bytes).refusal 0

pub demand_begun : (bytes : List ℕ) → Demand-begun bytes
unfolding begun_of
demand_begun bytes =
    record {
      refused = λ n e. ap opening_text e ∙ (demand_last 0 (suc n)).1;
      taken = λ e. ap opening_text e;
      session = refl;
      count = refl;
      more = refl;
    }

-- what an entry that was read stands for
entry_read : (e : Entry) → read_as (Record.taken (kind_of e) (action_of e) (stamp_of e)) ≡ ReadAs.call (entry_call e)
unfolding read_as case_by
entry_read (Entry.input k t) = refl
entry_read (Entry.output k t) = refl
entry_read (Entry.gap k t) = refl

end_read : (t : ℕ) → read_as (Record.taken Record.end 0 t) ≡ ReadAs.end
unfolding read_as case_by
end_read t = refl

module _ (s : Session) (count : ℕ) (bytes : List ℕ) where
  abbrev number : ℕ
  number = (count + 1) % 2 ^ 64

  ended-one : record_answer bytes (latest_of s) ≡ Record.taken Record.end 0 (latest_of s) → one_of s bytes ≡ One.ended
  ended-one h = ap (one_read s) (ap read_as h ∙ end_read (latest_of s)) ∙ (unfold one_read in refl)

  taken-one : (e : Entry) → record_answer bytes (latest_of s) ≡ Record.taken (kind_of e) (action_of e) (stamp_of e)
      → (stepped_of s (entry_call e)).answer.refusal ≡ 0 → one_of s bytes ≡ One.took (entry_call e) (stepped_of s (entry_call e)).session
  taken-one e h z = ap (one_read s) (ap read_as h ∙ entry_read e) ∙ (unfold one_read one_call in (ap (one_call s (entry_call e)) z))

  -- `record`: what the walk of one record refuses (10 first) is the number that the last line names,
  pub record Demand-printed : Type 0 where
    pub refused : (n : ℕ) → (walk_of s bytes 1).refusal ≡ suc n
        → printed_of s count bytes ≡ record { text = stop_line count (suc n); session = s; count = count; more = false }
    -- an end record is the last line,
    pub ended : out_of_range s ≡ false → record_answer bytes (latest_of s) ≡ Record.taken Record.end 0 (latest_of s)
        → printed_of s count bytes ≡ record { text = end_line count; session = s; count = count; more = false }
    -- and a record that is taken is a row, with the verdict standing after it and the number open.
    pub taken : out_of_range s ≡ false → (e : Entry) → record_answer bytes (latest_of s) ≡ Record.taken (kind_of e) (action_of e) (stamp_of e)
        → (stepped_of s (entry_call e)).answer.refusal ≡ 0 → (v : Verdict) → standing (stepped_of s (entry_call e)).session ≡ verdict_number v
        → printed_of s count bytes
        ≡ record {
          text = row_text (record { number = number; entry = e; verdict = v; open_count = count_of (stepped_of s (entry_call e)).session });
          session = (stepped_of s (entry_call e)).session;
          count = number;
          more = true;
        }

  by : out_of_range s ≡ false → (o : One) → one_of s bytes ≡ o → printed_of s count bytes ≡ by_one s count o
  by fits o q = not_named record_answer s count bytes fits ∙ ap (by_one s count) q

  pub demand_printed : Demand-printed
  demand_printed =
      record {
        refused = λ n e. refused-shown s count bytes n e ∙ ap (last_line s count) (demand_last count (suc n)).1;
        ended = λ fits h. by fits One.ended (ended-one h) ∙ (unfold by_one in (ap (last_line s count) (demand_last count 0).0));
        taken = λ fits e h z v q.
            let after : Session = (stepped_of s (entry_call e)).session in
            by fits (One.took (entry_call e) after) (taken-one e h z)
            ∙ (unfold by_one one_after in
            (ap (λ (t : List ℕ). record { text = t; session = after; count = number; more = true }) (entry-text number e after v q)));
      }

  -- The same with names: `named::record`.
  module _ (site release : List ℕ) where
    pub record Demand-named-record : Type 0 where
      pub refused : (n : ℕ) → (walk_of s bytes 1).refusal ≡ suc n
          → named_of site release s count bytes ≡ record { text = stop_line count (suc n); session = s; count = count; more = false }
      pub ended : out_of_range s ≡ false → record_answer bytes (latest_of s) ≡ Record.taken Record.end 0 (latest_of s)
          → named_of site release s count bytes ≡ record { text = end_line count; session = s; count = count; more = false }
      pub taken : out_of_range s ≡ false → (e : Entry) → record_answer bytes (latest_of s) ≡ Record.taken (kind_of e) (action_of e) (stamp_of e)
          → (stepped_of s (entry_call e)).answer.refusal ≡ 0 → (v : Verdict) → standing (stepped_of s (entry_call e)).session ≡ verdict_number v
          → named_of site release s count bytes
          ≡ record {
            text = named_row_text (names_of site release) (record { number = number; entry = e; verdict = v; open_count = count_of (stepped_of s (entry_call e)).session });
            session = (stepped_of s (entry_call e)).session;
            count = number;
            more = true;
          }

    named_by : out_of_range s ≡ false → (o : One) → one_of s bytes ≡ o
        → named_of site release s count bytes
        ≡ record { text = named_by_one (names_of site release) count o; session = (by_one s count o).session; count = (by_one s count o).count; more = (by_one s count o).more }
    unfolding named_of
    named_by fits o q =
        let p = by fits o q in
        λ i. record {
          text = cond (fits i) (stop_text count 10) (named_by_one (names_of site release) count (q i));
          session = (p i).session;
          count = (p i).count;
          more = (p i).more;
        }

    last_named : (n : ℕ) → (walk_of s bytes 1).refusal ≡ suc n
        → named_of site release s count bytes ≡ record { text = stop_text count (suc n); session = s; count = count; more = false }
    unfolding named_of
    last_named n e =
        let p : printed_of s count bytes ≡ last_line s count (stop_text count (suc n)) = refused-shown s count bytes n e in
        let text = sym (last-same s count bytes (names_of site release) (printed_of s count bytes) refl (ap (λ (r : Printed). r.more) p))
        ∙ ap (λ (r : Printed). r.text) p in
        λ i. record { text = text i; session = (p i).session; count = (p i).count; more = (p i).more }

    pub demand_named_record : Demand-named-record
    demand_named_record =
        record {
          refused = λ n e.
              last_named n e ∙ ap (λ (t : List ℕ). record { text = t; session = s; count = count; more = false }) (demand_last count (suc n)).1;
          ended = λ fits h.
              named_by fits One.ended (ended-one h)
              ∙ (unfold by_one named_by_one in (ap (λ (t : List ℕ). record { text = t; session = s; count = count; more = false }) (demand_last count 0).0));
          taken = λ fits e h z v q.
              let after : Session = (stepped_of s (entry_call e)).session in
              named_by fits (One.took (entry_call e) after) (taken-one e h z)
              ∙ (unfold by_one named_by_one one_after in
              (ap (λ (t : List ℕ). record { text = t; session = after; count = number; more = true }) (named_entry_text (names_of site release) number e after v q)));
        }
