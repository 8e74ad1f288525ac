-- What the records of a trace add to a listing: a row for each (`Rows`), and the last line.
use Prim.Native.Nat.{ℕ, zero, suc, ◌+◌, ◌*◌, ◌%◌, ◌^◌, ◌<◌, ◌≤◌}
use mathlib.Core.Path.{◌≡◌, refl, sym, ◌∙◌, ap, ap₂, subst}
use mathlib.Core.Bool.{Bool, true, false, cond}
use mathlib.Core.Logic.{inl, inr}
use mathlib.Core.List.{List, [], ◌∷◌, ◌++◌, append_assoc}
use native.Mathlib.Omega.{arith}
use lib.Arith.{digits_mod}
use lib.ListN.{length, drop, length-drop}
use Rattle.meaning.specs.Node.{Verdict, verdict_number}
use Rattle.meaning.specs.Numbers.{property_refusal}
use Rattle.meaning.specs.Calls.{Call, open_of}
use Rattle.meaning.proofs.Lengths.{lengths_reading}
use Rattle.meaning.proofs.Calls.{grown_agrees, open_agrees}
use Rattle.property.specs.Meant.{meant}
use Rattle.property.specs.declared.Property.{Property}
use Rattle.property_form.specs.Read
use Rattle.property_form.proofs.Answers.{refusal-read, property_of_read, not-refused}
use Rattle.record_form.specs.Record.{Reader, RecordAnswer, record_size}
use Rattle.record_form.specs.Record
use Rattle.trace_form.specs.ReadAs.{ReadAs, read_as}
use Rattle.trace_form.specs.Trace.{Entry, kind_of, action_of, stamp_of, entry_call}
use Rattle.trace_form.proofs.Reader.{Reads, reads_whole}
use Rattle.session_record.specs.declared.Session.{Session}
use Rattle.session_record.specs.Record.{latest_of, count_of, out_of_range}
use Rattle.session_record.specs.Step.{standing, fresh_of, stepped_of, stepped_through}
use Rattle.session_record.proofs.Running.{running_record}
use Rattle.walk.specs.Walk.{Stopping, One, one_call, one_read, one_of, stopped, walked_by, walk_on, walk_answer, walk_of}
use Rattle.printout.specs.Text.{line_text, stop_text}
use Rattle.printed.specs.Printed.{one_after, call_text, last_line, by_one, printed_by, printed_of}
use Rattle.printed.specs.Listing.{lines_by, records_by}
use Rattle.printed.proofs.Listing.{took-line, refused-line, end_line as end-line_of}
use Rattle.demands.specs.Traces.{calls_of, BeginsBy, behind_by, TakenOneByOne}
use Rattle.demands.specs.Texts.{Row, row_text, all_rows, end_line, stop_line}
use Rattle.demands.specs.Listing.{Rows, counted, LastLine}
use Rattle.demands.proofs.Texts.{demand_last, demand_line}
use Rattle.demands.proofs.Running.{running, seen, running_range, running_next}
use Rattle.demands.proofs.Exact.{standing-told}
use Rattle.demands.proofs.Walks.{Front, entry, ended, refused, front, entry-latest}

-- Up to 2 ^ 64 − 1 records the count is their number.
pub listing_count : (number : ℕ) (entries : List Entry) → number + length entries < 2 ^ 64 → counted number entries ≡ number + length entries
listing_count number [] h = omega arith
listing_count number (e ∷ entries) h =
    let few : number + 1 < 2 ^ 64 = omega (arith, h) in
    let z : number + 1 ≡ 0 * 2 ^ 64 + (number + 1) = omega arith in
    let one : (number + 1) % 2 ^ 64 ≡ number + 1 = ap (λ (n : ℕ). n % 2 ^ 64) z ∙ digits_mod 0 few in
    ap (λ (n : ℕ). counted n entries) one
    ∙ listing_count (number + 1) entries (omega (arith, h))
    ∙ (let s : number + 1 + length entries ≡ number + suc (length entries) = omega arith in s)

-- ---- listings

-- What is used of a listing of records of a size, as a reader reads them: the text of a row, and what is listed behind so many rows by what
-- the record at the front is.
pub record Lister (size : ℕ) (reader : Reader) : Type 0 where
  pub row : Row → List ℕ
  pub lines : ℕ → Session → ℕ → List ℕ → List ℕ
  pub at_end : (most : ℕ) (s : Session) (count : ℕ) (bytes : List ℕ) → out_of_range s ≡ false → read_as (reader bytes (latest_of s)) ≡ ReadAs.end
      → lines (suc most) s count bytes ≡ end_line count
  pub at-refusal : (most : ℕ) (s : Session) (count : ℕ) (bytes : List ℕ) → out_of_range s ≡ false → (x : ReadAs) → read_as (reader bytes (latest_of s)) ≡ x
      → (n : ℕ) → one_read s x ≡ One.refused n → lines (suc most) s count bytes ≡ stop_line count n
  pub at_call : (most : ℕ) (s : Session) (count : ℕ) (bytes : List ℕ) → out_of_range s ≡ false → (e : Entry)
      → read_as (reader bytes (latest_of s)) ≡ ReadAs.call (entry_call e) → (stepped_of s (entry_call e)).answer.refusal ≡ 0
      → (v : Verdict) → standing (stepped_of s (entry_call e)).session ≡ verdict_number v
      → lines (suc most) s count bytes
      ≡ row (record { number = (count + 1) % 2 ^ 64; entry = e; verdict = v; open_count = count_of (stepped_of s (entry_call e)).session })
      ++ lines most (stepped_of s (entry_call e)).session ((count + 1) % 2 ^ 64) (drop size bytes)

-- the line of a record's call, with the verdict standing after it
pub entry-text : (number : ℕ) (e : Entry) (after : Session) (v : Verdict) → standing after ≡ verdict_number v
    → call_text number (entry_call e) after ≡ row_text (record { number = number; entry = e; verdict = v; open_count = count_of after })
entry-text number e after v h =
    text e
    ∙ ap (λ (w : ℕ). line_text number (kind_of e) (action_of e) (stamp_of e) w (count_of after)) h
    ∙ demand_line (record { number = number; entry = e; verdict = v; open_count = count_of after })
  where
    text : (e : Entry) → call_text number (entry_call e) after ≡ line_text number (kind_of e) (action_of e) (stamp_of e) (standing after) (count_of after)
    text (Entry.input a t) = unfold call_text in refl
    text (Entry.output a t) = unfold call_text in refl
    text (Entry.gap n t) = unfold call_text in refl

-- The listing without names is one.
pub plain : (size : ℕ) (reader : Reader) → Reads size reader → Lister size reader
plain size reader reads =
    record {
      row = row_text;
      lines = lines_by size reader;
      at_end = λ most s count bytes fits e. end-line_of size reader reads most s count bytes fits e ∙ (demand_last count 0).0;
      at-refusal = λ most s count bytes fits x e n q. refused-line size reader reads most s count bytes fits x e n q ∙ (demand_last count n).1;
      at_call = called;
    }
  where
    called : (most : ℕ) (s : Session) (count : ℕ) (bytes : List ℕ) → out_of_range s ≡ false → (e : Entry)
        → read_as (reader bytes (latest_of s)) ≡ ReadAs.call (entry_call e) → (stepped_of s (entry_call e)).answer.refusal ≡ 0
        → (v : Verdict) → standing (stepped_of s (entry_call e)).session ≡ verdict_number v
        → lines_by size reader (suc most) s count bytes
        ≡ row_text (record { number = (count + 1) % 2 ^ 64; entry = e; verdict = v; open_count = count_of (stepped_of s (entry_call e)).session })
        ++ lines_by size reader most (stepped_of s (entry_call e)).session ((count + 1) % 2 ^ 64) (drop size bytes)
    called most s count bytes fits e q z v h =
        let after = (stepped_of s (entry_call e)).session in
        unfold one_after in
        (took-line size reader reads most s count bytes fits (entry_call e) q z
        ∙ ap (λ (t : List ℕ). t ++ lines_by size reader most after ((count + 1) % 2 ^ 64) (drop size bytes))
        (entry-text ((count + 1) % 2 ^ 64) e after v h))

module _ (p : Property) (good : property_refusal (meant p) ≡ 0) where
  -- the number held is the number that Room counts
  open_told : (calls : List Call) → count_of (running p good calls) ≡ open_of (meant p) (seen p good calls)
  open_told calls =
      let R = lengths_reading (meant p) good in
      ap count_of (running_record p good calls) ∙ open_agrees R (grown_agrees R calls)

  -- The bytes begin with these records, as a reader of records of this size reads them, each is taken as a single call, there is a row for
  -- each, and the last line.
  pub record Listed (size : ℕ) (reader : Reader) (before : List Call) (number : ℕ) (bytes : List ℕ) : Type 0 where
    pub entries : List Entry
    pub begins : BeginsBy size reader bytes (latest_of (running p good before)) entries
    pub each : TakenOneByOne (running p good before) (calls_of entries)
    pub rows : List Row
    pub are_rows : Rows (meant p) before number entries rows
    pub last : List ℕ
    pub is_last : LastLine reader (stepped_through (running p good before) (calls_of entries)) (behind_by size entries bytes) (counted number entries) last

  -- Any listing's text of so many lines is these rows, as it writes them, and the last line.
  pub record AllListed (size : ℕ) (reader : Reader) (most : ℕ) (before : List Call) (number : ℕ) (bytes : List ℕ) : Type 0 where
    pub listed : Listed size reader before number bytes
    pub whole : (L : Lister size reader) → L.lines most (running p good before) number bytes ≡ all_rows L.row listed.rows ++ listed.last

  module _ (size : ℕ) (reader : Reader) (reads : Reads size reader) (most : ℕ) (before : List Call) (number : ℕ) (bytes : List ℕ) where
    abbrev s : Session
    s = running p good before

    fits : out_of_range s ≡ false
    fits = running_range p good before

    -- the last line
    none_more : (text : List ℕ) → LastLine reader s bytes number text → ((L : Lister size reader) → L.lines (suc most) s number bytes ≡ text)
        → AllListed size reader (suc most) before number bytes
    unfolding stepped_through all_rows
    none_more text h all =
        record { listed = record { entries = []; begins = tt; each = tt; rows = []; are_rows = refl; last = text; is_last = h }; whole = all }

    -- one line more
    module _ (e : Entry) (k : reader bytes (latest_of s) ≡ Record.taken (kind_of e) (action_of e) (stamp_of e)) (q : read_as (reader bytes (latest_of s)) ≡ ReadAs.call (entry_call e))
        (z : (stepped_of s (entry_call e)).answer.refusal ≡ 0) where
      abbrev next : List Call
      next = before ++ entry_call e ∷ []

      abbrev one : ℕ
      one = (number + 1) % 2 ^ 64

      one_line : AllListed size reader most next one (drop size bytes) → AllListed size reader (suc most) before number bytes
      unfolding stepped_through all_rows
      one_line all =
          let r = all.listed in
          let c = entry_call e in
          let to : running p good next ≡ (stepped_of s c).session = running_next p good before c in
          let latest : latest_of (running p good next) ≡ stamp_of e = ap latest_of to ∙ entry-latest s e z in
          let v = standing-told p good next in
          let row : Row = record { number = one; entry = e; verdict = v.0; open_count = open_of (meant p) (seen p good next) } in
          record {
            listed =
                record {
                  entries = e ∷ r.entries;
                  begins = (k, subst (λ (t : ℕ). BeginsBy size reader (drop size bytes) t r.entries) latest r.begins);
                  each = (z, subst (λ (x : Session). TakenOneByOne x (calls_of r.entries)) to r.each);
                  rows = row ∷ r.rows;
                  are_rows = (v.0, r.rows, v.1, refl, r.are_rows);
                  last = r.last;
                  is_last =
                      subst (λ (x : Session). LastLine reader (stepped_through x (calls_of r.entries)) (behind_by size r.entries (drop size bytes)) (counted one r.entries) r.last)
                      to r.is_last;
                };
            whole = λ L.
                L.at_call most s number bytes fits e q z v.0 (ap standing (sym to) ∙ v.2)
                ∙ ap₂ (λ (n : ℕ) (rest : List ℕ). L.row (record { number = one; entry = e; verdict = v.0; open_count = n }) ++ rest)
                (ap count_of (sym to) ∙ open_told next) (ap (λ (x : Session). L.lines most x one (drop size bytes)) (sym to) ∙ all.whole L)
                ∙ sym (append_assoc (L.row row) (all_rows L.row r.rows) r.last);
          }

    by_front : (x : ReadAs) → Front reader bytes (latest_of s) x → read_as (reader bytes (latest_of s)) ≡ x
        → ((after : List Call) → length (drop size bytes) < most → AllListed size reader most after ((number + 1) % 2 ^ 64) (drop size bytes))
        → length bytes < suc most → AllListed size reader (suc most) before number bytes
    by_front x (ended e) q on h = none_more (end_line number) (inl (e, refl)) (λ L. L.at_end most s number bytes fits q)
    by_front x (refused n e nz) q on h =
        none_more (stop_line number n) (inr (n, inl e, nz, refl)) (λ L. L.at-refusal most s number bytes fits (ReadAs.refused n) q n (unfold one_read in refl))
    by_front x (entry e k) q on h = by_number (stepped_of s (entry_call e)).answer.refusal refl
      where
        long : size ≤ length bytes
        long = reads_whole reads bytes (latest_of s) (ap (λ (a : RecordAnswer). a.refusal) k)

        by_number : (n : ℕ) → (stepped_of s (entry_call e)).answer.refusal ≡ n → AllListed size reader (suc most) before number bytes
        by_number zero z = one_line e k q z (on (before ++ entry_call e ∷ []) (omega (arith, long, h, length-drop size bytes, reads.some)))
        by_number (suc n) z =
            let r : one_read s (ReadAs.call (entry_call e)) ≡ One.refused (suc n) = unfold one_read one_call in (ap (one_call s (entry_call e)) z) in
            none_more (stop_line number (suc n)) (inr (suc n, inr (e, k, z), (λ y. omega arith), refl))
            (λ L. L.at-refusal most s number bytes fits (ReadAs.call (entry_call e)) q (suc n) r)

  pub all_listed : (size : ℕ) (reader : Reader) → Reads size reader → (most : ℕ) (before : List Call) (number : ℕ) (bytes : List ℕ) → length bytes < most
      → AllListed size reader most before number bytes
  all_listed size reader reads zero before number bytes h = absurd (omega arith)
  all_listed size reader reads (suc most) before number bytes h =
      by_front size reader reads most before number bytes (read_as (reader bytes (latest_of (running p good before)))) (front reads bytes (latest_of (running p good before))) refl
      (λ after l. all_listed size reader reads most after ((number + 1) % 2 ^ 64) (drop size bytes) l) h

  -- Of the listing without names: its text is these rows and the last line.
  pub record ShownBy (size : ℕ) (reader : Reader) (before : List Call) (number : ℕ) (bytes text : List ℕ) : Type 0 where
    pub listed : Listed size reader before number bytes
    pub whole : text ≡ all_rows row_text listed.rows ++ listed.last

-- ---- the public calls of the listing

-- a record that a walk refuses adds the stop, with the walk's number, and no more
pub refused-shown : (s : Session) (count : ℕ) (bytes : List ℕ) (n : ℕ) → (walk_of s bytes 1).refusal ≡ suc n → printed_of s count bytes ≡ last_line s count (stop_text count (suc n))
refused-shown s count bytes n e = unfold printed_by in (named (out_of_range s) (unfold walk_of in e))
  where
    by : (o : One) → (walk_answer bytes (walked_by o s (λ after. walk_on 0 after (drop record_size bytes)))).refusal ≡ suc n → by_one s count o ≡ last_line s count (stop_text count (suc n))
    by One.ended h = absurd (unfold walked_by in (omega (arith, h)))
    by (One.refused m) h = unfold walked_by by_one in (ap (λ (k : ℕ). last_line s count (stop_text count k)) h)
    by (One.took c after) h = absurd (unfold walked_by walk_on in (omega (arith, h)))

    named : (t : Bool) → (walk_answer bytes (cond t (stopped s (Stopping.at_refusal 10) 0) (walk_on 1 s bytes))).refusal ≡ suc n
        → cond t (last_line s count (stop_text count 10)) (by_one s count (one_of s bytes)) ≡ last_line s count (stop_text count (suc n))
    named true h = ap (λ (k : ℕ). last_line s count (stop_text count k)) h
    named false h = by (one_of s bytes) (unfold walk_on in h)

-- a property that is taken
pub read_good : (property : List ℕ) → (Read.read property).refusal ≡ 0 → property_refusal (meant (Read.read property).property) ≡ 0
read_good property e =
    let r : Read.read_refusal property ≡ 0 = sym (refusal-read property) ∙ e in
    ap (λ (q : Property). property_refusal (meant q)) (property_of_read property r) ∙ not-refused property r

module _ (size : ℕ) (reader : Reader) (reads : Reads size reader) (property records : List ℕ) (e : (Read.read property).refusal ≡ 0) where
  abbrev p : Property
  p = (Read.read property).property

  all : AllListed p (read_good property e) size reader (suc (length records)) [] 0 records
  all = all_listed p (read_good property e) size reader reads (suc (length records)) [] 0 records (omega arith)

  pub listing_shown : ShownBy p (read_good property e) size reader [] 0 records (records_by size reader (fresh_of p).session 0 records)
  unfolding stepped_through plain
  listing_shown = record { listed = all.listed; whole = all.whole (plain size reader reads) }

  -- Any other listing of the same records has the same rows, as it writes them, and the same last line.
  pub listing_beside : (L : Lister size reader)
      → L.lines (suc (length records)) (fresh_of p).session 0 records ≡ all_rows L.row listing_shown.listed.rows ++ listing_shown.listed.last
  unfolding stepped_through listing_shown
  listing_beside L = all.whole L
