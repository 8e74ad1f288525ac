-- The whole listing of a property and of records: its loop, and its beginning.
use Rattle.std.proofs.Common.{◌≡◌, ℕ, zero, suc, ◌<◌, ◌≤◌, Bool, true, false, cond, eqb, List, [], ◌++◌, length, take, drop, sym, refl, ap, ◌∙◌, append-nil, arith, length-drop, length-take}
use lib.Dec.{eqb-suc-zero}
use Rattle.property_form.specs.Read.{read}
use Rattle.record_form.specs.Record.{Reader, refused}
use Rattle.trace_form.specs.ReadAs.{ReadAs, read_as}
use Rattle.trace_form.proofs.ReadAs.{refused-read}
use Rattle.trace_form.proofs.Reader.{Reads, by_size}
use Rattle.session_record.specs.declared.Session.{Session}
use Rattle.session_record.specs.Record.{latest_of, out_of_range}
use Rattle.session_record.specs.Step.{fresh_of}
use Rattle.walk.specs.Walk.{one_read}
use Rattle.printout.specs.Text.{header_text, stop_text}
use Rattle.printed.specs.declared.Printed.{Printed}
use Rattle.printed.specs.Printed.{last_line, by_one, printed_by, opening_text, begun_of}
use Rattle.printed.specs.Listing.{and_more, lines_by, records_by, listing_by}

-- ---- the loop

-- behind a last line nothing is added
last-alone : (r : Printed) (rest rest' : List ℕ) → r.more ≡ false → and_more r rest ≡ and_more r rest'
last-alone r rest rest' e = ap (λ (t : Bool). r.text ++ cond t rest []) e ∙ ap (λ (t : Bool). r.text ++ cond t rest' []) (sym e)

module _ (size : ℕ) (reader : Reader) (reads : Reads size reader) where
  -- Fewer bytes than a record are the last.
  pub short_last : (s : Session) (count : ℕ) (bytes : List ℕ) → length bytes < size → (printed_by reader s count bytes).more ≡ false
  unfolding printed_by
  short_last s count bytes h = go (out_of_range s)
    where
      is : read_as (reader bytes (latest_of s)) ≡ ReadAs.refused 7
      is = ap read_as (reads.short bytes (latest_of s) h) ∙ refused-read (refused 7) 6 refl

      stops : (by_one s count (one_read s (ReadAs.refused 7))).more ≡ false
      stops = unfold one_read by_one in refl

      go : (t : Bool) → (cond t (last_line s count (stop_text count 10)) (by_one s count (one_read s (read_as (reader bytes (latest_of s)))))).more ≡ false
      go true = refl
      go false = ap (λ (x : ReadAs). (by_one s count (one_read s x)).more) is ∙ stops

  -- so many turns are enough, and more add nothing
  enough : (m n : ℕ) (s : Session) (count : ℕ) (bytes : List ℕ) → length bytes < m → length bytes < n → lines_by size reader m s count bytes ≡ lines_by size reader n s count bytes
  unfolding lines_by
  enough zero n s count bytes h k = let z : ⊥ = omega arith in absurd z
  enough (suc m) zero s count bytes h k = let z : ⊥ = omega arith in absurd z
  enough (suc m) (suc n) s count bytes h k =
      let r = printed_by reader s count (take size bytes) in
      let rest = drop size bytes in
      by_size size bytes
      (λ l.
      let few : suc (length rest) ≤ length bytes = omega (arith, length-drop size bytes, l, reads.some) in
      ap (and_more r) (enough m n r.session r.count rest (omega (arith, few, h)) (omega (arith, few, k))))
      (λ l.
      last-alone r (lines_by size reader m r.session r.count rest) (lines_by size reader n r.session r.count rest)
      (short_last s count (take size bytes) (omega (arith, l, length-take size bytes))))

  -- What the program's loop does: what the next bytes of a record's size add, and, if the listing goes on, what those behind them add.
  pub records_loop : (s : Session) (count : ℕ) (bytes : List ℕ)
      → records_by size reader s count bytes
      ≡ and_more (printed_by reader s count (take size bytes))
      (records_by size reader (printed_by reader s count (take size bytes)).session (printed_by reader s count (take size bytes)).count (drop size bytes))
  unfolding lines_by
  records_loop s count bytes =
      enough (suc (length bytes)) (suc (suc (length bytes))) s count bytes (omega arith) (omega arith)
      ∙ ap (and_more (printed_by reader s count (take size bytes)))
      (enough (suc (length bytes)) (suc (length (drop size bytes))) (printed_by reader s count (take size bytes)).session (printed_by reader s count (take size bytes)).count (drop size bytes)
      (omega (arith, length-drop size bytes)) (omega arith))

-- ---- the property

module _ (size : ℕ) (reader : Reader) where
  -- the session of a property, and the listing by the number of its refusal
  abbrev started : List ℕ → Session
  started property = (fresh_of (read property).property).session

  abbrev by_number : List ℕ → List ℕ → ℕ → List ℕ
  by_number property records n =
      header_text
      ++ and_more (record { text = opening_text n; session = started property; count = 0; more = eqb n 0 }) (records_by size reader (started property) 0 records)

  -- A property that is taken: the header, and what the records add to a fresh session.
  pub listing_taken : (property records : List ℕ) → (read property).refusal ≡ 0
      → listing_by size reader property records ≡ header_text ++ records_by size reader (fresh_of (read property).property).session 0 records
  unfolding listing_by begun_of
  listing_taken property records e =
      ap (by_number property records) e

  -- "A refused property prints the header and `stop 0` with its number"
  pub listing_refused : (property records : List ℕ) (n : ℕ) → (read property).refusal ≡ suc n → listing_by size reader property records ≡ header_text ++ stop_text 0 (suc n)
  unfolding listing_by begun_of
  listing_refused property records n e =
      ap (by_number property records) e
      ∙ ap (λ (b : Bool). header_text ++ (stop_text 0 (suc n) ++ cond b (records_by size reader (started property) 0 records) [])) (eqb-suc-zero n)
      ∙ ap (λ (l : List ℕ). header_text ++ l) (append-nil _)
