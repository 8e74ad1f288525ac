-- A record that was read by its form's reader adds what it stands for, and the records behind a property are listed one by one.
use Prim.Native.Nat.{ℕ, zero, suc, ◌+◌, ◌≤◌}
use mathlib.Core.Path.{◌≡◌, refl, sym, ◌∙◌, ap, subst}
use mathlib.Core.Bool.{true, false, true≢false}
use mathlib.Core.List.{List}
use native.Mathlib.Omega.{arith}
use lib.ListN.{length, take, length-take}
use Rattle.meaning.specs.Numbers.{property_refusal}
use Rattle.property.specs.Meant.{meant}
use Rattle.property.specs.declared.Property.{Property}
use Rattle.record_form.specs.Record.{RecordRead, ReadBy}
use Rattle.trace_form.specs.ReadAs.{case_as}
use Rattle.trace_form.proofs.Reader.{Reads, record_reads}
use Rattle.tap_form.proofs.Reader.{tap_reads}
use Rattle.session_record.specs.declared.Session.{Session}
use Rattle.session_record.specs.Step.{Stepping}
use Rattle.session_record.specs.Record.{rows_of, latest_of, out_of_range}
use Rattle.session_record.specs.Step.{fresh_of}
use Rattle.session_record.specs.Lent.{Memory, memory, record_in, Ready}
use Rattle.session_record.proofs.Range.{ranged}
use Rattle.session_record.proofs.Ready.{ready-fits, fresh_means}
use Rattle.session_record.proofs.Running.{fresh_record, zeros_named}
use Rattle.session_record.proofs.Steps.{fresh-refused}
use Rattle.printed.specs.declared.Printed.{Printed}
use Rattle.printed.specs.declared.lent.Added.{Added}
use Rattle.printed.specs.Printed.{printed_by, begun_of}
use Rattle.printed.specs.Listing.{lines_by}
use Rattle.printed.specs.Lent.{Adds}
use Rattle.printed.proofs.Listed.{read-adds}
use Rattle.printed.proofs.Walks.{begins_fit}
use Rattle.printed.proofs.Whole.{short_last}
use Rattle.listing_shell.specs.declared.Form.{Form}
use Rattle.listing_shell.specs.declared.Form.TheVariants.{Record, Tap}
use Rattle.listing_shell.specs.Form.{size_of, reader_of, Lists}
use Rattle.listing_shell.specs.Next.{Begun, Follows}
use Rattle.listing_shell.proofs.Some.{printed_some}
use Rattle.listing_shell.proofs.SoFar.{OneAdds, OneByOne, SoFar, none_read, next-text, one_further}

-- no more bytes came than were asked for
pub front-few : (n : ℕ) (bytes : List ℕ) (most : ℕ) → n ≤ most → length (take n bytes) ≤ most
front-few n bytes most h = omega (arith, length-take n bytes, h)

-- ---- a property that was taken

-- a fresh session that refusal 10 does not name is that of its own property
fresh_own : (p : Property) → out_of_range (fresh_of p).session ≡ false → (fresh_of p).session ≡ (fresh_of (fresh_of p).session.property).session
fresh_own p fits = go (property_refusal (meant p)) refl
  where
    go : (n : ℕ) → property_refusal (meant p) ≡ n → (fresh_of p).session ≡ (fresh_of (fresh_of p).session.property).session
    go zero e = ap (λ (s : Session). (fresh_of s.property).session) (sym (fresh_record p e))
    go (suc n) e =
        let zeros = ap (λ (r : Stepping). out_of_range r.session) (fresh-refused p (suc n) e (λ z. omega arith)) ∙ zeros_named in
        absurd (true≢false (sym zeros ∙ fits))

-- A property that was taken has the fresh session of its own property.
pub begun_fresh : {r : Printed} → Begun r → r.more ≡ true → r.session ≡ (fresh_of r.session.property).session
unfolding begun_of
begun_fresh b =
    subst (λ (x : Printed). x.more ≡ true → x.session ≡ (fresh_of x.session.property).session) (sym b.adds)
    (λ more. fresh_own _ (begins_fit b.bytes more))

-- Its rows stand for it, with its own property.
pub rows-fresh : (s : Session) → s ≡ (fresh_of s.property).session → out_of_range s ≡ false → (p : Property) → p ≡ s.property → (rows : List (List ℕ)) → rows ≡ rows_of s
    → record_in (memory p rows s.shared.status) ≡ (fresh_of s.property).session
rows-fresh s own fits p same-property rows same =
    let good = (ranged s fits).formed in
    ap (λ (q : Property). record_in (memory q rows s.shared.status)) same-property
    ∙ ap (λ (x : Session). record_in (memory s.property rows x.shared.status)) own
    ∙ fresh_means s.property good (fresh_of s.property) refl rows (same ∙ ap rows_of own)
    ∙ sym (fresh_record s.property good)

-- ---- a record

pub lists : (form : Form) (m : Memory) {count : ℕ} {bytes : List ℕ} {read : RecordRead} {r : Added} {after : Memory} → Ready m
    → ReadBy (reader_of form) bytes (latest_of (record_in m)) read → length bytes ≤ size_of form → Adds m count (case_as read) r after → Lists form m count r after
lists form m {count} {bytes} {read} {r} {after} is_ready h few a =
    record {
      bytes = bytes;
      few = few;
      adds = read-adds (reader_of form) m count bytes (ready-fits m is_ready) h a;
      ready = a.ready;
    }

-- ---- the chain of the records

reads_of : (form : Form) → Reads (size_of form) (reader_of form)
reads_of Record = record_reads
reads_of Tap = tap_reads

abbrev one-adds : Form → Session → ℕ → List ℕ → OneAdds
one-adds form s count bytes =
    let r = printed_by (reader_of form) s count bytes in record { text = r.text; session = r.session; count = r.count; more = r.more }

one_by_one : (form : Form) → OneByOne (size_of form) (lines_by (size_of form) (reader_of form)) (one-adds form)
unfolding lines_by
one_by_one form =
    record {
      none = λ s count bytes. refl;
      first = λ most s count bytes. refl;
      some = printed_some (reader_of form);
      short = short_last (size_of form) (reader_of form) (reads_of form);
    }

-- What was added so far of the listing of this form's records behind a property.
abbrev pub ListedSoFar : Form → Property → ℕ → Session → ℕ → Type 0
ListedSoFar form p records s count = SoFar (size_of form) (lines_by (size_of form) (reader_of form)) (fresh_of p).session records s count

pub none-listed : (form : Form) (p : Property) (s : Session) → s ≡ (fresh_of p).session → ListedSoFar form p 0 s 0
none-listed form p s own = subst (λ (x : Session). ListedSoFar form p 0 x 0) (sym own) (none_read (fresh_of p).session)

module _ {form : Form} (p : Property) {records : ℕ} {m : Memory} {count : ℕ} {r : Added} {after : Memory}
    (so_far : ListedSoFar form p records (record_in m) count) (h : Lists form m count r after) where
  -- The text of the next record is the next of the listing,
  pub lists_next : Follows form p records r.text
  lists_next = subst (λ (x : Printed). Follows form p records x.text) h.adds (next-text (fresh_of p).session (one_by_one form) so_far h.bytes h.few)

  -- and with it one record more was added, if the listing goes on.
  pub lists_on : r.more ≡ true → ListedSoFar form p (records + 1) (record_in after) r.count
  lists_on =
      subst (λ (x : Printed). x.more ≡ true → ListedSoFar form p (records + 1) x.session x.count) h.adds
      (one_further (fresh_of p).session (one_by_one form) so_far h.bytes h.few)
