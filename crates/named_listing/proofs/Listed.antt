-- The records behind a property are listed with names one by one.
use Prim.Native.Nat.{ℕ, ◌+◌, ◌≤◌}
use mathlib.Core.Path.{◌≡◌, refl, sym, subst}
use mathlib.Core.Bool.{true}
use mathlib.Core.List.{List}
use lib.ListN.{length}
use Rattle.property.specs.declared.Property.{Property}
use Rattle.record_form.specs.Record.{record_size, record_answer}
use Rattle.trace_form.proofs.Reader.{record_reads}
use Rattle.session_record.specs.declared.Session.{Session}
use Rattle.session_record.specs.Step.{fresh_of}
use Rattle.printed.proofs.Whole.{short_last}
use Rattle.named.specs.declared.Named.{Named}
use Rattle.named.specs.Named.{named_of}
use Rattle.named.specs.Listing.{named_lines_of}
use Rattle.listing_shell.proofs.SoFar.{OneAdds, OneByOne, SoFar, none_read, next-text, one_further}
use Rattle.named_listing.specs.Next.{NamedFollows}
use Rattle.named_listing.proofs.Some.{named_some}

module _ (site release : List ℕ) where
  abbrev one-adds : Session → ℕ → List ℕ → OneAdds
  one-adds s count bytes =
      let r = named_of site release s count bytes in record { text = r.text; session = r.session; count = r.count; more = r.more }

  one_by_one : OneByOne record_size (named_lines_of site release) one-adds
  unfolding named_lines_of named_of
  one_by_one =
      record {
        none = λ s count bytes. refl;
        first = λ most s count bytes. refl;
        some = named_some site release;
        short = short_last record_size record_answer record_reads;
      }

  -- What was added so far of the listing with names behind a property.
  abbrev pub NamedSoFar : Property → ℕ → Session → ℕ → Type 0
  NamedSoFar p records s count = SoFar record_size (named_lines_of site release) (fresh_of p).session records s count

  pub none_named : (p : Property) (s : Session) → s ≡ (fresh_of p).session → NamedSoFar p 0 s 0
  none_named p s own = subst (λ (x : Session). NamedSoFar p 0 x 0) (sym own) (none_read (fresh_of p).session)

  module _ (p : Property) {records : ℕ} {s : Session} {count : ℕ} (so_far : NamedSoFar p records s count) (bytes : List ℕ) (few : length bytes ≤ record_size)
      {r : Named} (is : r ≡ named_of site release s count bytes) where
    -- The text of the next record is the next of the listing,
    pub named_next : NamedFollows site release p records r.text
    named_next = subst (λ (x : Named). NamedFollows site release p records x.text) (sym is) (next-text (fresh_of p).session one_by_one so_far bytes few)

    -- and with it one record more was added, if the listing goes on.
    pub named_on : r.more ≡ true → NamedSoFar p (records + 1) r.session r.count
    named_on =
        subst (λ (x : Named). x.more ≡ true → NamedSoFar p (records + 1) x.session x.count) (sym is)
        (one_further (fresh_of p).session one_by_one so_far bytes few)
