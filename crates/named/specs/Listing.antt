-- Document 02, CR 2: the whole listing that the second program writes.
use Rattle.std.specs.Prelude.{ℕ, zero, suc, cond, List, [], ◌++◌, length, take, drop}
use Rattle.property_form.specs.Form.{form_size}
use Rattle.property_form.specs.Read.{length_read}
use Rattle.record_form.specs.Record.{record_size}
use Rattle.session_record.specs.declared.Session.{Session}
use Rattle.printout.specs.Text.{stop_text}
use Rattle.printout.specs.Named.{named_header_text}
use Rattle.printed.specs.Printed.{begun_of}
use Rattle.printed.specs.Listing.{and_more}
use Rattle.named.specs.Named.{named_of}
use Rattle.name_list.specs.Read.{list_size, list_refusal}

-- What at most so many records add, after `count` that were taken: as many bytes as a record has are read at a time.
unfoldable pub named_lines_of : List ℕ → List ℕ → ℕ → Session → ℕ → List ℕ → List ℕ
named_lines_of site release zero s count bytes = []
named_lines_of site release (suc most) s count bytes =
    (named_of site release s count (take record_size bytes)).text
    ++ cond (named_of site release s count (take record_size bytes)).more
    (named_lines_of site release most (named_of site release s count (take record_size bytes)).session
    (named_of site release s count (take record_size bytes)).count (drop record_size bytes))
    []

-- The list at the front of the input, and what stands behind it.
abbrev pub list_at : List ℕ → List ℕ
list_at input = take (list_size input) (drop 2 input)

abbrev pub behind_list : List ℕ → List ℕ
behind_list input = drop (list_size input) (drop 2 input)

-- The property at the front of the input, and what stands behind it.
abbrev pub property_at : List ℕ → List ℕ
property_at input = take (form_size (length_read input)) input

abbrev pub behind_property : List ℕ → List ℕ
behind_property input = drop (form_size (length_read input)) input

-- What stands behind the header where the lists are good: as in the listing without names.
unfoldable pub named_log : List ℕ → List ℕ → List ℕ → List ℕ → List ℕ
named_log site release property records =
    and_more (begun_of property) (named_lines_of site release (suc (length records)) (begun_of property).session (begun_of property).count records)

-- "a bad list .. prints as a refused property does"
abbrev pub unless_bad : ℕ → List ℕ → List ℕ
unless_bad zero text = text
unless_bad (suc n) text = stop_text 0 (suc n)

-- "The program judges the site's list, the release's list, then the rest"
unfoldable pub named_listing_of : List ℕ → List ℕ
named_listing_of input =
    named_header_text
    ++ unless_bad (list_refusal 11 (take 2 input) (list_at input))
    (unless_bad (list_refusal 12 (take 2 (behind_list input)) (list_at (behind_list input)))
    (named_log (list_at input) (list_at (behind_list input)) (property_at (behind_list (behind_list input))) (behind_property (behind_list (behind_list input)))))
