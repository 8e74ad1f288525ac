-- Document 02, CR 2, as theorems: `names::refused` and `names::name`, and the listing with names. The lists are in `Lists`.
use Prim.Native.Nat.{ℕ, zero, suc, ◌+◌, ◌≤◌}
use mathlib.Core.Path.{◌≡◌, refl, ◌∙◌, ap}
use mathlib.Core.Bool.{Bool, true, false, cond}
use mathlib.Core.List.{List, [], ◌∷◌, ◌++◌, append-nil}
use native.Mathlib.Omega.{arith}
use lib.ListN.{length, take, drop}
use lib.Dec.{ltb, eqb, eqb-suc-zero}
use denote.Ref.{Bor}
use borrow.Author.Tests.{le-ltb}
use Rattle.meaning.specs.Words.{Action}
use Rattle.meaning.specs.Numbers.{given, first_of}
use Rattle.fields.specs.Fields.{field, size}
use Rattle.property_form.specs.Read
use Rattle.record_form.specs.Record.{Bytes, record_answer}
use Rattle.trace_form.proofs.Reader.{record_reads}
use Rattle.laws.proofs.Bytes.{Bytes-drop, Bytes-take}
use Rattle.name_list.specs.Names.{Entry, list_form, entries, list_broken, names_in, action_number}
use Rattle.names.specs.Lookup.{names_refusal, span, wanted, choice, Handed, name_of, either_name}
use Rattle.names.proofs.Handing.{number_is, choice-refused}
use Rattle.names.proofs.Named.{name_is}
use Rattle.names.proofs.Places.{of_site, of_release, of_neither}
use Rattle.printout.specs.Text.{stop_text}
use Rattle.printout.specs.Named.{named_header_text}
use Rattle.session_record.specs.Step.{fresh_of}
use Rattle.printed.specs.Printed.{opening_text, begun_of}
use Rattle.printed.specs.Listing.{records_by, listing_of}
use Rattle.printed.proofs.Whole.{listing_taken}
use Rattle.named.specs.Named.{names_of}
use Rattle.name_list.specs.Read.{list_refusal}
use Rattle.named.specs.Listing.{list_at, behind_list, property_at, behind_property, unless_bad, named_lines_of, named_log, named_listing_of}
use Rattle.demands.specs.Refuses.{Refuses}
use Rattle.demands.specs.Texts.{header, named_header, named_row_text, all_rows, stop_line}
use Rattle.demands.specs.Names.{list_front, list_behind, list_number, property_front, property_behind}
use Rattle.demands.proofs.Texts.{demand_header, demand_last}
use Rattle.demands.proofs.Lists.{size-read, demand_1_lists, good}
use Rattle.demands.proofs.Listing.{ShownBy, read_good, listing_shown, listing_beside}
use Rattle.demands.proofs.Named.{named_lister}

-- ==== `names::refused`: 3, 11, 12; `names::name` then hands back an empty part at the end of the release's list.
pub demand_1_names : (site release : List ℕ) (output : Bool) (action : ℕ)
    → Refuses (names_refusal site release action) (first_of (given 3 (ltb 63 action)) (first_of (given 11 (list_broken site)) (given 12 (list_broken release))))
    (λ n. choice site release output action ≡ record { of_site = false; part = span (length release) 0 })
unfolding names_refusal
demand_1_names site release output action =
    record { first = refl; alone = λ n e. choice-refused site release output action (λ z. omega (arith, e, z)) }

-- `names::name`, where it is not refused: the part that `Handed (choice ..)` promises, by the lists' entries,
pub record Demand-name (site release : List ℕ) (output : Bool) (action : ℕ) : Type 0 where
  -- is the name of the site's entry for this action, in the place where the site's list has it: behind the entries before it and its own
  -- two bytes;
  pub own : (xs : List Entry) (e : Entry) (ys : List Entry) → entries site ≡ xs ++ (e ∷ ys) → e.action ≡ wanted output action
      → choice site release output action ≡ record { of_site = true; part = span (length (list_form xs) + 2) (length e.name) }
  -- where the site's list has none, that of the release's entry;
  pub other : names_in site (wanted output action) ≡ [] → (xs : List Entry) (e : Entry) (ys : List Entry) → entries release ≡ xs ++ (e ∷ ys)
      → e.action ≡ wanted output action
      → choice site release output action ≡ record { of_site = false; part = span (length (list_form xs) + 2) (length e.name) }
  -- "an empty part at the end of the release's list where neither has it";
  pub neither : names_in site (wanted output action) ≡ [] → names_in release (wanted output action) ≡ []
      → choice site release output action ≡ record { of_site = false; part = span (length release) 0 }
  -- and its bytes are the name.
  pub bytes : name_of site release output action ≡ either_name (names_in site (wanted output action)) (names_in release (wanted output action))

pub demand_name : (site release : List ℕ) (output : Bool) (action : ℕ) → Bytes site → Bytes release → names_refusal site release action ≡ 0
    → Demand-name site release output action
demand_name site release output action ss sr z =
    record {
      own = of_site site release ss sr output action z;
      other = of_release site release ss sr output action z;
      neither = of_neither site release ss sr output action z;
      bytes = name_is site release ss sr output action z;
    }

-- What is handed back for such a part is the same bytes of that list, so many places on.
pub name_handed : (of_site : Bool) (start size : ℕ) (site release r : Bor (List ℕ)) → Handed (record { of_site = of_site; part = span start size }) site release r
    → (r.ref_ptr ≡ ((cond of_site site release).ref_ptr.0, (cond of_site site release).ref_ptr.1 + start)) × (r.now ≡ take size (drop start (cond of_site site release).now))
name_handed of_site start size site release r h = (h.place, h.bytes)

-- the names by two lists that are not broken
names_by : (site release : List ℕ) → list_broken site ≡ false → list_broken release ≡ false → Bytes site → Bytes release → (a : Action) → action_number a ≤ 63
    → names_of site release a ≡ either_name (names_in site a) (names_in release a)
names_by site release gs gr ss sr (Action.input k) h =
    name_is site release ss sr false k (number_is site release k false false false (le-ltb 63 k h) gs gr)
names_by site release gs gr ss sr (Action.output k) h =
    name_is site release ss sr true k (number_is site release k false false false (le-ltb 63 k h) gs gr)

-- ---- the log behind the lists

front_bytes : (input : List ℕ) → Bytes input → Bytes (list_front input)
front_bytes input h = Bytes-take (field input 0 16) (drop 2 input) (Bytes-drop 2 input h)

behind-bytes : (input : List ℕ) → Bytes input → Bytes (list_behind input)
behind-bytes input h = Bytes-drop (field input 0 16) (drop 2 input) (Bytes-drop 2 input h)

module _ (site release property records : List ℕ) where
  abbrev lines : List ℕ
  lines = named_lines_of site release (suc (length records)) (fresh_of (Read.read property).property).session 0 records

  log_refused : (n : ℕ) → (Read.read property).refusal ≡ suc n → named_log site release property records ≡ stop_text 0 (suc n)
  unfolding named_log begun_of
  log_refused n e =
      (λ i. opening_text (e i) ++ cond (eqb (e i) 0) lines [])
      ∙ ap (λ (t : Bool). stop_text 0 (suc n) ++ cond t lines []) (eqb-suc-zero n)
      ∙ append-nil _

  log_taken : (Read.read property).refusal ≡ 0 → named_log site release property records ≡ lines
  unfolding named_log begun_of
  log_taken e = λ i. opening_text (e i) ++ cond (eqb (e i) 0) lines []

  -- the rows and the last line of the listing without names
  all_named : (e : (Read.read property).refusal ≡ 0)
      → lines
      ≡ all_rows (named_row_text (names_of site release)) (listing_shown 6 record_answer record_reads property records e).listed.rows
      ++ (listing_shown 6 record_answer record_reads property records e).listed.last
  unfolding named_lister
  all_named e = listing_beside 6 record_answer record_reads property records e (named_lister site release)

-- ==== The second program's listing, of all bytes that it is given: "The program judges the site's list, the release's list, then the rest;
-- a bad list prints as a refused property does".
module _ (input : List ℕ) (small : Bytes input) where
  abbrev site : List ℕ
  site = list_front input

  abbrev release : List ℕ
  release = list_front (list_behind input)

  abbrev log : List ℕ
  log = list_behind (list_behind input)

  abbrev names : Action → List ℕ
  names = names_of site release

  pub record Demand-named : Type 0 where
    pub site_refused : (n : ℕ) → list_number 11 input ≡ suc n → named_listing_of input ≡ named_header ++ stop_line 0 (suc n)
    pub release_refused : list_number 11 input ≡ 0 → (n : ℕ) → list_number 12 (list_behind input) ≡ suc n → named_listing_of input ≡ named_header ++ stop_line 0 (suc n)
    pub property-refused : list_number 11 input ≡ 0 → list_number 12 (list_behind input) ≡ 0 → (n : ℕ) → (Read.read (property_front log)).refusal ≡ suc n
        → named_listing_of input ≡ named_header ++ stop_line 0 (suc n)
    -- "the same listing with one more field behind the action number": the rows and the last line of the listing without names,
    pub taken : list_number 11 input ≡ 0 → list_number 12 (list_behind input) ≡ 0 → (e : (Read.read (property_front log)).refusal ≡ 0)
        → (plain : List ℕ) × (listing_of (property_front log) (property_behind log) ≡ header ++ plain)
        × (shown : ShownBy (Read.read (property_front log)).property (read_good (property_front log) e) 6 record_answer [] 0 (property_behind log) plain)
        × (named_listing_of input ≡ named_header ++ (all_rows (named_row_text names) shown.listed.rows ++ shown.listed.last))
    -- and the names are those of the lists.
    pub named : list_number 11 input ≡ 0 → list_number 12 (list_behind input) ≡ 0 → (a : Action) → action_number a ≤ 63
        → names a ≡ either_name (names_in site a) (names_in release a)

  -- by the numbers of the two lists
  abbrev by : ℕ → ℕ → List ℕ
  by m n = named_header ++ unless_bad m (unless_bad n (named_log site release (property_front log) (property_behind log)))

  abbrev behind : List ℕ
  behind = list_behind input

  sized : named_listing_of input
      ≡ named_header_text
      ++ unless_bad (list_refusal 11 (take 2 input) site)
      (unless_bad (list_refusal 12 (take 2 behind) release) (named_log site release (property_front log) (property_behind log)))
  unfolding named_listing_of
  sized =
      ap
      (λ (m : ℕ).
      let rest : List ℕ = drop m (drop 2 input) in
      named_header_text
      ++ unless_bad (list_refusal 11 (take 2 input) (take m (drop 2 input)))
      (unless_bad (list_refusal 12 (take 2 rest) (list_at rest))
      (named_log (take m (drop 2 input)) (list_at rest) (property_at (behind_list rest)) (behind_property (behind_list rest)))))
      (size-read input small)
      ∙ ap
      (λ (n : ℕ).
      named_header_text
      ++ unless_bad (list_refusal 11 (take 2 input) site)
      (unless_bad (list_refusal 12 (take 2 behind) (take n (drop 2 behind)))
      (named_log site (take n (drop 2 behind)) (property_at (drop n (drop 2 behind))) (behind_property (drop n (drop 2 behind))))))
      (size-read behind (behind-bytes input small))

  listed : (m n : ℕ) → list_number 11 input ≡ m → list_number 12 behind ≡ n → named_listing_of input ≡ by m n
  listed m n e f =
      let x : list_refusal 11 (take 2 input) site ≡ m = demand_1_lists 11 input small ∙ e in
      let y : list_refusal 12 (take 2 behind) release ≡ n = demand_1_lists 12 behind (behind-bytes input small) ∙ f in
      sized ∙ (λ i. demand_header.1 i ++ unless_bad (x i) (unless_bad (y i) (named_log site release (property_front log) (property_behind log))))

  stops : (n : ℕ) → stop_text 0 (suc n) ≡ stop_line 0 (suc n)
  stops n = (demand_last 0 (suc n)).1

  pub demand_named : Demand-named
  demand_named =
      record {
        site_refused = λ n e. listed (suc n) (list_number 12 behind) e refl ∙ ap (λ (t : List ℕ). named_header ++ t) (stops n);
        release_refused = λ z n e. listed zero (suc n) z e ∙ ap (λ (t : List ℕ). named_header ++ t) (stops n);
        property-refused = λ z y n e.
            listed zero zero z y ∙ ap (λ (t : List ℕ). named_header ++ t) (log_refused site release (property_front log) (property_behind log) n e ∙ stops n);
        taken = λ z y e.
            let property = property_front log in
            let records = property_behind log in
            let plain = records_by 6 record_answer (fresh_of (Read.read property).property).session 0 records in (
              plain,
              listing_taken 6 record_answer property records e ∙ ap (λ (h : List ℕ). h ++ plain) demand_header.0,
              listing_shown 6 record_answer record_reads property records e,
              listed zero zero z y
                  ∙ ap (λ (t : List ℕ). named_header ++ t) (log_taken site release property records e ∙ all_named site release property records e),
            );
        named = λ z y a h.
            names_by site release (good 10 input z) (good 11 behind y) (front_bytes input small) (front_bytes behind (behind-bytes input small)) a h;
      }
