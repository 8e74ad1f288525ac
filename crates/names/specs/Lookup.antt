-- Document 02, CR 2: "the name is handed back as a part of whichever list held it, or as an empty part at the end of the release's
-- list where neither has it or the call is refused."
use Rattle.std.specs.Prelude.{ℕ, ◌+◌, ◌≡◌, Bool, true, false, cond, List, [], ◌∷◌, length, take, drop, ltb, eqb}
use Rattle.std.specs.Borrow.{Bor}
use Rattle.meaning.specs.Limits.{last_action}
-- The action that is asked for: "a direction (bool) and an action number".
pub use Rattle.meaning.specs.Words.{action_of as wanted}
use Rattle.meaning.specs.Numbers.{given, first_of}
use Rattle.name_list.specs.Names.{Entry, first_byte, entry_form, entries, list_broken}

-- "Refusals: 11, site list broken; 12, release list broken; in that order, after the present ones", of which 3 is the only one here.
unfoldable pub names_refusal : List ℕ → List ℕ → ℕ → ℕ
names_refusal site release action =
    first_of (given 3 (ltb last_action action)) (first_of (given 11 (list_broken site)) (given 12 (list_broken release)))

-- From which byte of a list a part begins, and how many bytes it has.
pub record Span : Type 0 where
  pub start : ℕ
  pub size : ℕ

abbrev pub span : ℕ → ℕ → Span
span start size = record { start = start; size = size }

-- Where these entries, packed, have the name for this first byte: behind the entries before it and its own two bytes. An empty part
-- at their end where there is none.
unfoldable pub name_span : List Entry → ℕ → Span
name_span [] first = span 0 0
name_span (e ∷ rest) first =
    cond (eqb (first_byte e.action) first) (span 2 (length e.name))
    (span (length (entry_form e) + (name_span rest first).start) (name_span rest first).size)

-- The part that is handed back: whether it is one of the site's list, and which.
pub record Choice : Type 0 where
  pub of_site : Bool
  pub part : Span

-- "The site's list is asked first and the release's list second"
abbrev pub asked : Span → Span → Choice
asked site release = cond (eqb site.size 0) (record { of_site = false; part = release }) (record { of_site = true; part = site })

unfoldable pub choice : List ℕ → List ℕ → Bool → ℕ → Choice
choice site release output action =
    cond (eqb (names_refusal site release action) 0)
    (asked (name_span (entries site) (first_byte (wanted output action))) (name_span (entries release) (first_byte (wanted output action))))
    (record { of_site = false; part = span (length release) 0 })

-- r is this part of the list s, the place and what stands there.
pub record Part (p : Span) (s r : Bor (List ℕ)) : Type 0 where
  pub place : r.ref_ptr ≡ (s.ref_ptr.0, s.ref_ptr.1 + p.start)
  pub bytes : r.now ≡ take p.size (drop p.start s.now)

-- r is the chosen part of the chosen list.
abbrev pub Handed : Choice → Bor (List ℕ) → Bor (List ℕ) → Bor (List ℕ) → Type 0
Handed c site release r = Part c.part (cond c.of_site site release) r

-- The bytes of the name that is handed back: none where neither list has it or the call is refused.
abbrev pub part_of : Choice → List ℕ → List ℕ → List ℕ
part_of c site release = take c.part.size (drop c.part.start (cond c.of_site site release))

unfoldable pub name_of : List ℕ → List ℕ → Bool → ℕ → List ℕ
name_of site release output action = part_of (choice site release output action) site release

-- The site's name, or the release's where the site has none.
abbrev pub either_name : List ℕ → List ℕ → List ℕ
either_name [] release = release
either_name (b ∷ name) release = b ∷ name
