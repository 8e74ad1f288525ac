-- The part that is handed back holds the name that the entries give: the site's, or the release's.
use Prim.Native.Nat.{ℕ, ◌≤◌}
use mathlib.Core.Path.{◌≡◌, refl, sym, ◌∙◌, ap, ap₂, subst}
use mathlib.Core.Bool.{Bool, true, false, cond}
use mathlib.Core.List.{List, [], ◌∷◌, ◌++◌}
use native.Mathlib.Omega.{arith}
use lib.ListN.{length, take, drop, length-take, length-drop}
use lib.Seq.{length-take-le, take-append_seam, drop-append-add}
use lib.Dec.{eqb}
use denote.Ref.{Bor}
use borrow.Author.Tests.{eqb-true, eqb-false}
use Rattle.laws.specs.Bytes.{Bytes}
use Rattle.meaning.specs.Words.{Action}
use Rattle.name_list.specs.Names.{Entry, first_byte, entry_form, list_form, name_in, names_in, list_broken, entries}
use Rattle.names.specs.Lookup.{names_refusal, Span, name_span, Choice, asked, choice, Handed, part_of, name_of, either_name, wanted}
use Rattle.names.proofs.Spans.{shifted, span_by, Inside, name-inside}
use Rattle.name_list.proofs.Packed.{good_packs}
use Rattle.names.proofs.Handing.{taken, choice-refused, choice-taken}

-- what is handed back has the name's bytes
pub handed_name : (site release r : Bor (List ℕ)) (output : Bool) (action : ℕ) → Handed (choice site.now release.now output action) site release r
    → r.now ≡ name_of site.now release.now output action
unfolding name_of
handed_name site release r output action h = h.bytes ∙ pick (choice site.now release.now output action).of_site
  where
    part : Span
    part = (choice site.now release.now output action).part

    pick : (t : Bool) → take part.size (drop part.start (cond t site release).now) ≡ take part.size (drop part.start (cond t site.now release.now))
    pick true = refl
    pick false = refl

-- The bytes of a part.
abbrev at : Span → List ℕ → List ℕ
at p l = take p.size (drop p.start l)

-- where a name stands in the packing, it stands
span-name : (es : List Entry) (a : Action) → at (name_span es (first_byte a)) (list_form es) ≡ name_in es a
span-name [] a = unfold name_span list_form name_in in refl
span-name (e ∷ es) a = go (eqb (first_byte e.action) (first_byte a)) refl (span-name es a)
  where
    form : list_form (e ∷ es) ≡ entry_form e ++ list_form es
    form = unfold list_form in refl

    name_by : (t : Bool) → eqb (first_byte e.action) (first_byte a) ≡ t → name_in (e ∷ es) a ≡ cond t e.name (name_in es a)
    name_by t h = unfold name_in in (ap (λ (b : Bool). cond b e.name (name_in es a)) h)

    moved : (p : Span) → at (shifted (length (entry_form e)) p) (entry_form e ++ list_form es) ≡ at p (list_form es)
    moved p = ap (take p.size) (drop-append-add (entry_form e) (list_form es) p.start)

    go : (t : Bool) → eqb (first_byte e.action) (first_byte a) ≡ t → at (name_span es (first_byte a)) (list_form es) ≡ name_in es a
        → at (name_span (e ∷ es) (first_byte a)) (list_form (e ∷ es)) ≡ name_in (e ∷ es) a
    go true h on = ap₂ at (span_by e es (first_byte a) true h) form ∙ take-append_seam e.name (list_form es) ∙ sym (name_by true h)
    go false h on = ap₂ at (span_by e es (first_byte a) false h) form ∙ moved (name_span es (first_byte a)) ∙ on ∙ sym (name_by false h)

-- in a list that is taken
pub list_name : (list : List ℕ) → Bytes list → list_broken list ≡ false → (a : Action) → at (name_span (entries list) (first_byte a)) list ≡ name_in (entries list) a
list_name list small good a = ap (at (name_span (entries list) (first_byte a))) (good_packs list small good).packed ∙ span-name (entries list) a

-- the choice of a part is the choice of a name
asked-name : (site release : List ℕ) (p q : Span) → Inside p site → part_of (asked p q) site release ≡ either_name (at p site) (at q release)
asked-name site release p q inside = go (eqb p.size 0) refl
  where
    parted : (t : Bool) → eqb p.size 0 ≡ t
        → part_of (asked p q) site release ≡ part_of (cond t (record { of_site = false; part = q }) (record { of_site = true; part = p })) site release
    parted t h = ap (λ (b : Bool). part_of (cond b (record { of_site = false; part = q }) (record { of_site = true; part = p })) site release) h

    some : (x : List ℕ) → (length x ≡ 0 → ⊥) → x ≡ either_name x (at q release)
    some [] h = absurd (h refl)
    some (b ∷ x) h = refl

    long : length (at p site) ≡ p.size
    long = length-take-le p.size (drop p.start site) (omega (arith, inside.within, length-drop p.start site))

    go : (t : Bool) → eqb p.size 0 ≡ t → part_of (asked p q) site release ≡ either_name (at p site) (at q release)
    go true h =
        parted true h
        ∙ ap (λ (x : List ℕ). either_name x (at q release)) (sym (ap (λ (n : ℕ). take n (drop p.start site)) (eqb-true p.size 0 h)))
    go false h = parted false h ∙ some (at p site) (λ z. eqb-false p.size 0 h (sym long ∙ z))

-- The name of an action by two lists that are taken.
pub name_is : (site release : List ℕ) → Bytes site → Bytes release → (output : Bool) (action : ℕ) → names_refusal site release action ≡ 0
    → name_of site release output action ≡ either_name (names_in site (wanted output action)) (names_in release (wanted output action))
unfolding name_of
name_is site release ss sr output action z =
    let t = taken site release action z in
    let a = wanted output action in
    ap (λ (c : Choice). part_of c site release) (choice-taken site release output action z)
    ∙ asked-name site release (name_span (entries site) (first_byte a)) (name_span (entries release) (first_byte a)) (name-inside site (first_byte a) t.site_good)
    ∙ ap₂ either_name (list_name site ss t.site_good a) (list_name release sr t.release_good a)

-- None where the call is refused.
pub no_name : (site release : List ℕ) (output : Bool) (action : ℕ) → (names_refusal site release action ≡ 0 → ⊥) → name_of site release output action ≡ []
unfolding name_of
no_name site release output action h = ap (λ (c : Choice). part_of c site release) (choice-refused site release output action h)

-- A name has at most 40 bytes, whatever the lists.
asked_short : (site release : List ℕ) (p q : Span) → p.size ≤ 40 → q.size ≤ 40 → length (part_of (asked p q) site release) ≤ 40
asked_short site release p q hp hq = by (eqb p.size 0)
  where
    by : (t : Bool) → length (part_of (cond t (record { of_site = false; part = q }) (record { of_site = true; part = p })) site release) ≤ 40
    by true = omega (arith, length-take q.size (drop q.start release), hq)
    by false = omega (arith, length-take p.size (drop p.start site), hp)

taken_short : (site release : List ℕ) (output : Bool) (action : ℕ) → names_refusal site release action ≡ 0 → length (name_of site release output action) ≤ 40
unfolding name_of
taken_short site release output action z =
    let t = taken site release action z in
    let first = first_byte (wanted output action) in
    subst (λ (c : Choice). length (part_of c site release) ≤ 40) (sym (choice-taken site release output action z))
    (asked_short site release (name_span (entries site) first) (name_span (entries release) first) (name-inside site first t.site_good).short
    (name-inside release first t.release_good).short)

pub name_short : (site release : List ℕ) (output : Bool) (action : ℕ) → length (name_of site release output action) ≤ 40
name_short site release output action = go (eqb (names_refusal site release action) 0) (eqb-true _ 0) (eqb-false _ 0)
  where
    go : (t : Bool) → (t ≡ true → names_refusal site release action ≡ 0) → (t ≡ false → names_refusal site release action ≡ 0 → ⊥)
        → length (name_of site release output action) ≤ 40
    go true y n = taken_short site release output action (y refl)
    go false y n = omega (arith, ap length (no_name site release output action (n refl)))
