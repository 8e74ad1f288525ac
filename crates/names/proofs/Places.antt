-- Which part of which list is chosen: the place of the one entry for an action, behind its two bytes, or the release's end.
use Prim.Native.Nat.{ℕ, suc, ◌+◌, ◌≤◌}
use mathlib.Core.Path.{◌≡◌, refl, sym, ◌∙◌, ap, ap₂, subst}
use mathlib.Core.Bool.{Bool, true, false, cond}
use mathlib.Core.List.{List, [], ◌∷◌, ◌++◌}
use native.Mathlib.Omega.{arith}
use lib.ListN.{length, length-append}
use lib.Dec.{eqb}
use borrow.Author.Tests.{eq-eqb, ne_eqb}
use Rattle.laws.specs.Bytes.{Bytes}
use Rattle.meaning.specs.Words.{Action}
use Rattle.name_list.specs.Names.{Entry, first_byte, entry_form, list_form, name_in, list_broken, entries, EntryGood, Rising}
use Rattle.names.specs.Lookup.{names_refusal, Span, span, name_span, wanted, asked, choice}
use Rattle.names.proofs.Spans.{shifted, span_by}
use Rattle.name_list.proofs.Packed.{good_packs, behind-above}
use Rattle.names.proofs.Handing.{Taken, taken, choice-taken}

-- ---- in one list

-- the entry for an action
there : (least : ℕ) (xs : List Entry) (e : Entry) (ys : List Entry) → Rising least (xs ++ (e ∷ ys))
    → name_span (xs ++ (e ∷ ys)) (first_byte e.action) ≡ span (length (list_form xs) + 2) (length e.name)
unfolding Rising
there least [] e ys r =
    span_by e ys (first_byte e.action) true (eq-eqb (first_byte e.action) (first_byte e.action) refl) ∙ (unfold list_form in refl)
there least (x ∷ xs) e ys r =
    let above = behind-above (suc (first_byte x.action)) xs e ys r.2 in
    span_by x (xs ++ (e ∷ ys)) (first_byte e.action) false (ne_eqb (first_byte x.action) (first_byte e.action) (λ z. omega (arith, above, z)))
    ∙ ap (shifted (length (entry_form x))) (there (suc (first_byte x.action)) xs e ys r.2)
    ∙ ap (λ (n : ℕ). span n (length e.name)) (further x xs)
  where
    further : (x : Entry) (xs : List Entry) → length (entry_form x) + (length (list_form xs) + 2) ≡ length (list_form (x ∷ xs)) + 2
    further x xs = unfold list_form in (omega (arith, length-append (entry_form x) (list_form xs)))

keeps : (least : ℕ) (xs : List Entry) (e : Entry) (ys : List Entry) → Rising least (xs ++ (e ∷ ys)) → EntryGood e
unfolding Rising
keeps least [] e ys r = r.1
keeps least (x ∷ xs) e ys r = keeps (suc (first_byte x.action)) xs e ys r.2

-- and none
nowhere : (least : ℕ) (es : List Entry) (a : Action) → Rising least es → name_in es a ≡ [] → name_span es (first_byte a) ≡ span (length (list_form es)) 0
unfolding Rising name_in
nowhere least [] a r h = unfold name_span list_form in refl
nowhere least (e ∷ es) a r h = go (eqb (first_byte e.action) (first_byte a)) refl h (nowhere (suc (first_byte e.action)) es a r.2)
  where
    further : length (entry_form e) + length (list_form es) ≡ length (list_form (e ∷ es))
    further = unfold list_form in (sym (length-append (entry_form e) (list_form es)))

    go : (t : Bool) → eqb (first_byte e.action) (first_byte a) ≡ t → cond t e.name (name_in es a) ≡ []
        → (name_in es a ≡ [] → name_span es (first_byte a) ≡ span (length (list_form es)) 0)
        → name_span (e ∷ es) (first_byte a) ≡ span (length (list_form (e ∷ es))) 0
    go true q none on = absurd (let z : length e.name ≡ 0 = ap length none in omega (arith, r.1.some, z))
    go false q none on = span_by e es (first_byte a) false q ∙ ap (shifted (length (entry_form e))) (on none) ∙ ap (λ (n : ℕ). span n 0) further

-- ---- in two

module _ (site release : List ℕ) (small-site : Bytes site) (small-release : Bytes release) (output : Bool) (action : ℕ)
    (z : names_refusal site release action ≡ 0) where
  abbrev a : Action
  a = wanted output action

  abbrev own : Span
  own = name_span (entries site) (first_byte a)

  abbrev other : Span
  other = name_span (entries release) (first_byte a)

  good : Taken site release action
  good = taken site release action z

  asked_as : (p q : Span) → own ≡ p → other ≡ q → choice site release output action ≡ asked p q
  asked_as p q e f = choice-taken site release output action z ∙ ap₂ asked e f

  -- the entry of a list that is taken: its place, and it has a name
  entry_at : (list : List ℕ) → Bytes list → list_broken list ≡ false → (xs : List Entry) (e : Entry) (ys : List Entry) → entries list ≡ xs ++ (e ∷ ys) → e.action ≡ a
      → (name_span (entries list) (first_byte a) ≡ span (length (list_form xs) + 2) (length e.name)) × (1 ≤ length e.name)
  entry_at list small ok xs e ys q same =
      let r = subst (Rising 0) q (good_packs list small ok).rising in
      (ap₂ name_span q (ap first_byte (sym same)) ∙ there 0 xs e ys r, (keeps 0 xs e ys r).some)

  none-at : (list : List ℕ) → Bytes list → list_broken list ≡ false → name_in (entries list) a ≡ [] → name_span (entries list) (first_byte a) ≡ span (length list) 0
  none-at list small ok none =
      nowhere 0 (entries list) a (good_packs list small ok).rising none ∙ ap (λ (l : List ℕ). span (length l) 0) (sym (good_packs list small ok).packed)

  -- the site's entry
  pub of_site : (xs : List Entry) (e : Entry) (ys : List Entry) → entries site ≡ xs ++ (e ∷ ys) → e.action ≡ a
      → choice site release output action ≡ record { of_site = true; part = span (length (list_form xs) + 2) (length e.name) }
  of_site xs e ys q same =
      let h = entry_at site small-site good.site_good xs e ys q same in
      let p = span (length (list_form xs) + 2) (length e.name) in
      asked_as p other h.0 refl
      ∙ ap (λ (t : Bool). cond t (record { of_site = false; part = other }) (record { of_site = true; part = p })) (ne_eqb (length e.name) 0 (λ x. omega (arith, h.1, x)))

  module _ (none : name_in (entries site) a ≡ []) where
    -- the release's entry, or its end
    second : (q : Span) → other ≡ q → choice site release output action ≡ record { of_site = false; part = q }
    second q e = asked_as (span (length site) 0) q (none-at site small-site good.site_good none) e

    pub of_release : (xs : List Entry) (e : Entry) (ys : List Entry) → entries release ≡ xs ++ (e ∷ ys) → e.action ≡ a
        → choice site release output action ≡ record { of_site = false; part = span (length (list_form xs) + 2) (length e.name) }
    of_release xs e ys q same = second _ (entry_at release small-release good.release_good xs e ys q same).0

    pub of_neither : name_in (entries release) a ≡ [] → choice site release output action ≡ record { of_site = false; part = span (length release) 0 }
    of_neither h = second _ (none-at release small-release good.release_good h)
