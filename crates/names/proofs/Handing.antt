-- Which refusal, and which part of which list is handed back.
use Prim.Native.Nat.{ℕ, ◌+◌, ◌-◌, ◌≤◌}
use mathlib.Core.Path.{◌≡◌, refl, sym, ◌∙◌, ap, subst}
use mathlib.Core.Bool.{Bool, true, false, cond}
use mathlib.Core.List.{List}
use native.Mathlib.Omega.{arith}
use lib.ListN.{length, take, drop, length-take, length-drop}
use lib.Seq.{drop-length}
use lib.Dec.{ltb}
use denote.Ref.{Bor}
use borrow.Author.Tests.{ltb-false, eq-eqb, ne_eqb}
use Rattle.meaning.specs.Numbers.{given, first_of}
use Rattle.name_list.specs.Names.{first_byte, entries, list_broken}
use Rattle.names.specs.Lookup.{names_refusal, Span, span, name_span, wanted, Choice, asked, choice, Part, Handed}
use Rattle.name_list.proofs.Lists.{part-all}
use Rattle.names.proofs.Spans.{Inside, part_at}

-- ---- the number

abbrev by : Bool → Bool → Bool → ℕ
by above site release = first_of (given 3 above) (first_of (given 11 site) (given 12 release))

pub number_is : (site release : List ℕ) (action : ℕ) (a b c : Bool) → ltb 63 action ≡ a → list_broken site ≡ b → list_broken release ≡ c → names_refusal site release action ≡ by a b c
unfolding names_refusal
number_is site release action a b c ea eb ec = λ i. by (ea i) (eb i) (ec i)

-- none holds
pub record Taken (site release : List ℕ) (action : ℕ) : Type 0 where
  pub action_fits : action ≤ 63
  pub site_good : list_broken site ≡ false
  pub release_good : list_broken release ≡ false

pub taken : (site release : List ℕ) (action : ℕ) → names_refusal site release action ≡ 0 → Taken site release action
taken site release action e = go (ltb 63 action) (list_broken site) (list_broken release) refl refl refl
  where
    go : (a b c : Bool) → ltb 63 action ≡ a → list_broken site ≡ b → list_broken release ≡ c → Taken site release action
    go true b c ea eb ec = absurd (let z : 3 ≡ 0 = sym (number_is site release action true b c ea eb ec) ∙ e in omega (arith, z))
    go false true c ea eb ec = absurd (let z : 11 ≡ 0 = sym (number_is site release action false true c ea eb ec) ∙ e in omega (arith, z))
    go false false true ea eb ec = absurd (let z : 12 ≡ 0 = sym (number_is site release action false false true ea eb ec) ∙ e in omega (arith, z))
    go false false false ea eb ec = record { action_fits = ltb-false 63 action ea; site_good = eb; release_good = ec }

-- ---- the part

-- the same choice, under another name
pub handed_as : (x y : Choice) (site release r : Bor (List ℕ)) → x ≡ y → Handed x site release r → Handed y site release r
handed_as x y site release r e h = subst (λ (c : Choice). Handed c site release r) e h

pub handed_own : (a b : Span) (site release r : Bor (List ℕ)) → (length r.now ≡ 0 → ⊥) → Part a site r → Handed (asked a b) site release r
handed_own a b site release r h part = subst (λ (c : Choice). Handed c site release r) (sym own) part
  where
    some : a.size ≡ 0 → ⊥
    some z = h (ap length part.bytes ∙ ap (λ (n : ℕ). length (take n (drop a.start site.now))) z)

    own : asked a b ≡ record { of_site = true; part = a }
    own = ap (λ (t : Bool). cond t (record { of_site = false; part = b }) (record { of_site = true; part = a })) (ne_eqb a.size 0 some)

pub handed_other : (a b : Span) (site release own r : Bor (List ℕ)) → Inside a site.now → Part a site own → length own.now ≡ 0 → Part b release r → Handed (asked a b) site release r
handed_other a b site release own r inside of-own h part = subst (λ (c : Choice). Handed c site release r) (sym other) part
  where
    none : a.size ≡ 0
    none =
        omega (arith, ap length of-own.bytes, h, length-take a.size (drop a.start site.now), length-drop a.start site.now, inside.within)

    other : asked a b ≡ record { of_site = false; part = b }
    other = ap (λ (t : Bool). cond t (record { of_site = false; part = b }) (record { of_site = true; part = a })) (eq-eqb a.size 0 none)

module _ (site release : List ℕ) (output : Bool) (action : ℕ) where
  abbrev end : Choice
  end = record { of_site = false; part = span (length release) 0 }

  abbrev both : Choice
  both = asked (name_span (entries site) (first_byte (wanted output action))) (name_span (entries release) (first_byte (wanted output action)))

  pub choice-refused : (names_refusal site release action ≡ 0 → ⊥) → choice site release output action ≡ end
  unfolding choice
  choice-refused h = ap (λ (t : Bool). cond t both end) (ne_eqb (names_refusal site release action) 0 h)

  pub choice-taken : names_refusal site release action ≡ 0 → choice site release output action ≡ both
  unfolding choice
  choice-taken h = ap (λ (t : Bool). cond t both end) (eq-eqb (names_refusal site release action) 0 h)

-- a part that starts at the release's end
pub handed_end : (site release r : Bor (List ℕ)) (output : Bool) (action : ℕ) → (names_refusal site.now release.now action ≡ 0 → ⊥)
    → r.ref_ptr.0 ≡ release.ref_ptr.0 → r.ref_ptr.1 ≡ release.ref_ptr.1 + length release.now → r.now ≡ take (length release.now - length release.now) (drop (length release.now) release.now)
    → Handed (choice site.now release.now output action) site release r
handed_end site release r output action h a b e =
    subst (λ (c : Choice). Handed c site release r) (sym (choice-refused site.now release.now output action h))
    (part_at _ release r (length release.now) 0 refl a b (e ∙ part-all release.now (length release.now) ∙ drop-length release.now))
