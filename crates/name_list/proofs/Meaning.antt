-- Lists that mean the same are the same bytes: entries by the rules are determined by the names that they give.
use Prim.Native.Nat.{ℕ, suc, ◌≤◌, ◌<◌}
use mathlib.Core.Path.{◌≡◌, refl, sym, ◌∙◌, ap, ap₂, subst}
use mathlib.Core.Bool.{Bool, true, false, cond}
use mathlib.Core.List.{List, [], ◌∷◌}
use native.Mathlib.Omega.{arith}
use lib.ListN.{length}
use lib.Dec.{eqb, ltb}
use borrow.Author.Tests.{ltb-true, ltb-false, eqb-true, eqb-false, eq-eqb, ne_eqb}
use Rattle.laws.specs.Bytes.{Bytes}
use Rattle.meaning.specs.Words.{Action}
use Rattle.name_list.specs.Names.{Entry, first_byte, action_read, name_in, names_in, list_broken, entries, EntryGood, Rising}
use Rattle.name_list.proofs.Packed.{good_packs, one_packing, first_good}

-- the name at the front, or behind it
name_by : (e : Entry) (es : List Entry) (a : Action) (t : Bool) → eqb (first_byte e.action) (first_byte a) ≡ t → name_in (e ∷ es) a ≡ cond t e.name (name_in es a)
unfolding name_in
name_by e es a t h = ap (λ (b : Bool). cond b e.name (name_in es a)) h

own_name : (e : Entry) (es : List Entry) → name_in (e ∷ es) e.action ≡ e.name
own_name e es = name_by e es e.action true (eq-eqb (first_byte e.action) (first_byte e.action) refl)

other_name : (e : Entry) (es : List Entry) (a : Action) → (first_byte e.action ≡ first_byte a → ⊥) → name_in (e ∷ es) a ≡ name_in es a
other_name e es a h = name_by e es a false (ne_eqb (first_byte e.action) (first_byte a) h)

-- below the least first byte there is none
none_below : (least : ℕ) (es : List Entry) (a : Action) → Rising least es → first_byte a < least → name_in es a ≡ []
unfolding Rising
none_below least [] a r h = unfold name_in in refl
none_below least (e ∷ es) a r h =
    other_name e es a (λ z. omega (arith, r.0, h, z)) ∙ none_below (suc (first_byte e.action)) es a r.2 (omega (arith, r.0, h))

-- entries of one first byte and one name are one
entry-same : (e f : Entry) → EntryGood e → EntryGood f → first_byte e.action ≡ first_byte f.action → e.name ≡ f.name → e ≡ f
entry-same e f ge gf b n =
    let a : e.action ≡ f.action = sym (first_good e.action ge.action_fits).1 ∙ ap action_read b ∙ (first_good f.action gf.action_fits).1 in
    λ i. record { action = a i; name = n i }

no_name : (e : Entry) → EntryGood e → e.name ≡ [] → ⊥
no_name e g h = let z : length e.name ≡ 0 = ap length h in omega (arith, g.some, z)

-- the first entries: neither stands before the other
first-least : (least : ℕ) (e : Entry) (es : List Entry) (f : Entry) (fs : List Entry) → Rising least (e ∷ es) → Rising least (f ∷ fs)
    → name_in (e ∷ es) e.action ≡ name_in (f ∷ fs) e.action → first_byte f.action ≤ first_byte e.action
unfolding Rising
first-least least e es f fs r q same = go (ltb (first_byte e.action) (first_byte f.action)) (ltb-true _ _) (ltb-false _ _)
  where
    go : (t : Bool) → (t ≡ true → first_byte e.action < first_byte f.action) → (t ≡ false → first_byte f.action ≤ first_byte e.action)
        → first_byte f.action ≤ first_byte e.action
    go true y n = absurd (no_name e r.1 (sym (own_name e es) ∙ same ∙ none_below (first_byte f.action) (f ∷ fs) e.action (unfold Rising in (omega arith, q.1, q.2)) (y refl)))
    go false y n = n refl

-- what stands behind one first entry means the same too
behind-same : (e : Entry) (es : List Entry) (f : Entry) (fs : List Entry) → first_byte e.action ≡ first_byte f.action
    → Rising (suc (first_byte e.action)) es → Rising (suc (first_byte e.action)) fs → ((a : Action) → name_in (e ∷ es) a ≡ name_in (f ∷ fs) a)
    → (a : Action) → name_in es a ≡ name_in fs a
behind-same e es f fs b r q h a = go (eqb (first_byte e.action) (first_byte a)) (eqb-true _ _) (eqb-false _ _)
  where
    go : (t : Bool) → (t ≡ true → first_byte e.action ≡ first_byte a) → (t ≡ false → first_byte e.action ≡ first_byte a → ⊥) → name_in es a ≡ name_in fs a
    go true y n =
        let below : first_byte a < suc (first_byte e.action) = omega (arith, y refl) in
        none_below (suc (first_byte e.action)) es a r below ∙ sym (none_below (suc (first_byte e.action)) fs a q below)
    go false y n = sym (other_name e es a (n refl)) ∙ h a ∙ other_name f fs a (λ z. n refl (b ∙ z))

same_entries : (es fs : List Entry) (least : ℕ) → Rising least es → Rising least fs → ((a : Action) → name_in es a ≡ name_in fs a) → es ≡ fs
unfolding Rising
same_entries [] [] least r q h = refl
same_entries [] (f ∷ fs) least r q h = absurd (no_name f q.1 (sym (own_name f fs) ∙ sym (h f.action) ∙ (unfold name_in in refl)))
same_entries (e ∷ es) [] least r q h = absurd (no_name e r.1 (sym (own_name e es) ∙ h e.action ∙ (unfold name_in in refl)))
same_entries (e ∷ es) (f ∷ fs) least r q h =
    let up = first-least least e es f fs r q (h e.action) in
    let down = first-least least f fs e es q r (sym (h f.action)) in
    let b : first_byte e.action ≡ first_byte f.action = omega (arith, up, down) in
    let name : e.name ≡ f.name =
    sym (own_name e es) ∙ h e.action ∙ name_by f fs e.action true (eq-eqb (first_byte f.action) (first_byte e.action) (sym b)) in
    let q' = subst (λ (n : ℕ). Rising (suc n) fs) (sym b) q.2 in
    ap₂ ◌∷◌ (entry-same e f r.1 q.1 b name) (same_entries es fs (suc (first_byte e.action)) r.2 q' (behind-same e es f fs b r.2 q' h))

-- Two lists that are taken and give every action the same name are the same bytes.
pub one_list : (l m : List ℕ) → Bytes l → Bytes m → list_broken l ≡ false → list_broken m ≡ false → ((a : Action) → names_in l a ≡ names_in m a) → l ≡ m
one_list l m sl sm el em h = one_packing l m sl sm el em (same_entries (entries l) (entries m) 0 (good_packs l sl el).rising (good_packs m sm em).rising h)
