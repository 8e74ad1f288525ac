-- A set of matched lengths, with or without broken, stands for states of the matcher: the reading in use.
use Prim.Native.Nat.{ℕ, zero, suc, ◌≤◌, ◌<◌}
use mathlib.Core.Path.{◌≡◌, refl, sym, ap, ap₂, subst}
use mathlib.Core.Logic.{◌↔◌, ◌⊎◌, inl, inr}
use mathlib.Core.Bool.{Bool, true, false, cond, not, ◌&&◌, true≢false}
use native.Mathlib.Omega.{arith}
use lib.ListN.{length}
use lib.Dec.{eqb, ltb}
use borrow.Author.Tests.{ltb-true, ltb-false, eqb-true, eq-eqb}
use Rattle.meaning.specs.Words.{Action, Property, Line}
use Rattle.meaning.specs.Matcher.{same, place, ends, goes_on, fall_back, matched_next, State, outside, matched_on, state_next}
use Rattle.meaning.specs.Matcher.{is_broken, is_matched, Lengths, at_start, none_of, either, moved, some_to, some_matched, some_length}
use Rattle.meaning.specs.Step.{lengths}
use Rattle.meaning.specs.Node.{Breaks}
use Rattle.meaning.specs.Limits.{most_actions}
use Rattle.meaning.specs.Numbers.{length_outside, property_refusal}
use Rattle.laws.proofs.Tests.{or_split}
use Rattle.meaning.proofs.Refusals.{none_first}
use Rattle.meaning.proofs.Pairs.{good_bounds}
use Rattle.meaning.proofs.Tests.{both, and_true, or_cases, or_left, or_right, some_to_found, some_to_here}
use Rattle.meaning.proofs.Sets.{SetLaws, Reading}
use Rattle.meaning.proofs.Matching.{state_matcher, matcher_reads}

-- a matched length is never above the sequence's
pub fall_back-le : (s : ℕ → Action) (n k : ℕ) (a : Action) (j : ℕ) → fall_back s n k a j ≤ n
unfolding fall_back
fall_back-le s n k a zero = go (goes_on s n k zero a) refl
  where
    go : (t : Bool) → goes_on s n k zero a ≡ t → cond t 1 0 ≤ n
    go true e = let h : 0 < n = ltb-true zero n (both (ltb zero n) (same (s zero) a) (both (ltb zero n && same (s zero) a) (ends s zero k) e).0).0 in h
    go false e = omega arith
fall_back-le s n k a (suc j) = go (goes_on s n k (suc j) a) refl (fall_back-le s n k a j)
  where
    go : (t : Bool) → goes_on s n k (suc j) a ≡ t → fall_back s n k a j ≤ n → cond t (suc (suc j)) (fall_back s n k a j) ≤ n
    go true e h = ltb-true (suc j) n (both (ltb (suc j) n) (same (s (suc j)) a) (both (ltb (suc j) n && same (s (suc j)) a) (ends s (suc j) k) e).0).0
    go false e h = h

module _ (p : Property) where
  -- a length in the set, armed or not, of whose state a test holds
  pub some_matched_found : (a : Lengths) (f : State → Bool) → some_matched p a f ≡ true
      → (b : Bool) × (k : ℕ) × (k ≤ length p.sequence) × (a.at b k ≡ true) × (f (State.matched b k) ≡ true)
  some_matched_found a f e = pick (or_cases (some_to (length p.sequence) (g false)) (some_to (length p.sequence) (g true)) e)
    where
      g : Bool → ℕ → Bool
      g b k = a.at b k && f (State.matched b k)

      found : (b : Bool) → some_to (length p.sequence) (g b) ≡ true
          → (b : Bool) × (k : ℕ) × (k ≤ length p.sequence) × (a.at b k ≡ true) × (f (State.matched b k) ≡ true)
      found b h =
          let t : ((k : ℕ) × (k ≤ length p.sequence) × (g b k ≡ true)) = some_to_found (length p.sequence) (g b) h in
          let w : (a.at b t.0 ≡ true) × (f (State.matched b t.0) ≡ true) = both (a.at b t.0) (f (State.matched b t.0)) t.2 in
          (b, t.0, t.1, w.0, w.1)

      pick : (some_to (length p.sequence) (g false) ≡ true) ⊎ (some_to (length p.sequence) (g true) ≡ true)
          → (b : Bool) × (k : ℕ) × (k ≤ length p.sequence) × (a.at b k ≡ true) × (f (State.matched b k) ≡ true)
      pick (inl h) = found false h
      pick (inr h) = found true h

  pub some_matched_here : (a : Lengths) (f : State → Bool) (b : Bool) (k : ℕ) → k ≤ length p.sequence → a.at b k ≡ true
      → f (State.matched b k) ≡ true → some_matched p a f ≡ true
  some_matched_here a f false k h m e =
      or_left (some_to (length p.sequence) (λ k. a.at true k && f (State.matched true k)))
      (some_to_here (length p.sequence) (λ k. a.at false k && f (State.matched false k)) k h (and_true m e))
  some_matched_here a f true k h m e =
      or_right (some_to (length p.sequence) (λ k. a.at false k && f (State.matched false k)))
      (some_to_here (length p.sequence) (λ k. a.at true k && f (State.matched true k)) k h (and_true m e))

  abbrev Member : Lengths → State → Type 0
  Member a (State.matched b k) = (k ≤ length p.sequence) × (a.at b k ≡ true)
  Member a State.broken = a.with_broken ≡ true

  flag_eq : (b c : Bool) → cond b c (not c) ≡ true → c ≡ b
  flag_eq true c e = e
  flag_eq false true e = absurd (true≢false (sym e))
  flag_eq false false e = refl

  flag_refl : (b : Bool) → cond b b (not b) ≡ true
  flag_refl true = refl
  flag_refl false = refl

  pub is_matched_eq : (b : Bool) (j : ℕ) (q : State) → is_matched b j q ≡ true → q ≡ State.matched b j
  is_matched_eq b j (State.matched c k) e =
      let w : (cond b c (not c) ≡ true) × (eqb k j ≡ true) = both (cond b c (not c)) (eqb k j) e in
      ap₂ State.matched (flag_eq b c w.0) (eqb-true k j w.1)
  is_matched_eq b j State.broken e = absurd (true≢false (sym e))

  eq_is_matched : (b : Bool) (j : ℕ) (q : State) → q ≡ State.matched b j → is_matched b j q ≡ true
  eq_is_matched b j q e = subst (λ (x : State). is_matched b j x ≡ true) (sym e) (and_true (flag_refl b) (eq-eqb j j refl))

  is_broken_eq : (q : State) → is_broken q ≡ true → q ≡ State.broken
  is_broken_eq (State.matched b k) e = absurd (true≢false (sym e))
  is_broken_eq State.broken e = refl

  is_armed : State → Bool
  is_armed (State.matched b k) = b
  is_armed State.broken = false

  matched-not-broken : (b : Bool) (k : ℕ) → State.matched b k ≡ State.broken → ⊥
  matched-not-broken b k e = true≢false (ap is_broken (sym e))

  pub next_le : (b c : Bool) (k j : ℕ) (l : Line) → state_next p (State.matched b k) l ≡ State.matched c j → j ≤ length p.sequence
  next_le b c k j l e = go (b && outside p l.action) e
    where
      go : (t : Bool) → cond t State.broken (matched_on p b l.action (matched_next p.sequence k l.action)) ≡ State.matched c j
          → j ≤ length p.sequence
      go true q = absurd (matched-not-broken c j (sym q))
      go false q = subst (λ (x : ℕ). x ≤ length p.sequence) (cc (q)) (fall_back-le (place p.sequence) (length p.sequence) k l.action k)

  pub length_laws : SetLaws (state_matcher p) (lengths p)
  unfolding is_armed
  length_laws =
      record {
        Member = Member;
        member_start = start;
        member_none = none;
        member_join = join;
        member_move = move;
        some_broken = broken;
        some_unbroken = unbroken;
      }
    where
      start : (q : State) → Member at_start q ↔ (q ≡ State.matched false 0)
      start (State.matched true k) = (λ m. absurd (true≢false (sym m.1)), λ e. absurd (true≢false (ap is_armed e)))
      start (State.matched false k) =
          (λ m. ap (State.matched false) (eqb-true k 0 m.1), λ e. let z : k ≡ 0 = cc in (omega arith, eq-eqb k 0 z))
      start State.broken = (λ m. absurd (true≢false (sym m)), λ e. absurd (matched-not-broken false 0 (sym e)))

      none : (q : State) → ¬ Member none_of q
      none (State.matched b k) m = true≢false (sym m.1)
      none State.broken m = true≢false (sym m)

      join : (a b : Lengths) (q : State) → Member (either a b) q ↔ (Member a q ⊎ Member b q)
      join a b (State.matched c k) =
          (λ m. there m.0 (or_cases (a.at c k) (b.at c k) m.1), back)
        where
          there : k ≤ length p.sequence → (a.at c k ≡ true) ⊎ (b.at c k ≡ true) → Member a (State.matched c k) ⊎ Member b (State.matched c k)
          there h (inl e) = inl (h, e)
          there h (inr e) = inr (h, e)

          back : Member a (State.matched c k) ⊎ Member b (State.matched c k) → Member (either a b) (State.matched c k)
          back (inl m) = (m.0, or_left (b.at c k) m.1)
          back (inr m) = (m.0, or_right (a.at c k) m.1)
      join a b State.broken = (λ m. or_cases a.with_broken b.with_broken m, back)
        where
          back : Member a State.broken ⊎ Member b State.broken → Member (either a b) State.broken
          back (inl m) = or_left b.with_broken m
          back (inr m) = or_right a.with_broken m

      move : (a : Lengths) (l : Line) (q : State) → Member (moved p a l) q ↔ ((r : State) × Member a r × (state_next p r l ≡ q))
      move a l (State.matched c j) = (there, λ t. from t.0 t.1 t.2)
        where
          there : Member (moved p a l) (State.matched c j) → (r : State) × Member a r × (state_next p r l ≡ State.matched c j)
          there m =
              let t = some_matched_found a (λ q. is_matched c j (state_next p q l)) m.1 in
              (State.matched t.0 t.1, (t.2, t.3), is_matched_eq c j (state_next p (State.matched t.0 t.1) l) t.4)

          from : (r : State) → Member a r → state_next p r l ≡ State.matched c j → Member (moved p a l) (State.matched c j)
          from (State.matched b k) m e = (
            next_le b c k j l e,
            some_matched_here a (λ q. is_matched c j (state_next p q l)) b k m.0 m.1 (eq_is_matched c j (state_next p (State.matched b k) l) e),
          )
          from State.broken m e = absurd (matched-not-broken c j (sym e))
      move a l State.broken = (λ m. there (or_cases a.with_broken (some_matched p a (λ q. is_broken (state_next p q l))) m), λ t. from t.0 t.1 t.2)
        where
          there : (a.with_broken ≡ true) ⊎ (some_matched p a (λ q. is_broken (state_next p q l)) ≡ true)
              → (r : State) × Member a r × (state_next p r l ≡ State.broken)
          there (inl h) = (State.broken, h, refl)
          there (inr h) =
              let t = some_matched_found a (λ q. is_broken (state_next p q l)) h in
              (State.matched t.0 t.1, (t.2, t.3), is_broken_eq (state_next p (State.matched t.0 t.1) l) t.4)

          from : (r : State) → Member a r → state_next p r l ≡ State.broken → Member (moved p a l) State.broken
          from (State.matched b k) m e =
              or_right a.with_broken (some_matched_here a (λ q. is_broken (state_next p q l)) b k m.0 m.1 (ap is_broken e))
          from State.broken m e = or_left (some_matched p a (λ q. is_broken (state_next p q l))) m

      broken : (a : Lengths) → (a.with_broken ≡ true) ↔ ((q : State) × Member a q × (is_broken q ≡ true))
      broken a = (λ e. (State.broken, e, refl), λ t. subst (Member a) (is_broken_eq t.0 t.2) t.1)

      unbroken : (a : Lengths) → (some_length p a ≡ true) ↔ ((q : State) × Member a q × (is_broken q ≡ false))
      unbroken a = (there, λ t. from t.0 t.1 t.2)
        where
          there : some_length p a ≡ true → (q : State) × Member a q × (is_broken q ≡ false)
          there e = let t = some_matched_found a (λ q. true) e in (State.matched t.0 t.1, (t.2, t.3), refl)

          from : (q : State) → Member a q → is_broken q ≡ false → some_length p a ≡ true
          from (State.matched b k) m e = some_matched_here a (λ q. true) b k m.0 m.1 refl
          from State.broken m e = absurd (true≢false e)

-- a property that no refusal names has a sequence
pub some-sequence : (p : Property) → property_refusal p ≡ 0 → 0 < length p.sequence
some-sequence p good =
    ltb-false (length p.sequence) 1
    (or_split (ltb (length p.sequence) 1) (ltb most_actions (length p.sequence)) (none_first 0 (length_outside (length p.sequence)) good).0).0

-- The reading in use, of a property that no refusal names.
abbrev pub lengths_reading : (p : Property) → property_refusal p ≡ 0 → Reading p (Breaks p)
lengths_reading p good =
    record { bounds = good_bounds p good; matcher = state_matcher p; sets = lengths p; laws = length_laws p; reads = matcher_reads p (some-sequence p good) }
