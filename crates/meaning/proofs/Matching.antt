-- The matcher remembers the longest beginning of the sequence that ends the order, and whether the order is armed; it breaks
-- exactly where the order does.
use Prim.Native.Nat.{ℕ, zero, suc, ◌<◌}
use mathlib.Core.Path.{Path, ◌≡◌, refl, sym, ◌∙◌, ap, ap₂, subst}
use mathlib.Core.Logic.{◌↔◌, ◌⊎◌, inl, inr}
use mathlib.Core.Bool.{Bool, true, false, cond, not, true≢false, ◌&&◌, ◌||◌}
use mathlib.Core.List.{List, [], ◌∷◌, ◌++◌, map, map-append, append_assoc, append-nil, head-eq_of_cons-eq}
use mathlib.Core.List.{tail-eq_of_cons-eq, nil≢cons, reverse, reverse_aux, reverse_aux-append, reverse-append, reverse-cons, reverse-reverse}
use native.Mathlib.Omega.{arith}
use lib.ListN.{length}
use lib.Dec.{eqb}
use borrow.Author.Tests.{eq-eqb, ne_eqb, not-true as flipped}
use Rattle.meaning.specs.Words.{Action, Property, Line}
use Rattle.meaning.specs.Node.{actions, Breach, Breaks}
use Rattle.meaning.specs.Matcher.{place, matched_next, is_input, State, outside, matched_on, state_next, is_broken}
use Rattle.meaning.proofs.Tests.{both, and_true, or_cases, or_left, or_right}
use Rattle.meaning.proofs.Lists.{map_split}
use Rattle.meaning.proofs.Sets.{Matcher, along}
use Rattle.meaning.proofs.Longest.{ended, longest, longest-le, longest-ends, longest-most, longest-next, beginning, ended_split, ended-join, beginning_whole}

abbrev pub state_matcher : Property → Matcher
state_matcher p = record { State = State; begin = State.matched false 0; step = state_next p; is_broken = is_broken }

module _ (p : Property) where
  abbrev n : ℕ
  n = length p.sequence

  abbrev s : ℕ → Action
  s = place p.sequence

  -- a history is armed: the sequence occurs in it, and behind that only inputs stand
  armed : List Action → Bool
  armed [] = ended s n []
  armed (a ∷ r) = ended s n (a ∷ r) || (armed r && is_input a)

  -- after a history r these actions break
  record BreaksOn (r : List Action) (w : List Action) : Type 0 where
    before : List Action
    answer : ℕ
    after : List Action
    occurs : w ≡ before ++ Action.output answer ∷ after
    is_armed : armed (reverse_aux before r) ≡ true
    outside : p.allowed answer ≡ false

  stays_broken : (w : List Line) → along (state_matcher p) State.broken w ≡ State.broken
  unfolding along
  stays_broken [] = refl
  stays_broken (l ∷ w) = stays_broken w

  -- the whole sequence is the longest beginning exactly if it ends the history
  whole-matched : (r : List Action) → eqb (longest s n r) n ≡ ended s n r
  whole-matched r = go (ended s n r) refl
    where
      go : (t : Bool) → ended s n r ≡ t → eqb (longest s n r) n ≡ t
      go true e = eq-eqb (longest s n r) n (omega (arith, longest-le s n r, longest-most s n r n (omega arith) e))
      go false e =
          ne_eqb (longest s n r) n
          (λ (q : longest s n r ≡ n). true≢false (sym (subst (λ (k : ℕ). ended s k r ≡ true) q (longest-ends s n r)) ∙ e))

  outside-output : (a : Action) → outside p a ≡ true → (k : ℕ) × (a ≡ Action.output k) × (p.allowed k ≡ false)
  outside-output (Action.input k) e = absurd (true≢false (sym e))
  outside-output (Action.output k) e = (k, refl, flipped (p.allowed k) e)

  output-outside : (k : ℕ) → p.allowed k ≡ false → outside p (Action.output k) ≡ true
  output-outside k e = ap not e

  breaks_later : {r : List Action} {w : List Action} (a : Action) → BreaksOn (a ∷ r) w → BreaksOn r (a ∷ w)
  breaks_later a h =
      record {
        before = a ∷ h.before;
        answer = h.answer;
        after = h.after;
        occurs = ap (λ (l : List Action). a ∷ l) h.occurs;
        is_armed = h.is_armed;
        outside = h.outside;
      }

  -- the first of these actions breaks, or later ones do
  breaks_cases : (r : List Action) (a : Action) (w : List Action) → BreaksOn r (a ∷ w)
      → ((armed r ≡ true) × (outside p a ≡ true)) ⊎ BreaksOn (a ∷ r) w
  breaks_cases r a w h = go h.before h.occurs h.is_armed
    where
      go : (b : List Action) → a ∷ w ≡ b ++ Action.output h.answer ∷ h.after → armed (reverse_aux b r) ≡ true
          → ((armed r ≡ true) × (outside p a ≡ true)) ⊎ BreaksOn (a ∷ r) w
      go [] e m = inl (m, ap (outside p) (head-eq_of_cons-eq e) ∙ output-outside h.answer h.outside)
      go (c ∷ b) e m =
          inr
          (record {
            before = b;
            answer = h.answer;
            after = h.after;
            occurs = tail-eq_of_cons-eq e;
            is_armed = subst (λ (x : Action). armed (reverse_aux b (x ∷ r)) ≡ true) (sym (head-eq_of_cons-eq e)) m;
            outside = h.outside;
          })

  -- what the matcher remembers of a history that has not broken
  state_of : List Action → State
  state_of r = State.matched (armed r) (longest s n r)

  state_on : (r : List Action) (a : Action) → matched_on p (armed r) a (matched_next p.sequence (longest s n r) a) ≡ state_of (a ∷ r)
  unfolding state_of armed
  state_on r a =
      ap (matched_on p (armed r) a) (sym (longest-next s n r a))
      ∙ ap (λ (t : Bool). State.matched (t || (armed r && is_input a)) (longest s n (a ∷ r))) (whole-matched (a ∷ r))

  follow : (r : List Action) (w : List Line) → (is_broken (along (state_matcher p) (state_of r) w) ≡ true) ↔ BreaksOn r (actions w)
  unfolding along state_of
  follow r [] = (λ e. absurd (true≢false (sym e)), λ h. absurd (none_left h.before (Action.output h.answer) h.after h.occurs))
    where
      none_left : (b : List Action) (x : Action) (y : List Action) → Path (List Action) [] (b ++ x ∷ y) → ⊥
      none_left [] x y e = nil≢cons e
      none_left (c ∷ b) x y e = nil≢cons e
  follow r (l ∷ w) = go (armed r && outside p l.action) refl (follow (l.action ∷ r) w)
    where
      Broken : State → Type 0
      Broken q = is_broken (along (state_matcher p) q w) ≡ true

      on : State
      on = matched_on p (armed r) l.action (matched_next p.sequence (longest s n r) l.action)

      go : (t : Bool) → armed r && outside p l.action ≡ t → Broken (state_of (l.action ∷ r)) ↔ BreaksOn (l.action ∷ r) (actions w)
          → Broken (cond t State.broken on) ↔ BreaksOn r (l.action ∷ actions w)
      go true e ih =
          let q : (armed r ≡ true) × (outside p l.action ≡ true) = both (armed r) (outside p l.action) e in
          let o : ((k : ℕ) × (l.action ≡ Action.output k) × (p.allowed k ≡ false)) = outside-output l.action q.1 in (
            λ h. record {
              before = [];
              answer = o.0;
              after = actions w;
              occurs = ap (λ (x : Action). x ∷ actions w) o.1;
              is_armed = q.0;
              outside = o.2;
            },
            λ h. ap is_broken (stays_broken w),
          )
      go false e ih = (
        λ h. breaks_later l.action (ih.0 (subst Broken (state_on r l.action) h)),
        λ h. subst Broken (sym (state_on r l.action)) (ih.1 (pick (breaks_cases r l.action (actions w) h))),
      )
        where
          pick : ((armed r ≡ true) × (outside p l.action ≡ true)) ⊎ BreaksOn (l.action ∷ r) (actions w) → BreaksOn (l.action ∷ r) (actions w)
          pick (inl h) = absurd (true≢false (sym (and_true h.0 h.1) ∙ e))
          pick (inr h) = h

  -- an armed history is some actions, the sequence and inputs
  record ArmedBy (before : List Action) : Type 0 where
    front : List Action
    between : List ℕ
    stands : before ≡ front ++ (p.sequence ++ map Action.input between)

  -- the sequence turned round, and back
  whole-there : (r : List Action) → ended s n r ≡ true → ArmedBy (reverse r)
  whole-there r e =
      let t : ((rest : List Action) × (r ≡ beginning s n ++ rest)) = ended_split s n r e in
      record {
        front = reverse t.0;
        between = [];
        stands =
            ap reverse t.1 ∙ reverse-append (beginning s n) t.0
            ∙ ap (λ (x : List Action). reverse t.0 ++ x)
            (ap reverse (beginning_whole p.sequence) ∙ reverse-reverse p.sequence ∙ sym (append-nil p.sequence));
      }

  whole_back : (front : List Action) → ended s n (reverse (front ++ p.sequence)) ≡ true
  whole_back front =
      subst (λ (x : List Action). ended s n x ≡ true)
      (ap (λ (x : List Action). x ++ reverse front) (beginning_whole p.sequence) ∙ sym (reverse-append front p.sequence))
      (ended-join s n (reverse front))

  armed-there : (r : List Action) → armed r ≡ true → ArmedBy (reverse r)
  unfolding armed
  armed-there [] e = whole-there [] e
  armed-there (a ∷ r) e = pick (or_cases (ended s n (a ∷ r)) (armed r && is_input a) e) (armed-there r)
    where
      input_of : (a : Action) → is_input a ≡ true → (k : ℕ) × (a ≡ Action.input k)
      input_of (Action.input k) q = (k, refl)
      input_of (Action.output k) q = absurd (true≢false (sym q))

      pick : (ended s n (a ∷ r) ≡ true) ⊎ (armed r && is_input a ≡ true) → (armed r ≡ true → ArmedBy (reverse r)) → ArmedBy (reverse (a ∷ r))
      pick (inl h) ih = whole-there (a ∷ r) h
      pick (inr h) ih =
          let w : (armed r ≡ true) × (is_input a ≡ true) = both (armed r) (is_input a) h in
          let t : ArmedBy (reverse r) = ih w.0 in
          let k : ((k : ℕ) × (a ≡ Action.input k)) = input_of a w.1 in
          record {
            front = t.front;
            between = t.between ++ k.0 ∷ [];
            stands =
                reverse-cons a r
                ∙ ap₂ ◌++◌ t.stands (ap (λ (x : Action). x ∷ []) k.1)
                ∙ append_assoc t.front (p.sequence ++ map Action.input t.between) (Action.input k.0 ∷ [])
                ∙ ap (λ (x : List Action). t.front ++ x)
                (append_assoc p.sequence (map Action.input t.between) (Action.input k.0 ∷ [])
                ∙ ap (λ (x : List Action). p.sequence ++ x) (sym (map-append Action.input t.between (k.0 ∷ []))));
          }

  armed_on : (r : List Action) → armed r ≡ true → (between : List ℕ) → armed (reverse_aux (map Action.input between) r) ≡ true
  unfolding armed
  armed_on r e [] = e
  armed_on r e (k ∷ rest) = armed_on (Action.input k ∷ r) (or_right (ended s n (Action.input k ∷ r)) (and_true e refl)) rest

  whole-armed : (r : List Action) → ended s n r ≡ true → armed r ≡ true
  unfolding armed
  whole-armed [] e = e
  whole-armed (a ∷ r) e = or_left (armed r && is_input a) e

  nothing_matched : (k : ℕ) → longest s k [] ≡ 0
  unfolding longest ended
  nothing_matched zero = refl
  nothing_matched (suc k) = nothing_matched k

  breaks_there : (order : List Line) → BreaksOn [] (actions order) → Breaks p order
  breaks_there order h =
      let t : ArmedBy h.before = subst ArmedBy (reverse-reverse h.before) (armed-there (reverse h.before) h.is_armed) in
      let behind : List Action = p.sequence ++ (map Action.input t.between ++ Action.output h.answer ∷ h.after) in
      let q : actions order ≡ t.front ++ behind =
      h.occurs ∙ ap (λ (x : List Action). x ++ Action.output h.answer ∷ h.after) t.stands
      ∙ append_assoc t.front (p.sequence ++ map Action.input t.between) (Action.output h.answer ∷ h.after)
      ∙ ap (λ (x : List Action). t.front ++ x)
      (append_assoc p.sequence (map Action.input t.between) (Action.output h.answer ∷ h.after)) in
      let r = map_split (λ (l : Line). l.action) order t.front behind q in
      record {
        before = r.0;
        behind = r.1;
        stands = r.2;
        between = t.between;
        breach = record { answer = h.answer; after = h.after; occurs = r.4; outside = h.outside };
      }

  breaks_back : (order : List Line) → Breaks p order → BreaksOn [] (actions order)
  breaks_back order h =
      let before : List Action = actions h.before in
      let br : Breach p h.between (actions h.behind) = h.breach in
      let ins : List Action = map Action.input h.between in
      let last : List Action = Action.output br.answer ∷ br.after in
      record {
        before = (before ++ p.sequence) ++ ins;
        answer = br.answer;
        after = br.after;
        occurs =
            ap actions h.stands
            ∙ map-append (λ (l : Line). l.action) h.before h.behind
            ∙ ap (λ (x : List Action). before ++ x) br.occurs
            ∙ sym (append_assoc before p.sequence (ins ++ last))
            ∙ sym (append_assoc (before ++ p.sequence) ins last);
        is_armed =
            subst (λ (x : List Action). armed x ≡ true)
            (sym (reverse_aux-append (before ++ p.sequence) ins []))
            (armed_on (reverse (before ++ p.sequence)) (whole-armed (reverse (before ++ p.sequence)) (whole_back before)) h.between);
        outside = br.outside;
      }

  -- at the start, where there is a sequence, nothing is armed
  not-ended : (k : ℕ) → 0 < k → ended s k [] ≡ false
  unfolding ended
  not-ended zero h = let z : ⊥ = omega arith in absurd z
  not-ended (suc k) h = refl

  begin_is : 0 < n → state_of [] ≡ State.matched false 0
  unfolding state_of armed
  begin_is some = ap₂ State.matched (not-ended n some) (nothing_matched n)

  -- The matcher has broken exactly if the order breaks the property.
  pub matcher_reads : 0 < n → (order : List Line) → (is_broken (along (state_matcher p) (State.matched false 0) order) ≡ true) ↔ Breaks p order
  matcher_reads some order = (
    λ e. breaks_there order ((follow [] order).0 (subst Broken (sym (begin_is some)) e)),
    λ h. subst Broken (begin_is some) ((follow [] order).1 (breaks_back order h)),
  )
    where
      Broken : State → Type 0
      Broken q = is_broken (along (state_matcher p) q order) ≡ true
