-- An order with one line more, behind which stand inputs only: a breach ends with an output, so what broke still breaks.
use Prim.Native.Nat.{ℕ}
use mathlib.Core.Path.{◌≡◌, refl, sym, ◌∙◌, ap, subst}
use mathlib.Core.Logic.{◌⊎◌, inl, inr}
use mathlib.Core.List.{List, [], ◌∷◌, ◌++◌, map, map-append, append_assoc, head-eq_of_cons-eq, nil≢cons}
use Rattle.meaning.specs.Words.{Action, Property, Line}
use Rattle.meaning.specs.Node.{actions, Breach, Breaks}
use Rattle.meaning.specs.History.{LoggedAfter, BreaksAfter}
use Rattle.meaning.proofs.Lists.{All, all_head, all_right, map_split, two_splits}
use Rattle.meaning.proofs.Channels.{IsIn, In}

-- The same order without a line and with it; behind it stand inputs only.
pub record With (l : Line) (shorter longer : List Line) : Type 0 where
  pub front : List Line
  pub back : List Line
  pub without : shorter ≡ front ++ back
  pub within : longer ≡ front ++ l ∷ back
  pub inputs : All In back

-- ---- a breach

-- no output stands among inputs
no_output : {w : List Line} → All In w → (before : List Action) (k : ℕ) (after : List Action) → actions w ≡ before ++ Action.output k ∷ after → ⊥
no_output {w} h before k after e =
    let r = map_split (λ (l : Line). l.action) w before (Action.output k ∷ after) e in
    go r.1 (all_right r.0 r.1 (subst (All In) r.2 h)) r.4
  where
    go : (vs : List Line) → All In vs → actions vs ≡ Action.output k ∷ after → ⊥
    go [] h e = nil≢cons e
    go (y ∷ vs) h e = subst IsIn (head-eq_of_cons-eq e) (all_head h)

module _ (p : Property) (between : List ℕ) where
  abbrev before-answer : List Action
  before-answer = p.sequence ++ map Action.input between

  occurs : {behind : List Action} (h : Breach p between behind) → behind ≡ before-answer ++ Action.output h.answer ∷ h.after
  occurs h = h.occurs ∙ sym (append_assoc p.sequence (map Action.input between) (Action.output h.answer ∷ h.after))

  -- a breach ends with an output, so inputs behind it can be left out,
  breach_fewer : (m w : List Line) → All In w → Breach p between (actions (m ++ w)) → Breach p between (actions m)
  breach_fewer m w hw h =
      go (two_splits (actions m) (actions w) before-answer (Action.output h.answer ∷ h.after) (sym (map-append (λ (l : Line). l.action) m w) ∙ occurs h))
    where
      go : ((k : List Action) × (before-answer ≡ actions m ++ k) × (actions w ≡ k ++ Action.output h.answer ∷ h.after))
          ⊎ ((a : Action) × (k : List Action) × (actions m ≡ before-answer ++ a ∷ k) × (Action.output h.answer ∷ h.after ≡ a ∷ (k ++ actions w)))
          → Breach p between (actions m)
      go (inl r) = absurd (no_output hw r.0 h.answer h.after r.2)
      go (inr r) =
          record {
            answer = h.answer;
            after = r.1;
            occurs =
                r.2 ∙ ap (λ (a : Action). before-answer ++ a ∷ r.1) (sym (head-eq_of_cons-eq r.3))
                ∙ append_assoc p.sequence (map Action.input between) (Action.output h.answer ∷ r.1);
            outside = h.outside;
          }

  -- wherever it begins in an order that ends with them,
  record Earlier (u before behind : List Line) : Type 0 where
    first : Line
    rest : List Line
    stands : u ≡ before ++ first ∷ rest
    same_first : (x : Line) (xs : List Line) → behind ≡ x ∷ xs → x ≡ first
    breach : Breach p between (actions (first ∷ rest))

  begins_earlier : (u w before behind : List Line) → All In w → u ++ w ≡ before ++ behind → Breach p between (actions behind) → Earlier u before behind
  begins_earlier u w before behind hw e h = go (two_splits u w before behind e)
    where
      go : ((m : List Line) × (before ≡ u ++ m) × (w ≡ m ++ behind)) ⊎ ((y : Line) × (m : List Line) × (u ≡ before ++ y ∷ m) × (behind ≡ y ∷ (m ++ w)))
          → Earlier u before behind
      go (inl r) = absurd (no_output (all_right r.0 behind (subst (All In) r.2 hw)) before-answer h.answer h.after (occurs h))
      go (inr r) =
          record {
            first = r.0;
            rest = r.1;
            stands = r.2;
            same_first = λ x xs q. head-eq_of_cons-eq (sym q ∙ r.3);
            breach = breach_fewer (r.0 ∷ r.1) w hw (subst (λ (z : List Line). Breach p between (actions z)) r.3 h);
          }

  -- and anything may stand behind it.
  breach_more : (m v : List Line) → Breach p between (actions m) → Breach p between (actions (m ++ v))
  breach_more m v h =
      let last : List Action = Action.output h.answer ∷ h.after in
      record {
        answer = h.answer;
        after = h.after ++ actions v;
        occurs =
            map-append (λ (l : Line). l.action) m v
            ∙ ap (λ (z : List Action). z ++ actions v) h.occurs
            ∙ append_assoc p.sequence (map Action.input between ++ last) (actions v)
            ∙ ap (λ (z : List Action). p.sequence ++ z) (append_assoc (map Action.input between) last (actions v));
        outside = h.outside;
      }

-- Breaches of a sort that end with an output.
pub record Ends (Breaking : List Line → Type 0) : Type 0 where
  pub fewer : (u w : List Line) → All In w → Breaking (u ++ w) → Breaking u
  pub more : (u v : List Line) → Breaking u → Breaking (u ++ v)

pub breaks_with : {Breaking : List Line → Type 0} → Ends Breaking → {l : Line} {shorter longer : List Line} → With l shorter longer → Breaking shorter → Breaking longer
breaks_with {Breaking} k {l} w h =
    subst Breaking (sym w.within) (k.more w.front (l ∷ w.back) (k.fewer w.front w.back w.inputs (subst Breaking w.without h)))

module _ (p : Property) where
  pub breaks_ends : Ends (Breaks p)
  breaks_ends =
      record {
        fewer = λ u w hw h.
            let r = begins_earlier p h.between u w h.before h.behind hw h.stands h.breach in
            record { before = h.before; behind = r.first ∷ r.rest; stands = r.stands; between = h.between; breach = r.breach };
        more = λ u v h. record {
          before = h.before;
          behind = h.behind ++ v;
          stands = ap (λ (z : List Line). z ++ v) h.stands ∙ append_assoc h.before h.behind v;
          between = h.between;
          breach = breach_more p h.between h.behind v h.breach;
        };
      }

  -- those that begin with a line logged after `earlier`
  pub after-ends : (earlier : List Line) → Ends (BreaksAfter p earlier)
  after-ends earlier =
      record {
        fewer = λ u w hw h.
            let r = begins_earlier p h.between u w h.before (h.first ∷ h.behind) hw h.stands h.breach in
            record {
              before = h.before;
              first = r.first;
              behind = r.rest;
              stands = r.stands;
              begins = subst (λ (z : Line). LoggedAfter earlier h.before z.action) (r.same_first h.first h.behind refl) h.begins;
              between = h.between;
              breach = r.breach;
            };
        more = λ u v h. record {
          before = h.before;
          first = h.first;
          behind = h.behind ++ v;
          stands = ap (λ (z : List Line). z ++ v) h.stands ∙ append_assoc h.before (h.first ∷ h.behind) v;
          begins = h.begins;
          between = h.between;
          breach = breach_more p h.between (h.first ∷ h.behind) v h.breach;
        };
      }
