-- The way back is one: read back from the rows it is stored in, a front is itself.
use Prim.Native.Nat.{ℕ, zero, suc, ◌≤◌, ◌<◌}
use mathlib.Core.Path.{◌≡◌, refl, sym, ◌∙◌, ap, ap₂, subst}
use mathlib.Core.List.{List, [], ◌∷◌, map}
use native.Mathlib.Omega.{arith}
use lib.ListN.{length, get_or, length-map}
use Rattle.laws.specs.Places.{first}
use Rattle.laws.proofs.Places.{getD_first, first-same, first-whole, map_at}
use Rattle.meaning.specs.Words.{Action, Line, action_number}
use Rattle.meaning.specs.Matcher.{Lengths, none_of}
use Rattle.meaning.specs.Numbers.{property_refusal}
use Rattle.meaning.specs.Step.{Held, Front}
use Rattle.meaning.proofs.Lists.{All}
use Rattle.meaning.proofs.Channels.{IsIn, In}
use Rattle.meaning.proofs.InOrder.{nothing}
use Rattle.meaning.proofs.Throughout.{Throughout}
use Rattle.property.specs.Meant.{meant}
use Rattle.property.specs.declared.Property.{Property}
use Rattle.matcher.specs.Sets.{set_of, cut_of, Fits, Short}
use Rattle.matcher.proofs.Words.{set_back, short_fits}
use Rattle.rows.specs.declared.Span.{Span}
use Rattle.rows.specs.Rows.{spanning, word}
use Rattle.rows.proofs.Rows.{word-spanning}
use Rattle.held.specs.Held.{line_at}
use Rattle.cuts.specs.Fronts.{cut_at, front_of, sets_of, stored_held, stored_acts, stored_row}
use Rattle.session_record.proofs.Each.{all-at}

-- The rows of the record of a front.
abbrev pub stored_rows : Front Lengths → List (List ℕ)
stored_rows f = stored_held f ∷ stored_acts f ∷ (stored_row f).masks ∷ (stored_row f).armed ∷ []

module _ (p : Property) (good : property_refusal (meant p) ≡ 0) (f : Front Lengths) (few : length f.held ≤ 64)
    (inputs : All (λ (h : Held Lengths). In h.line) f.held) (short : Throughout (Short (meant p)) f) where
  abbrev pub own : Span
  own = spanning (length f.held)

  abbrev pub nth : ℕ → Held Lengths
  nth i = get_or f.held i (nothing none_of)

  pub stamp_stored : (i : ℕ) → i < length f.held → word (stored_rows f) own 0 i ≡ (nth i).line.stamp
  stamp_stored i h =
      word-spanning (stored_rows f) (length f.held) 0 i (omega arith)
      ∙ getD_first _ 65 i 0 (omega arith) ∙ map_at (λ (x : Held Lengths). x.line.stamp) f.held i (nothing none_of) 0 h

  act_stored : (i : ℕ) → i < length f.held → word (stored_rows f) own 1 i ≡ action_number (nth i).line.action
  act_stored i h =
      word-spanning (stored_rows f) (length f.held) 1 i (omega arith)
      ∙ getD_first _ 65 i 0 (omega arith) ∙ map_at (λ (x : Held Lengths). action_number x.line.action) f.held i (nothing none_of) 0 h

  -- the set of cut i
  set : ℕ → Lengths
  set zero = f.before
  set (suc i) = (nth i).after

  set_at_is : (i : ℕ) → i ≤ length f.held → get_or (sets_of f) i none_of ≡ set i
  unfolding set
  set_at_is zero h = refl
  set_at_is (suc i) h = map_at (λ (x : Held Lengths). x.after) f.held i (nothing none_of) none_of (omega arith)

  set_short : (i : ℕ) → i ≤ length f.held → Short (meant p) (set i)
  unfolding set
  set_short zero h = short.before
  set_short (suc i) h = all-at short.held i (nothing none_of) (omega arith)

  sets-long : length (sets_of f) ≡ suc (length f.held)
  sets-long = ap suc (length-map f.held (λ (x : Held Lengths). x.after))

  cut_stored : (i : ℕ) → i ≤ length f.held → cut_at (stored_rows f) own 0 i ≡ cut_of (set i)
  cut_stored i h =
      ap₂ (λ (x y : ℕ). record { mask = x; armed = y })
      (word-spanning (stored_rows f) (length f.held) 2 i (omega arith) ∙ stored (λ (s : Lengths). (cut_of s).mask))
      (word-spanning (stored_rows f) (length f.held) 3 i (omega arith) ∙ stored (λ (s : Lengths). (cut_of s).armed))
    where
      stored : (w : Lengths → ℕ) → get_or (first (λ j. get_or (map w (sets_of f)) j 0) 65) i 0 ≡ w (set i)
      stored w = getD_first _ 65 i 0 (omega arith) ∙ map_at w (sets_of f) i none_of 0 (omega (arith, sets-long)) ∙ ap w (set_at_is i h)

  pub stored_fits : (i : ℕ) → i ≤ length f.held → Fits p (cut_at (stored_rows f) own 0 i)
  stored_fits i h = subst (Fits p) (sym (cut_stored i h)) (short_fits p good (set i) (set_short i h))

  set_stored : (i : ℕ) → i ≤ length f.held → set_of (cut_at (stored_rows f) own 0 i) ≡ set i
  set_stored i h = ap set_of (cut_stored i h) ∙ set_back p good (set i) (set_short i h)

  line_back : (a : Action) (t : ℕ) → IsIn a → ◌≡◌ {A = Line} (record { action = Action.input (action_number a); stamp = t }) (record { action = a; stamp = t })
  line_back (Action.input k) t h = refl
  line_back (Action.output k) t h = absurd h

  line_stored : (i : ℕ) → i < length f.held → line_at (stored_rows f) own i ≡ (nth i).line
  line_stored i h =
      ap₂ (λ (x y : ℕ). record { action = Action.input x; stamp = y }) (act_stored i h) (stamp_stored i h)
      ∙ line_back (nth i).line.action (nth i).line.stamp (all-at inputs i (nothing none_of) h)

  pub front_back : front_of (stored_rows f) own 0 ≡ f
  unfolding set
  front_back =
      ap₂ (λ (s : Lengths) (l : List (Held Lengths)). record { before = s; held = l })
      (set_stored zero (omega arith))
      (first-same _ _ (length f.held) (λ i h. ap₂ (λ (l : Line) (s : Lengths). record { line = l; after = s }) (line_stored i h) (set_stored (suc i) (omega arith)))
      ∙ first-whole f.held (nothing none_of))
