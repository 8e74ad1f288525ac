-- The two channels of what is left of a run, by places.
use Prim.Native.Nat.{ℕ, zero, suc}
use mathlib.Core.Path.{◌≡◌, refl, sym, ap, ap₂, ◌∙◌, subst}
use mathlib.Core.Logic.{◌↔◌}
use mathlib.Core.Bool.{Bool, true, false, cond, not, ◌&&◌}
use mathlib.Core.List.{List, [], ◌∷◌, ◌++◌}
use lib.ListN.{get_or}
use lib.Dec.{leb}
use Rattle.meaning.specs.Words.{Line}
use Rattle.meaning.specs.Words
use Rattle.meaning.specs.Node.{ins, outs}
use Rattle.meaning.specs.Numbers.{property_refusal}
use Rattle.meaning.specs.Matcher.{Lengths, State, state_next, moved}
use Rattle.meaning.proofs.Lists.{ins-append, outs-append}
use Rattle.meaning.proofs.Lengths.{lengths_reading}
use Rattle.property.specs.Meant.{meant}
use Rattle.property.specs.declared.Property.{Property}
use Rattle.matcher.specs.declared.Cut.{Cut}
use Rattle.matcher.specs.Sets.{set_of, cut_of}
use Rattle.matcher.proofs.Words.{set_back, moved_short}
use Rattle.cuts.specs.Steps.{line_of}
use Rattle.judged_rest.specs.declared.Reached.{Reached}
use Rattle.judged_rest.specs.Lent.{Lines, is_output, line_in}
use Rattle.judged_rest.specs.Judged.{waits}
use Rattle.first_order.specs.Search.{kind_in}
use Rattle.why.proofs.Left.{left, on}

-- the inputs, or outputs, from a place on: of each what g says
abbrev pub channel : {A : Type 0} → Lines → Bool → (ℕ → A) → ℕ → ℕ → List A
channel ls wanted g a n = left (on (kind_in ls.output wanted) a) g n

module _ (ls : Lines) (from : Reached) where
  abbrev w : ℕ → Bool
  w i = waits from i (is_output ls i)

  pub ins-left : (n : ℕ) → ins (left w (line_in ls) n) ≡ channel ls false (line_in ls) from.input n
  unfolding left
  ins-left zero = refl
  ins-left (suc n) =
      ins-append (left w (line_in ls) n) (cond (w n) (line_in ls n ∷ []) [])
      ∙ ap₂ ◌++◌ (ins-left n) (one (is_output ls n) (leb from.output n) (leb from.input n))
    where
      one : (o b a : Bool) → ins (cond (cond o b a) (line_of o (get_or ls.action n 0) (get_or ls.stamp n 0) ∷ []) [])
          ≡ cond (not o && a) (line_of o (get_or ls.action n 0) (get_or ls.stamp n 0) ∷ []) []
      one true true a = refl
      one true false a = refl
      one false b true = refl
      one false b false = refl

  pub outs-left : (n : ℕ) → outs (left w (line_in ls) n) ≡ channel ls true (line_in ls) from.output n
  unfolding left
  outs-left zero = refl
  outs-left (suc n) =
      outs-append (left w (line_in ls) n) (cond (w n) (line_in ls n ∷ []) [])
      ∙ ap₂ ◌++◌ (outs-left n) (one (is_output ls n) (leb from.output n) (leb from.input n))
    where
      one : (o b a : Bool) → outs (cond (cond o b a) (line_of o (get_or ls.action n 0) (get_or ls.stamp n 0) ∷ []) [])
          ≡ cond (o && b) (line_of o (get_or ls.action n 0) (get_or ls.stamp n 0) ∷ []) []
      one true true a = refl
      one true false a = refl
      one false b true = refl
      one false b false = refl

-- ---- the one state that an order has reached

same_state : (p : Words.Property) (q : State) (l m : Line) → l.action ≡ m.action → state_next p q l ≡ state_next p q m
same_state p (State.matched b k) l m e = ap (λ (a : Words.Action). state_next p (State.matched b k) (record { action = a; stamp = 0 })) e
same_state p State.broken l m e = refl

module _ (p : Property) (good : property_refusal (meant p) ≡ 0) where
  -- a set of one state
  abbrev pub Only : Cut → State → Type 0
  Only c q = (s : State) → (lengths_reading (meant p) good).laws.Member (set_of c) s ↔ (s ≡ q)

  pub only_next : (c : Cut) (q : State) → Only c q → (l m : Line) → l.action ≡ m.action → Only (cut_of (moved (meant p) (set_of c) l)) (state_next (meant p) q m)
  only_next c q one l m e s =
      subst (λ (x : Lengths). (lengths_reading (meant p) good).laws.Member x s ↔ (s ≡ state_next (meant p) q m))
      (sym (set_back p good (moved (meant p) (set_of c) l) (moved_short (meant p) (set_of c) l))) (
        λ h.
            let r = ((lengths_reading (meant p) good).laws.member_move (set_of c) l s).0 h in
            sym r.2 ∙ ap (λ (x : State). state_next (meant p) x l) ((one r.0).0 r.1) ∙ same_state (meant p) q l m e,
        λ h. ((lengths_reading (meant p) good).laws.member_move (set_of c) l s).1 (q, (one q).1 refl, same_state (meant p) q l m e ∙ sym h),
      )
