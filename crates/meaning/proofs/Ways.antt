-- At a cut: the ways to it, which the waiting inputs complete to an explanation, and the sets that hold exactly what the
-- matcher remembers of them. One line more and one line less at the end of a way.
use mathlib.Core.Path.{◌≡◌, refl, sym, ◌∙◌, ap, subst}
use mathlib.Core.Logic.{◌↔◌, ◌⊎◌, inl, inr}
use mathlib.Core.List.{List, [], ◌∷◌, ◌++◌, append-nil}
use Rattle.meaning.specs.Words.{Property, Line}
use Rattle.meaning.specs.Node.{ins, outs}
use Rattle.meaning.specs.Step.{Sets, Held, last_set}
use Rattle.meaning.proofs.Lists.{All, all-ins, all_channels, Ended, empty, ended, end_of, same_end, not_empty, snoc_append}
use Rattle.meaning.proofs.Pairs.{May, Pairs}
use Rattle.meaning.proofs.Channels.{IsIn, IsOut, In, Out, in_or_out}
use Rattle.meaning.proofs.Fronts.{lines}
use Rattle.meaning.proofs.Sets.{Matcher, along, along_last, Reading}
use Rattle.meaning.proofs.OneLine.{pairs_insert, pairs_remove, pairs_before, ins_last_in, outs_last_in, outs-last-out, ins-last-out}

module _ {p : Property} {Breaking : List Line → Type 0} (R : Reading p Breaking) where
  abbrev M : Matcher
  M = R.matcher

  abbrev 𝓢 : Sets
  𝓢 = R.sets

  -- an order of the inputs behind a cut and of all outputs, which the inputs ahead complete
  pub record Way (O behind ahead : List Line) (s : M.State) : Type 0 where
    pub order : List Line
    pub ins_are : ins order ≡ behind
    pub outs_are : outs order ≡ O
    pub pairs : Pairs p (order ++ ahead)
    pub remembers : along M M.begin order ≡ s

  -- a set that holds what the matcher remembers of such orders, and nothing else
  abbrev pub Exact : List Line → List Line → List Line → 𝓢.Set → Type 0
  Exact O behind ahead a = (s : M.State) → R.laws.Member a s ↔ Way O behind ahead s

  -- every set of a front is exact: the one before all inputs held, and the one after each
  pub data Right (O : List Line) : List Line → 𝓢.Set → List (Held 𝓢.Set) → Type 0 where
    last : {behind : List Line} {a : 𝓢.Set} → Exact O behind [] a → Right O behind a []
    cut : {behind : List Line} {a : 𝓢.Set} {h : Held 𝓢.Set} {hs : List (Held 𝓢.Set)}
        → Exact O behind (h.line ∷ lines hs) a → Right O (behind ++ h.line ∷ []) h.after hs → Right O behind a (h ∷ hs)

  pub here : {O behind : List Line} {a : 𝓢.Set} {hs : List (Held 𝓢.Set)} → Right O behind a hs → Exact O behind (lines hs) a
  here (last e) = e
  here (cut e r) = e

  pub last-exact : {O behind : List Line} {a : 𝓢.Set} {hs : List (Held 𝓢.Set)} → Right O behind a hs
      → Exact O (behind ++ lines hs) [] (last_set p 𝓢 a hs)
  unfolding last_set
  last-exact {O} {behind} {a} (last e) = subst (λ (l : List Line). Exact O l [] a) (sym (append-nil behind)) e
  last-exact {O} {behind} (cut {h = h} {hs = hs} e r) =
      subst (λ (l : List Line). Exact O l [] (last_set p 𝓢 h.after hs)) (snoc_append behind h.line (lines hs)) (last-exact r)

  -- one line more at the end of a way
  module _ {O behind ahead : List Line} where
    pub longer_in : (x : Line) {r s : M.State} → In x → Way O behind (x ∷ ahead) r → M.step r x ≡ s → Way O (behind ++ x ∷ []) ahead s
    longer_in x i w e =
        record {
          order = w.order ++ x ∷ [];
          ins_are = ins_last_in w.order x i ∙ ap (λ (l : List Line). l ++ x ∷ []) w.ins_are;
          outs_are = outs_last_in w.order x i ∙ w.outs_are;
          pairs = subst (Pairs p) (sym (snoc_append w.order x ahead)) w.pairs;
          remembers = along_last M M.begin w.order x ∙ ap (λ (q : M.State). M.step q x) w.remembers ∙ e;
        }

    pub longer-out : (y : Line) {r s : M.State} → Out y → All (λ z. May p z y) behind → All (λ z. May p z y) O → All (May p y) ahead
        → Way O behind ahead r → M.step r y ≡ s → Way (O ++ y ∷ []) behind ahead s
    longer-out y o hb hO ha w e =
        record {
          order = w.order ++ y ∷ [];
          ins_are = ins-last-out w.order y o ∙ w.ins_are;
          outs_are = outs-last-out w.order y o ∙ ap (λ (l : List Line). l ++ y ∷ []) w.outs_are;
          pairs =
              pairs_insert p w.order ahead y w.pairs
              (all_channels w.order (subst (All (λ z. May p z y)) (sym w.ins_are) hb) (subst (All (λ z. May p z y)) (sym w.outs_are) hO))
              ha;
          remembers = along_last M M.begin w.order y ∙ ap (λ (q : M.State). M.step q y) w.remembers ∙ e;
        }

  -- one line less: a way ends with its last input or with the newest output
  pub data Last (O behind ahead : List Line) (y : Line) (s : M.State) : Type 0 where
    by_output : (r : M.State) → Way O behind ahead r → M.step r y ≡ s → All (λ z. May p z y) behind → Last O behind ahead y s
    by_input : (front : List Line) (x : Line) (r : M.State) → behind ≡ front ++ x ∷ [] → Way (O ++ y ∷ []) front (x ∷ ahead) r → M.step r x ≡ s
        → Last O behind ahead y s

  pub last_of : {O behind ahead : List Line} {y : Line} {s : M.State} → Way (O ++ y ∷ []) behind ahead s → Last O behind ahead y s
  last_of {O} {behind} {ahead} {y} {s} w = go (end_of w.order) w.ins_are w.outs_are w.pairs w.remembers
    where
      go : {u : List Line} → Ended u → ins u ≡ behind → outs u ≡ O ++ y ∷ [] → Pairs p (u ++ ahead) → along M M.begin u ≡ s → Last O behind ahead y s
      go empty i o c m = absurd (not_empty O y o)
      go (ended v z) i o c m = pick (in_or_out z.action)
        where
          step_eq : M.step (along M M.begin v) z ≡ s
          step_eq = sym (along_last M M.begin v z) ∙ m

          pick : IsIn z.action ⊎ IsOut z.action → Last O behind ahead y s
          pick (inl h) =
              by_input (ins v) z (along M M.begin v) (sym i ∙ ins_last_in v z h)
              (record {
                order = v;
                ins_are = refl;
                outs_are = sym (outs_last_in v z h) ∙ o;
                pairs = subst (Pairs p) (snoc_append v z ahead) c;
                remembers = refl;
              })
              step_eq
          pick (inr h) =
              let e : (outs v ≡ O) × (z ≡ y) = same_end (outs v) O z y (sym (outs-last-out v z h) ∙ o) in
              let iv : ins v ≡ behind = sym (ins-last-out v z h) ∙ i in
              by_output (along M M.begin v)
              (record { order = v; ins_are = iv; outs_are = e.0; pairs = pairs_remove p v ahead z c; remembers = refl })
              (subst (λ (q : Line). M.step (along M M.begin v) q ≡ s) e.1 step_eq)
              (subst (λ (q : Line). All (λ z'. May p z' q) behind) e.1 (subst (All (λ z'. May p z' z)) iv (all-ins (pairs_before p v ahead z c))))
