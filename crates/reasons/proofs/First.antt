-- Among orders there is at most one first.
use Prim.Native.Nat.{ℕ}
use mathlib.Core.Path.{◌≡◌, refl, sym, ◌∙◌, ap}
use mathlib.Core.Logic.{◌⊎◌, inl, inr}
use mathlib.Core.Bool.{true≢false}
use mathlib.Core.List.{List, [], ◌∷◌, ◌++◌, head-eq_of_cons-eq, tail-eq_of_cons-eq}
use Rattle.meaning.specs.Words.{Action, Line}
use Rattle.meaning.proofs.Channels.{IsIn, IsOut, In, Out}
use Rattle.stays_told.specs.Falls.{output_at as sent, input_at as got}
use Rattle.reasons.specs.Reasons.{Sooner, First, gets_in}

-- an output is no input
no_line : (k s j t : ℕ) → sent k s ≡ got j t → ⊥
no_line k s j t e = true≢false (sym (ap gets_in e))

-- of two orders not each is sooner than the other
module _ (k s j t k' s' j' t' : ℕ) (A B A' B' : List Line) where
  clash : (u v : List Line) → u ++ sent k s ∷ A ≡ v ++ got j' t' ∷ B' → u ++ got j t ∷ B ≡ v ++ sent k' s' ∷ A' → ⊥
  clash [] [] e f = no_line k s j' t' (head-eq_of_cons-eq e)
  clash [] (z ∷ v) e f = no_line k s j t (head-eq_of_cons-eq e ∙ sym (head-eq_of_cons-eq f))
  clash (z ∷ u) [] e f = no_line k' s' j' t' (sym (head-eq_of_cons-eq f) ∙ head-eq_of_cons-eq e)
  clash (z ∷ u) (w ∷ v) e f = clash u v (tail-eq_of_cons-eq e) (tail-eq_of_cons-eq f)

pub not_both : {o o' : List Line} → Sooner o o' → Sooner o' o → ⊥
not_both a b =
    clash a.output a.sent a.input a.got b.output b.sent b.input b.got a.after a.behind b.after b.behind
    a.same b.same (sym a.one ∙ b.two) (sym a.two ∙ b.one)

pub first_unique : {Fitting : List Line → Type 0} (o o' : List Line) → First Fitting o → First Fitting o' → o ≡ o'
first_unique o o' h k = go (h.first o' k.fits) (k.first o h.fits)
  where
    go : (o ≡ o') ⊎ Sooner o o' → (o' ≡ o) ⊎ Sooner o' o → o ≡ o'
    go (inl e) y = e
    go (inr a) (inl e) = sym e
    go (inr a) (inr b) = absurd (not_both a b)

-- one line more in front of both
pub sooner_cons : (z : Line) {o o' : List Line} → Sooner o o' → Sooner (z ∷ o) (z ∷ o')
sooner_cons z s =
    record {
      same = z ∷ s.same;
      output = s.output;
      sent = s.sent;
      after = s.after;
      input = s.input;
      got = s.got;
      behind = s.behind;
      one = ap (λ (l : List Line). z ∷ l) s.one;
      two = ap (λ (l : List Line). z ∷ l) s.two;
    }

-- an output here and an input there
pub sooner_here : (y x : Line) → Out y → In x → (u v : List Line) → Sooner (y ∷ u) (x ∷ v)
sooner_here y x = go y.action y.stamp x.action x.stamp
  where
    go : (a : Action) (s : ℕ) (c : Action) (t : ℕ) → IsOut a → IsIn c → (u v : List Line)
        → Sooner (record { action = a; stamp = s } ∷ u) (record { action = c; stamp = t } ∷ v)
    go (Action.output k) s (Action.input j) t o i u v =
        record { same = []; output = k; sent = s; after = u; input = j; got = t; behind = v; one = refl; two = refl }
    go (Action.output k) s (Action.output j) t o i u v = absurd i
    go (Action.input k) s c t o i u v = absurd o
