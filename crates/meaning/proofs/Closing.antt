-- Closing at a stamp: the inputs that have closed stand before those that are open, and no set changes.
use Prim.Native.Nat.{ℕ, ◌+◌, ◌*◌, ◌≤◌, ◌<◌}
use mathlib.Core.Path.{◌≡◌, refl, sym, ap, subst}
use mathlib.Core.Bool.{Bool, true, false, cond, not}
use mathlib.Core.List.{List, [], ◌∷◌, ◌++◌, append-nil}
use native.Mathlib.Omega.{arith}
use lib.Dec.{T, leb→le, nleb→lt}
use Rattle.meaning.specs.Words.{Property, Line, StampsFrom}
use Rattle.meaning.specs.Calls.{is_open}
use Rattle.meaning.specs.Step.{Sets, Held, Front, closed}
use Rattle.meaning.proofs.Lists.{All, done, also, all_map, from_all, snoc_append}
use Rattle.meaning.proofs.Fronts.{lines}
use Rattle.meaning.proofs.Sets.{Reading}
use Rattle.meaning.proofs.Ways.{Right, last, cut}

module _ {p : Property} {Breaking : List Line → Type 0} (R : Reading p Breaking) where
  abbrev 𝓢 : Sets
  𝓢 = R.sets

  pub record Closing (O : List Line) (T' : ℕ) (behind : List Line) (hs : List (Held 𝓢.Set)) (f : Front 𝓢.Set) : Type 0 where
    pub gone : List Line
    pub split : lines hs ≡ gone ++ lines f.held
    pub closed_now : All (λ (z : Line). z.stamp + 2 * p.UB < T') gone
    pub open_still : All (λ (z : Line). T' ≤ z.stamp + 2 * p.UB) (lines f.held)
    pub right : Right R O (behind ++ gone) f.before f.held

  pub closing : {O behind : List Line} {a : 𝓢.Set} {hs : List (Held 𝓢.Set)} (T' t : ℕ) → StampsFrom t (lines hs) → Right R O behind a hs
      → Closing O T' behind hs (closed p 𝓢 T' a hs)
  unfolding closed
  closing {O} {behind} {a} T' t f (last e) =
      record { gone = []; split = refl; closed_now = done; open_still = done; right = subst (λ (l : List Line). Right R O l a []) (sym (append-nil behind)) (last e) }
  closing {O} {behind} {a} T' t f (cut {h = h} {hs = hs} e r) =
      go (is_open p T' h.line) (leb→le T' (h.line.stamp + 2 * p.UB)) (nleb→lt T' (h.line.stamp + 2 * p.UB))
      (closing T' h.line.stamp f.1 r)
    where
      go : (c : Bool) → (T c → T' ≤ h.line.stamp + 2 * p.UB) → (T (not c) → h.line.stamp + 2 * p.UB < T')
          → Closing O T' (behind ++ h.line ∷ []) hs (closed p 𝓢 T' h.after hs)
          → Closing O T' behind (h ∷ hs) (cond c (record { before = a; held = h ∷ hs }) (closed p 𝓢 T' h.after hs))
      go true y n k =
          let yes' : T' ≤ h.line.stamp + 2 * p.UB = y tt in
          record {
            gone = [];
            split = refl;
            closed_now = done;
            open_still = also yes' (all_map (λ z q. let q' : h.line.stamp ≤ z.stamp = q in omega arith) (from_all (lines hs) f.1));
            right = subst (λ (l : List Line). Right R O l a (h ∷ hs)) (sym (append-nil behind)) (cut e r);
          }
      go false y n k =
          let g : Front 𝓢.Set = closed p 𝓢 T' h.after hs in
          record {
            gone = h.line ∷ k.gone;
            split = ap (λ (l : List Line). h.line ∷ l) k.split;
            closed_now = also (n tt) k.closed_now;
            open_still = k.open_still;
            right = subst (λ (l : List Line). Right R O l g.before g.held) (snoc_append behind h.line k.gone) k.right;
          }
