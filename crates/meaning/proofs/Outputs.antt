-- A new output: the sweep makes the set of every cut exact again.
use Prim.Native.Nat.{ℕ, ◌+◌, ◌*◌, ◌≤◌, ◌<◌}
use mathlib.Core.Path.{◌≡◌, sym, ◌∙◌, ap, subst}
use mathlib.Core.Logic.{◌⊎◌, inl, inr}
use mathlib.Core.Bool.{Bool, true, false, cond}
use mathlib.Core.List.{List, [], ◌∷◌, ◌++◌}
use native.Mathlib.Omega.{arith}
use lib.Dec.{T, leb, leb→le, le→leb}
use Rattle.meaning.specs.Words.{Property, Line, StampsFrom}
use Rattle.meaning.specs.Step.{Sets, Held, swept, swept_one}
use Rattle.meaning.proofs.Lists.{All, done, also, all_head, all_tail, all_append, all_left, all_right, all_map, all_both, all-outs, same_end, snoc_append}
use Rattle.meaning.proofs.Pairs.{May, pairs_cross}
use Rattle.meaning.proofs.Channels.{In, Out, in_out, in_out_asks, out_in_asks, from_left, last-highest}
use Rattle.meaning.proofs.Fronts.{lines, swept_lines}
use Rattle.meaning.proofs.Sets.{Matcher, Reading}
use Rattle.meaning.proofs.Ways.{Way, Exact, Right, last, cut, here, longer_in, longer-out, Last, by_output, by_input, last_of}

module _ {p : Property} {Breaking : List Line → Type 0} (R : Reading p Breaking) (O : List Line) (y : Line) (o : Out y) (hO : All (λ z. May p z y) O) where
  abbrev M : Matcher
  M = R.matcher

  abbrev 𝓢 : Sets
  𝓢 = R.sets

  -- the first cut: all inputs behind it have closed
  pub first_cut : {behind ahead : List Line} {a : 𝓢.Set} → All In behind → All (λ (z : Line). z.stamp + 2 * p.UB < y.stamp) behind
      → All (May p y) ahead → Exact R O behind ahead a → Exact R (O ++ y ∷ []) behind ahead (𝓢.move a y)
  first_cut {behind} {ahead} {a} hi gone ha e s = (there, back)
    where
      before_y : All (λ z. May p z y) behind
      before_y =
          all_map
          (λ z q. let g : z.stamp + 2 * p.UB < y.stamp = q.1 in let ord : p.LB ≤ p.UB = R.bounds.order in in_out p z y q.0 o (omega arith))
          (all_both hi gone)

      there : R.laws.Member (𝓢.move a y) s → Way R (O ++ y ∷ []) behind ahead s
      there m =
          let r : ((r : M.State) × R.laws.Member a r × (M.step r y ≡ s)) = (R.laws.member_move a y s).0 m in
          longer-out R y o before_y hO ha ((e r.0).0 r.1) r.2

      back : Way R (O ++ y ∷ []) behind ahead s → R.laws.Member (𝓢.move a y) s
      back w = go (last_of R w)
        where
          go : Last R O behind ahead y s → R.laws.Member (𝓢.move a y) s
          go (by_output r v m k) = (R.laws.member_move a y s).1 (r, (e r).1 v, m)
          go (by_input front x r eb v m) =
              let hx : In x × (x.stamp + 2 * p.UB < y.stamp) =
              all_head (all_right front (x ∷ []) (subst (All (λ (z : Line). In z × (z.stamp + 2 * p.UB < y.stamp))) eb (all_both hi gone))) in
              let may : All (λ z. All (May p z) (x ∷ ahead)) (O ++ y ∷ []) =
              subst (All (λ z. All (May p z) (x ∷ ahead))) v.outs_are (all-outs (pairs_cross v.order (x ∷ ahead) v.pairs)) in
              let le : y.stamp ≤ x.stamp + 2 * p.UB = out_in_asks p y x o hx.0 (all_head (all_head (all_right O (y ∷ []) may))) in
              let lt : x.stamp + 2 * p.UB < y.stamp = hx.1 in
              let z : ⊥ = omega arith in
              absurd z

  -- a later cut
  next_cut : {behind ahead : List Line} {c : 𝓢.Set} (h : Held 𝓢.Set) → In h.line → All In behind
      → All (λ (z : Line). z.stamp ≤ h.line.stamp) behind → All (May p y) ahead
      → Exact R (O ++ y ∷ []) behind (h.line ∷ ahead) c → Exact R O (behind ++ h.line ∷ []) ahead h.after
      → Exact R (O ++ y ∷ []) (behind ++ h.line ∷ []) ahead (swept_one p 𝓢 y c h)
  next_cut {behind} {ahead} {c} h ih hi low ha ec eh s = (there, back)
    where
      x : Line
      x = h.line

      test : Bool
      test = leb (x.stamp + 2 * p.LB) y.stamp

      direct : (t : Bool) → (T t → x.stamp + 2 * p.LB ≤ y.stamp) → R.laws.Member (cond t (𝓢.move h.after y) 𝓢.none) s
          → Way R (O ++ y ∷ []) (behind ++ x ∷ []) ahead s
      direct true k m =
          let r : ((r : M.State) × R.laws.Member h.after r × (M.step r y ≡ s)) = (R.laws.member_move h.after y s).0 m in
          let kx : x.stamp + 2 * p.LB ≤ y.stamp = k tt in
          longer-out R y o
          (all_append
          (all_map (λ z q. let l : z.stamp ≤ x.stamp = q.1 in in_out p z y q.0 o (omega arith)) (all_both hi low))
          (also (in_out p x y ih o kx) done))
          hO ha ((eh r.0).0 r.1) r.2
      direct false k m = absurd (R.laws.member_none s m)

      there : R.laws.Member (swept_one p 𝓢 y c h) s → Way R (O ++ y ∷ []) (behind ++ x ∷ []) ahead s
      there m = go ((R.laws.member_join (cond test (𝓢.move h.after y) 𝓢.none) (𝓢.move c x) s).0 m)
        where
          go : R.laws.Member (cond test (𝓢.move h.after y) 𝓢.none) s ⊎ R.laws.Member (𝓢.move c x) s → Way R (O ++ y ∷ []) (behind ++ x ∷ []) ahead s
          go (inl q) = direct test (leb→le (x.stamp + 2 * p.LB) y.stamp) q
          go (inr q) =
              let r : ((r : M.State) × R.laws.Member c r × (M.step r x ≡ s)) = (R.laws.member_move c x s).0 q in
              longer_in R x ih ((ec r.0).0 r.1) r.2

      taken : (t : Bool) → T t → R.laws.Member (𝓢.move h.after y) s → R.laws.Member (cond t (𝓢.move h.after y) 𝓢.none) s
      taken true k m = m
      taken false k m = absurd k

      back : Way R (O ++ y ∷ []) (behind ++ x ∷ []) ahead s → R.laws.Member (swept_one p 𝓢 y c h) s
      back w = (R.laws.member_join (cond test (𝓢.move h.after y) 𝓢.none) (𝓢.move c x) s).1 (go (last_of R w))
        where
          go : Last R O (behind ++ x ∷ []) ahead y s → R.laws.Member (cond test (𝓢.move h.after y) 𝓢.none) s ⊎ R.laws.Member (𝓢.move c x) s
          go (by_output r v m k) =
              let le : x.stamp + 2 * p.LB ≤ y.stamp = in_out_asks p x y ih o (all_head (all_right behind (x ∷ []) k)) in
              inl (taken test (le→leb _ _ le) ((R.laws.member_move h.after y s).1 (r, (eh r).1 v, m)))
          go (by_input front z r eb v m) =
              let q : (behind ≡ front) × (x ≡ z) = same_end behind front x z eb in
              inr
              ((R.laws.member_move c x s).1 (
                r,
                (ec r).1
                    (subst (λ (l : List Line). Way R (O ++ y ∷ []) l (x ∷ ahead) r) (sym q.0)
                    (subst (λ (l : Line). Way R (O ++ y ∷ []) front (l ∷ ahead) r) (sym q.1) v)),
                ap (λ (l : Line). M.step r l) q.1 ∙ m,
              ))

  pub swept-right : {behind : List Line} {a c : 𝓢.Set} {hs : List (Held 𝓢.Set)} → All In behind → All In (lines hs) → (t : ℕ) → StampsFrom t (behind ++ lines hs)
      → All (May p y) (lines hs) → Right R O behind a hs → Exact R (O ++ y ∷ []) behind (lines hs) c
      → Right R (O ++ y ∷ []) behind c (swept p 𝓢 y c hs)
  unfolding swept
  swept-right hi hh t f ha (last e) ec = last ec
  swept-right {behind} {a} {c} hi hh t f ha (cut {h = h} {hs = hs} e r) ec =
      let x : Line = h.line in
      let f' : StampsFrom t ((behind ++ x ∷ []) ++ lines hs) = subst (StampsFrom t) (sym (snoc_append behind x (lines hs))) f in
      let low : All (λ (z : Line). z.stamp ≤ x.stamp) (behind ++ x ∷ []) = last-highest t behind x (from_left t (behind ++ x ∷ []) (lines hs) f') in
      let n : Exact R (O ++ y ∷ []) (behind ++ x ∷ []) (lines hs) (swept_one p 𝓢 y c h) =
      next_cut h (all_head hh) hi (all_left behind (x ∷ []) low) (all_tail ha) ec (here R r) in
      cut
      (subst (λ (l : List Line). Exact R (O ++ y ∷ []) behind (x ∷ l) c) (sym (swept_lines p 𝓢 y (swept_one p 𝓢 y c h) hs)) ec)
      (swept-right (all_append hi (also (all_head hh) done)) (all_tail hh) t f' (all_tail ha) r n)
