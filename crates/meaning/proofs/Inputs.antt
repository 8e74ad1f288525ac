-- A new input comes last: it waits behind every cut that was there, and one cut more stands after it.
use Prim.Native.Nat.{◌≤◌}
use mathlib.Core.Path.{◌≡◌, refl, sym, ◌∙◌, ap, subst}
use mathlib.Core.List.{List, [], ◌∷◌, ◌++◌, append_assoc}
use native.Mathlib.Omega.{arith}
use Rattle.meaning.specs.Words.{Property, Line}
use Rattle.meaning.specs.Step.{Sets, Held, appended}
use Rattle.meaning.proofs.Lists.{All, done, also, all_head, all_tail, all_append, all_map, all_channels}
use Rattle.meaning.proofs.Pairs.{May, Pairs, none, first, pairs_append, pairs_left}
use Rattle.meaning.proofs.Channels.{In, Out, in_in, out_in}
use Rattle.meaning.proofs.Fronts.{lines, appended-lines}
use Rattle.meaning.proofs.Sets.{Matcher, along, along_last, Reading}
use Rattle.meaning.proofs.OneLine.{pairs_remove, EndsWith, input_last}
use Rattle.meaning.proofs.Ways.{Way, Exact, Right, last, cut, longer_in}

module _ {p : Property} {Breaking : List Line → Type 0} (R : Reading p Breaking) (O : List Line) (x : Line) (i : In x)
    (hO : All (λ z. Out z × (z.stamp ≤ x.stamp)) O) where
  abbrev M : Matcher
  M = R.matcher

  abbrev 𝓢 : Sets
  𝓢 = R.sets

  out-before : All (λ z. May p z x) O
  out-before = all_map (λ z q. let l : z.stamp ≤ x.stamp = q.1 in out_in p z x q.0 i (omega arith)) hO

  in_before : {u : List Line} → All (λ z. In z × (z.stamp ≤ x.stamp)) u → All (λ z. May p z x) u
  in_before h = all_map (λ z q. in_in p R.bounds z x q.0 i q.1) h

  -- a cut that was there: one more input waits
  waits : {behind ahead : List Line} {a : 𝓢.Set} → All (λ z. In z × (z.stamp ≤ x.stamp)) behind → All (λ z. In z × (z.stamp ≤ x.stamp)) ahead
      → Exact R O behind ahead a → Exact R O behind (ahead ++ x ∷ []) a
  waits {behind} {ahead} {a} hb ha e s = (λ m. more ((e s).0 m), λ w. (e s).1 (less w))
    where
      more : Way R O behind ahead s → Way R O behind (ahead ++ x ∷ []) s
      more w =
          record {
            order = w.order;
            ins_are = w.ins_are;
            outs_are = w.outs_are;
            pairs =
                subst (Pairs p) (append_assoc w.order ahead (x ∷ []))
                (pairs_append w.pairs (first done none)
                (all_map (λ z h. also h done)
                (all_append
                (all_channels w.order
                (subst (All (λ z. May p z x)) (sym w.ins_are) (in_before hb))
                (subst (All (λ z. May p z x)) (sym w.outs_are) out-before))
                (in_before ha))));
            remembers = w.remembers;
          }

      less : Way R O behind (ahead ++ x ∷ []) s → Way R O behind ahead s
      less w =
          record {
            order = w.order;
            ins_are = w.ins_are;
            outs_are = w.outs_are;
            pairs = pairs_left (w.order ++ ahead) (x ∷ []) (subst (Pairs p) (sym (append_assoc w.order ahead (x ∷ []))) w.pairs);
            remembers = w.remembers;
          }

  -- the cut after it
  comes_last : {behind : List Line} {a : 𝓢.Set} → All (λ z. In z × (z.stamp ≤ x.stamp)) behind
      → Exact R O behind [] a → Exact R O (behind ++ x ∷ []) [] (𝓢.move a x)
  comes_last {behind} {a} hb e s = (there, back)
    where
      there : R.laws.Member (𝓢.move a x) s → Way R O (behind ++ x ∷ []) [] s
      there m =
          let r : ((r : M.State) × R.laws.Member a r × (M.step r x ≡ s)) = (R.laws.member_move a x s).0 m in
          longer_in R x i ((waits hb done e r.0).0 r.1) r.2

      back : Way R O (behind ++ x ∷ []) [] s → R.laws.Member (𝓢.move a x) s
      back w =
          let q : EndsWith x behind w.order =
          input_last R.bounds x i behind w.order (subst (All (λ (z : Line). z.stamp ≤ x.stamp)) (sym w.outs_are) (all_map (λ z h. h.1) hO))
          w.ins_are (pairs_left w.order [] w.pairs) in
          let v : List Line = q.before in
          (R.laws.member_move a x s).1 (
            along M M.begin v,
            (e (along M M.begin v)).1
                (record {
                  order = v;
                  ins_are = q.ins_are;
                  outs_are = q.outs_are ∙ w.outs_are;
                  pairs = pairs_remove p v [] x (subst (λ (u : List Line). Pairs p (u ++ [])) q.stands w.pairs);
                  remembers = refl;
                }),
            sym (along_last M M.begin v x) ∙ ap (along M M.begin) (sym q.stands) ∙ w.remembers,
          )

  pub appended_right : {behind : List Line} {a : 𝓢.Set} {hs : List (Held 𝓢.Set)}
      → All (λ z. In z × (z.stamp ≤ x.stamp)) behind → All (λ z. In z × (z.stamp ≤ x.stamp)) (lines hs)
      → Right R O behind a hs → Right R O behind a (appended p 𝓢 x a hs)
  unfolding appended
  appended_right hb hh (last e) = cut (waits hb done e) (last (comes_last hb e))
  appended_right {behind} {a} hb hh (cut {h = h} {hs = hs} e r) =
      cut
      (subst (λ (l : List Line). Exact R O behind (h.line ∷ l) a) (sym (appended-lines p 𝓢 x h.after hs)) (waits hb hh e))
      (appended_right (all_append hb (also (all_head hh) done)) (all_tail hh) r)
