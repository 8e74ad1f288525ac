-- One line more at the end of a run: it can be put into each explanation of the run, and taken out of each explanation of the run
-- with it. Behind it stand inputs only.
use Prim.Native.Nat.{◌≤◌}
use mathlib.Core.Path.{◌≡◌, refl, sym, ◌∙◌, ap, subst}
use mathlib.Core.Logic.{◌⊎◌, inl, inr}
use mathlib.Core.List.{List, [], ◌∷◌, ◌++◌, append-nil, head-eq_of_cons-eq, tail-eq_of_cons-eq, nil≢cons}
use native.Mathlib.Omega.{arith}
use Rattle.meaning.specs.Words.{Property, Line, Run}
use Rattle.meaning.specs.Node.{ins, outs, Explanation}
use Rattle.meaning.proofs.Lists.{All, done, also, all_map, all_both, all-ins, all-outs, all_channels, same_end, not_empty, snoc_append, ins-append, outs-append}
use Rattle.meaning.proofs.Pairs.{Bounds, May, Pairs, none, first, pairs_append, pairs_left}
use Rattle.meaning.proofs.Channels.{IsIn, IsOut, In, Out, in_or_out, ins_in, outs-out, outs_skip, outs_cons, ins_skip, outs_of_in, in_in, out_in}
use Rattle.meaning.proofs.Facts.{explains_pairs, pairs_explain}
use Rattle.meaning.proofs.OneLine.{pairs_insert, pairs_remove, ins_last_in, outs_last_in, outs-last-out, ins-last-out, EndsWith, input_last}
use Rattle.stays_told.proofs.Breaking.{With}
use Rattle.stays_told.proofs.Places.{Place, place}

-- ---- an output: the channels with it and without it

with-ins : {l : Line} {shorter longer : List Line} → Out l → With l shorter longer → ins longer ≡ ins shorter
with-ins {l} o w =
    ap ins w.within
    ∙ ins-append w.front (l ∷ w.back)
    ∙ ap (λ (z : List Line). ins w.front ++ z) (ins_skip l w.back o)
    ∙ sym (ins-append w.front w.back)
    ∙ ap ins (sym w.without)

with-outs : {l : Line} {shorter longer : List Line} → Out l → With l shorter longer → outs longer ≡ outs shorter ++ l ∷ []
with-outs {l} o w =
    let none-behind : outs w.back ≡ [] = outs_of_in w.inputs in
    ap outs w.within
    ∙ outs-append w.front (l ∷ w.back)
    ∙ ap (λ (z : List Line). outs w.front ++ z) (outs_cons l w.back o ∙ ap (λ (z : List Line). l ∷ z) none-behind)
    ∙ ap (λ (z : List Line). z ++ l ∷ []) (sym (append-nil (outs w.front)) ∙ ap (λ (z : List Line). outs w.front ++ z) (sym none-behind) ∙ sym (outs-append w.front w.back))
    ∙ ap (λ (z : List Line). outs z ++ l ∷ []) (sym w.without)

-- behind the last output stand inputs only
only_inputs : (u : List Line) → outs u ≡ [] → All In u
only_inputs [] e = done
only_inputs (z ∷ u) e = pick (in_or_out z.action) (only_inputs u)
  where
    pick : IsIn z.action ⊎ IsOut z.action → (outs u ≡ [] → All In u) → All In (z ∷ u)
    pick (inl h) on = also h (on (sym (outs_skip z u h) ∙ e))
    pick (inr h) on = absurd (nil≢cons (sym e ∙ outs_cons z u h))

output-last : (y : Line) (u C : List Line) → outs u ≡ C ++ y ∷ [] → (front : List Line) × (back : List Line) × (u ≡ front ++ y ∷ back) × All In back
output-last y [] C e = absurd (not_empty C y e)
output-last y (z ∷ u) C e = pick (in_or_out z.action) (output-last y u)
  where
    Split : List Line → Type 0
    Split v = (front : List Line) × (back : List Line) × (v ≡ front ++ y ∷ back) × All In back

    later : Split u → Split (z ∷ u)
    later r = (z ∷ r.0, r.1, ap (λ (k : List Line). z ∷ k) r.2, r.3)

    by : (D : List Line) → z ∷ outs u ≡ D ++ y ∷ [] → ((D : List Line) → outs u ≡ D ++ y ∷ [] → Split u) → Split (z ∷ u)
    by [] q on = ([], u, ap (λ (k : Line). k ∷ u) (head-eq_of_cons-eq q), only_inputs u (tail-eq_of_cons-eq q))
    by (c ∷ D) q on = later (on D (tail-eq_of_cons-eq q))

    pick : IsIn z.action ⊎ IsOut z.action → ((D : List Line) → outs u ≡ D ++ y ∷ [] → Split u) → Split (z ∷ u)
    pick (inl h) on = later (on C (sym (outs_skip z u h) ∙ e))
    pick (inr h) on = by C (sym (outs_cons z u h) ∙ e) on

-- ---- one line more

module _ {p : Property} (b : Bounds p) (run : Run) (l : Line) (low : All (λ (z : Line). z.stamp ≤ l.stamp) run) where
  pub record TakenOut (longer : List Line) : Type 0 where
    pub shorter : List Line
    pub explains : Explanation p run shorter
    pub same : With l shorter longer

  pub record PutIn (shorter : List Line) : Type 0 where
    pub longer : List Line
    pub explains : Explanation p (run ++ l ∷ []) longer
    pub same : With l shorter longer

  -- an input comes last in every explanation, for which LB ≥ 1 is needed (`never_before`)
  out-input : In l → {o : List Line} → Explanation p (run ++ l ∷ []) o → TakenOut o
  out-input i {o} e =
      let c : Pairs p o = explains_pairs p b e in
      let kept : outs o ≡ outs run = e.is_order.outputs_kept ∙ outs_last_in run l i in
      let q : EndsWith l (ins run) o =
      input_last b l i (ins run) o (subst (All (λ (z : Line). z.stamp ≤ l.stamp)) (sym kept) (all-outs low)) (e.is_order.inputs_kept ∙ ins_last_in run l i) c in
      record {
        shorter = q.before;
        explains =
            pairs_explain p b (record { inputs_kept = q.ins_are; outputs_kept = q.outs_are ∙ kept }) (pairs_left q.before (l ∷ []) (subst (Pairs p) q.stands c));
        same = record { front = q.before; back = []; without = sym (append-nil q.before); within = q.stands; inputs = done };
      }

  out-output : Out l → {o : List Line} → Explanation p (run ++ l ∷ []) o → TakenOut o
  out-output h {o} e =
      let q = output-last l o (outs run) (e.is_order.outputs_kept ∙ outs-last-out run l h) in
      let w : With l (q.0 ++ q.1) o = record { front = q.0; back = q.1; without = refl; within = q.2; inputs = q.3 } in
      record {
        shorter = q.0 ++ q.1;
        explains =
            pairs_explain p b
            (record {
              inputs_kept = sym (with-ins h w) ∙ e.is_order.inputs_kept ∙ ins-last-out run l h;
              outputs_kept = (same_end (outs (q.0 ++ q.1)) (outs run) l l (sym (with-outs h w) ∙ e.is_order.outputs_kept ∙ outs-last-out run l h)).0;
            })
            (pairs_remove p q.0 q.1 l (subst (Pairs p) (q.2 ∙ sym (snoc_append q.0 l q.1)) (explains_pairs p b e)));
        same = w;
      }

  pub taken_out : {o : List Line} → Explanation p (run ++ l ∷ []) o → TakenOut o
  taken_out {o} e = pick (in_or_out l.action)
    where
      pick : IsIn l.action ⊎ IsOut l.action → TakenOut o
      pick (inl h) = out-input h e
      pick (inr h) = out-output h e

  in_input : In l → {o : List Line} → Explanation p run o → PutIn o
  in_input i {o} e =
      record {
        longer = o ++ l ∷ [];
        explains =
            pairs_explain p b
            (record {
              inputs_kept = ins_last_in o l i ∙ ap (λ (z : List Line). z ++ l ∷ []) e.is_order.inputs_kept ∙ sym (ins_last_in run l i);
              outputs_kept = outs_last_in o l i ∙ e.is_order.outputs_kept ∙ sym (outs_last_in run l i);
            })
            (pairs_append (explains_pairs p b e) (first done none) (all_map (λ z m. also m done) before));
        same = record { front = o; back = []; without = sym (append-nil o); within = refl; inputs = done };
      }
    where
      before : All (λ z. May p z l) o
      before =
          all_channels o
          (subst (All (λ z. May p z l)) (sym e.is_order.inputs_kept) (all_map (λ z q. in_in p b z l q.0 i q.1) (all_both (ins_in run) (all-ins low))))
          (subst (All (λ z. May p z l)) (sym e.is_order.outputs_kept)
          (all_map (λ (z : Line) q. out_in p z l q.0 i (omega (arith, q.1))) (all_both (outs-out run) (all-outs low))))

  in_output : Out l → {o : List Line} → Explanation p run o → PutIn o
  in_output h {o} e =
      let c : Pairs p o = explains_pairs p b e in
      let q : Place b l h o =
      place b l h o c
      (all_channels o (subst (All (λ (z : Line). z.stamp ≤ l.stamp)) (sym e.is_order.inputs_kept) (all-ins low))
      (subst (All (λ (z : Line). z.stamp ≤ l.stamp)) (sym e.is_order.outputs_kept) (all-outs low))) in
      let w : With l o (q.front ++ l ∷ q.back) =
      record { front = q.front; back = q.back; without = q.stands; within = refl; inputs = all_map (λ z k. k.0) q.after } in
      record {
        longer = q.front ++ l ∷ q.back;
        explains =
            pairs_explain p b
            (record {
              inputs_kept = with-ins h w ∙ e.is_order.inputs_kept ∙ sym (ins-last-out run l h);
              outputs_kept = with-outs h w ∙ ap (λ (z : List Line). z ++ l ∷ []) e.is_order.outputs_kept ∙ sym (outs-last-out run l h);
            })
            (subst (Pairs p) (snoc_append q.front l q.back)
            (pairs_insert p q.front q.back l (subst (Pairs p) q.stands c) q.before (all_map (λ z k. k.1) q.after)));
        same = w;
      }

  pub put_in : {o : List Line} → Explanation p run o → PutIn o
  put_in {o} e = pick (in_or_out l.action)
    where
      pick : IsIn l.action ⊎ IsOut l.action → PutIn o
      pick (inl h) = in_input h e
      pick (inr h) = in_output h e
