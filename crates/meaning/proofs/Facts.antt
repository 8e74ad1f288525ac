-- The facts that document 01 wants proved of its definition of an explanation.
use Prim.Native.Nat.{ℕ, suc, ◌+◌, ◌*◌, ◌≤◌}
use mathlib.Core.Path.{◌≡◌, refl, sym, ◌∙◌, ap, subst}
use mathlib.Core.Logic.{◌↔◌}
use mathlib.Core.List.{List, [], ◌∷◌, ◌++◌, head-eq_of_cons-eq, tail-eq_of_cons-eq}
use native.Mathlib.Omega.{arith}
use lib.ListN.{length, length-append, take, drop, take-append-drop, length-take}
use Rattle.meaning.specs.Words.{Action, Property, Line, Run, StampsFrom}
use Rattle.meaning.specs.Node.{ins, outs, Order, Timed, Explanation, InputFirst, OutputFirst, Possible, CutRule, Some, Verdict, VerdictFor}
use Rattle.meaning.proofs.Lists.{All, done, also, all_head, all_left, all_right, all_map, all_both}
use Rattle.meaning.proofs.Lists.{all-ins, all-outs, all_channels, from_ins, from_outs, ins-append, outs-append, snoc_append}
use Rattle.meaning.proofs.Pairs.{Bounds, May, Pairs, none, first, Cross, pairs_append, pairs_cross, timed_pairs, pairs_timed}
use Rattle.meaning.proofs.Channels.{In, Out, ins_in, outs-out, in_in, out-out, in_out, out_in, in_out_asks}
use Rattle.meaning.proofs.Channels.{out_in_asks, from_left, from_right, from_cross, innermost, merged, merged_ins, merged_outs, merged_pairs}

-- two splits of one list at the same place
pub split_same : {A : Type 0} (a b c d : List A) → a ++ b ≡ c ++ d → length a ≡ length c → (a ≡ c) × (b ≡ d)
split_same [] b [] d e h = (refl, e)
split_same [] b (z ∷ c) d e h = let k : ⊥ = omega arith in absurd k
split_same (x ∷ a) b [] d e h = let k : ⊥ = omega arith in absurd k
split_same (x ∷ a) b (z ∷ c) d e h =
    let r : (a ≡ c) × (b ≡ d) = split_same a b c d (tail-eq_of_cons-eq e) (omega arith) in
    let g : x ≡ z = head-eq_of_cons-eq e in
    (cc r.0, r.1)

module _ (p : Property) (b : Bounds p) where
  -- An order with moments is one in which every pair may stand as it does.
  pub explains_pairs : {run order : List Line} → Explanation p run order → Pairs p order
  explains_pairs {order} e = timed_pairs p order e.timed

  pub pairs_explain : {run order : List Line} → Order run order → Pairs p order → Explanation p run order
  pairs_explain {order} o c = record { is_order = o; timed = pairs_timed p b order c }

  -- "An input stamped a may stand before an output stamped b exactly if b − a ≥ 2·LB .. as far as these two lines go."
  pub input_first : (j k s t : ℕ)
      → Timed p (record { action = Action.input j; stamp = s } ∷ record { action = Action.output k; stamp = t } ∷ []) ↔ InputFirst p s t
  input_first j k s t = (
    λ e. go (timed_pairs p _ e),
    λ h. pairs_timed p b _ (first (also h done) (first done none)),
  )
    where
      go : Pairs p (record { action = Action.input j; stamp = s } ∷ record { action = Action.output k; stamp = t } ∷ []) → InputFirst p s t
      go (first a r) = all_head a

  -- ".. and after it exactly if b − a ≤ 2·UB"
  pub output_first : (j k s t : ℕ)
      → Timed p (record { action = Action.output k; stamp = t } ∷ record { action = Action.input j; stamp = s } ∷ []) ↔ OutputFirst p s t
  output_first j k s t = (
    λ e. go (timed_pairs p _ e),
    λ h. pairs_timed p b _ (first (also h done) (first done none)),
  )
    where
      go : Pairs p (record { action = Action.output k; stamp = t } ∷ record { action = Action.input j; stamp = s } ∷ []) → OutputFirst p s t
      go (first a r) = all_head a

  module _ (run : Run) (t : ℕ) (f : StampsFrom t run) where
    -- "An explanation exists for every run, also the empty one."
    pub explanation_exists : Some p run (λ order. Unit {0})
    explanation_exists =
        record {
          order = merged p (ins run) (outs run);
          explains =
              pairs_explain
              (record {
                inputs_kept = merged_ins p (ins_in run) (outs-out run);
                outputs_kept = merged_outs p (ins_in run) (outs-out run);
              })
              (merged_pairs p b t t (ins_in run) (outs-out run) (from_ins t run f) (from_outs t run f));
          holds = tt;
        }

    -- The verdict is one: two that hold of a run are the same.
    pub verdict_unique : (Breach : List Line → Type 0) (v w : Verdict) → VerdictFor Breach p run v → VerdictFor Breach p run w → v ≡ w
    verdict_unique Breach Verdict.clear Verdict.clear h k = refl
    verdict_unique Breach Verdict.clear Verdict.suspect h k = absurd (h k.0.order k.0.explains k.0.holds)
    verdict_unique Breach Verdict.clear Verdict.certain h k =
        let e : Some p run (λ order. Unit {0}) = explanation_exists in absurd (h e.order e.explains (k e.order e.explains))
    verdict_unique Breach Verdict.suspect Verdict.clear h k = absurd (k h.0.order h.0.explains h.0.holds)
    verdict_unique Breach Verdict.suspect Verdict.suspect h k = refl
    verdict_unique Breach Verdict.suspect Verdict.certain h k = absurd (h.1.holds (k h.1.order h.1.explains))
    verdict_unique Breach Verdict.certain Verdict.clear h k =
        let e : Some p run (λ order. Unit {0}) = explanation_exists in absurd (k e.order e.explains (h e.order e.explains))
    verdict_unique Breach Verdict.certain Verdict.suspect h k = absurd (k.1.holds (h k.1.order k.1.explains))
    verdict_unique Breach Verdict.certain Verdict.certain h k = refl
    verdict_unique Breach Verdict.clear Verdict.blind h k = absurd k
    verdict_unique Breach Verdict.suspect Verdict.blind h k = absurd k
    verdict_unique Breach Verdict.certain Verdict.blind h k = absurd k
    verdict_unique Breach Verdict.blind w h k = absurd h

    -- ---- cuts

    -- every line of one part may stand before every line of the other, channel by channel
    parts_cross : (u v : List Line) → StampsFrom t (ins u ++ ins v) → StampsFrom t (outs u ++ outs v)
        → All (λ (x : Line). All (λ (y : Line). x.stamp + 2 * p.LB ≤ y.stamp) (outs v)) (ins u)
        → All (λ (y : Line). All (λ (x : Line). y.stamp ≤ x.stamp + 2 * p.UB) (ins v)) (outs u)
        → Cross p u v
    parts_cross u v fi fo io oi =
        all_channels u
        (all_map
        (λ x h.
        all_channels v
        (all_map (λ z q. in_in p b x z h.0 q.0 q.1) (all_both (ins_in v) h.1.0))
        (all_map (λ z q. in_out p x z h.0 q.0 q.1) (all_both (outs-out v) h.1.1)))
        (all_both (ins_in u) (all_both (from_cross t (ins u) (ins v) fi) io)))
        (all_map
        (λ y h.
        all_channels v
        (all_map (λ z q. out_in p y z h.0 q.0 q.1) (all_both (ins_in v) h.1.1))
        (all_map (λ z q. out-out p b y z h.0 q.0 q.1) (all_both (outs-out v) h.1.0)))
        (all_both (outs-out u) (all_both (from_cross t (outs u) (outs v) fo) oi)))

    cut_asks : (u v : List Line) → Explanation p run (u ++ v) → CutRule p run (length (ins u)) (length (outs u))
    cut_asks u v e =
        record {
          input_first = λ x y m n.
              let si : (ins u ≡ m.before ++ x ∷ []) × (ins v ≡ m.after) =
              split_same (ins u) (ins v) (m.before ++ x ∷ []) m.after
              (sym (ins-append u v) ∙ e.is_order.inputs_kept ∙ m.stands ∙ sym (snoc_append m.before x m.after))
              (omega (arith, length-append m.before (x ∷ []), m.counted)) in
              let so : (outs u ≡ n.before) × (outs v ≡ y ∷ n.after) =
              split_same (outs u) (outs v) n.before (y ∷ n.after)
              (sym (outs-append u v) ∙ e.is_order.outputs_kept ∙ n.stands)
              (omega (arith, n.counted)) in
              let xs : All (λ z. In z × All (May p z) v) (m.before ++ x ∷ []) =
              subst (All (λ z. In z × All (May p z) v)) si.0 (all_both (ins_in u) (all-ins (pairs_cross u v (explains_pairs e)))) in
              let hx : In x × All (May p x) v = all_head (all_right m.before (x ∷ []) xs) in
              let ys : All (λ z. Out z × May p x z) (y ∷ n.after) =
              subst (All (λ z. Out z × May p x z)) so.1 (all_both (outs-out v) (all-outs hx.1)) in
              in_out_asks p x y hx.0 (all_head ys).0 (all_head ys).1;
          output_first = λ x y m n.
              let si : (ins u ≡ m.before) × (ins v ≡ x ∷ m.after) =
              split_same (ins u) (ins v) m.before (x ∷ m.after)
              (sym (ins-append u v) ∙ e.is_order.inputs_kept ∙ m.stands)
              (omega (arith, m.counted)) in
              let so : (outs u ≡ n.before ++ y ∷ []) × (outs v ≡ n.after) =
              split_same (outs u) (outs v) (n.before ++ y ∷ []) n.after
              (sym (outs-append u v) ∙ e.is_order.outputs_kept ∙ n.stands ∙ sym (snoc_append n.before y n.after))
              (omega (arith, length-append n.before (y ∷ []), n.counted)) in
              let ys : All (λ z. Out z × All (May p z) v) (n.before ++ y ∷ []) =
              subst (All (λ z. Out z × All (May p z) v)) so.0 (all_both (outs-out u) (all-outs (pairs_cross u v (explains_pairs e)))) in
              let hy : Out y × All (May p y) v = all_head (all_right n.before (y ∷ []) ys) in
              let xs : All (λ z. In z × May p y z) (x ∷ m.after) =
              subst (All (λ z. In z × May p y z)) si.1 (all_both (ins_in v) (all-ins hy.1)) in
              out_in_asks p y x hy.0 (all_head xs).0 (all_head xs).1;
        }

    -- what the rule for a cut gives for the lines around it
    rule_in_out : {i q : ℕ} (A B C D : List Line) → ins run ≡ A ++ B → outs run ≡ C ++ D → length A ≡ i → length C ≡ q → CutRule p run i q
        → All (λ (x : Line). All (λ (y : Line). x.stamp + 2 * p.LB ≤ y.stamp) D) A
    rule_in_out A B C D ei eo hi hq r =
        innermost t (λ a d. a + 2 * p.LB ≤ d) (λ a a' d d' h k r. omega arith) A D
        (from_left t A B (subst (StampsFrom t) ei (from_ins t run f)))
        (from_right t C D (subst (StampsFrom t) eo (from_outs t run f)))
        (λ bs x y ds ea ed.
        r.input_first x y
        (record {
          before = bs;
          after = B;
          stands = ei ∙ ap (λ (l : List Line). l ++ B) ea ∙ snoc_append bs x B;
          counted = sym (omega (arith, length-append bs (x ∷ []), ap length ea)) ∙ hi;
        })
        (record { before = C; after = ds; stands = eo ∙ ap (λ (l : List Line). C ++ l) ed; counted = ap suc hq }))

    rule_out_in : {i q : ℕ} (A B C D : List Line) → ins run ≡ A ++ B → outs run ≡ C ++ D → length A ≡ i → length C ≡ q → CutRule p run i q
        → All (λ (y : Line). All (λ (x : Line). y.stamp ≤ x.stamp + 2 * p.UB) B) C
    rule_out_in A B C D ei eo hi hq r =
        innermost t (λ d a. d ≤ a + 2 * p.UB) (λ d d' a a' h k r. omega arith) C B
        (from_left t C D (subst (StampsFrom t) eo (from_outs t run f)))
        (from_right t A B (subst (StampsFrom t) ei (from_ins t run f)))
        (λ bs y x ds ec eb.
        r.output_first x y
        (record { before = A; after = ds; stands = ei ∙ ap (λ (l : List Line). A ++ l) eb; counted = ap suc hi })
        (record {
          before = bs;
          after = D;
          stands = eo ∙ ap (λ (l : List Line). l ++ D) ec ∙ snoc_append bs y D;
          counted = sym (omega (arith, length-append bs (y ∷ []), ap length ec)) ∙ hq;
        }))

    -- "A cut after p inputs and q outputs is possible (some explanation has it) exactly if .."
    pub cut_possible : (i q : ℕ) → i ≤ length (ins run) → q ≤ length (outs run) → Possible p run i q ↔ CutRule p run i q
    cut_possible i q hi hq = (there, back)
      where
        there : Possible p run i q → CutRule p run i q
        there c =
            subst (λ (n : ℕ). CutRule p run n q) c.inputs
            (subst (λ (n : ℕ). CutRule p run (length (ins c.before)) n) c.outputs (cut_asks c.before c.after c.explains))

        back : CutRule p run i q → Possible p run i q
        back r =
            let A : List Line = take i (ins run) in
            let B : List Line = drop i (ins run) in
            let C : List Line = take q (outs run) in
            let D : List Line = drop q (outs run) in
            let ei : A ++ B ≡ ins run = take-append-drop i (ins run) in
            let eo : C ++ D ≡ outs run = take-append-drop q (outs run) in
            let fi : StampsFrom t (A ++ B) = subst (StampsFrom t) (sym ei) (from_ins t run f) in
            let fo : StampsFrom t (C ++ D) = subst (StampsFrom t) (sym eo) (from_outs t run f) in
            let ai : All In (A ++ B) = subst (All In) (sym ei) (ins_in run) in
            let ao : All Out (C ++ D) = subst (All Out) (sym eo) (outs-out run) in
            let iA : All In A = all_left A B ai in
            let iB : All In B = all_right A B ai in
            let oC : All Out C = all_left C D ao in
            let oD : All Out D = all_right C D ao in
            let u : List Line = merged p A C in
            let v : List Line = merged p B D in
            let iu : ins u ≡ A = merged_ins p iA oC in
            let iv : ins v ≡ B = merged_ins p iB oD in
            let ou : outs u ≡ C = merged_outs p iA oC in
            let ov : outs v ≡ D = merged_outs p iB oD in
            let lA : length A ≡ i = length-take i (ins run) ∙ omega arith in
            let lC : length C ≡ q = length-take q (outs run) ∙ omega arith in
            let io : All (λ (x : Line). All (λ (y : Line). x.stamp + 2 * p.LB ≤ y.stamp) D) A = rule_in_out A B C D (sym ei) (sym eo) lA lC r in
            let oi : All (λ (y : Line). All (λ (x : Line). y.stamp ≤ x.stamp + 2 * p.UB) B) C = rule_out_in A B C D (sym ei) (sym eo) lA lC r in
            record {
              before = u;
              after = v;
              explains =
                  pairs_explain
                  (record {
                    inputs_kept = ins-append u v ∙ ap (λ (l : List Line). l ++ ins v) iu ∙ ap (λ (l : List Line). A ++ l) iv ∙ ei;
                    outputs_kept = outs-append u v ∙ ap (λ (l : List Line). l ++ outs v) ou ∙ ap (λ (l : List Line). C ++ l) ov ∙ eo;
                  })
                  (pairs_append
                  (merged_pairs p b t t iA oC (from_left t A B fi) (from_left t C D fo))
                  (merged_pairs p b t t iB oD (from_right t A B fi) (from_right t C D fo))
                  (parts_cross u v
                  (subst (StampsFrom t) (sym (ap (λ (l : List Line). l ++ ins v) iu ∙ ap (λ (l : List Line). A ++ l) iv)) fi)
                  (subst (StampsFrom t) (sym (ap (λ (l : List Line). l ++ outs v) ou ∙ ap (λ (l : List Line). C ++ l) ov)) fo)
                  (subst (λ (l : List Line). All (λ (x : Line). All (λ (y : Line). x.stamp + 2 * p.LB ≤ y.stamp) (outs v)) l) (sym iu)
                  (subst (λ (l : List Line). All (λ (x : Line). All (λ (y : Line). x.stamp + 2 * p.LB ≤ y.stamp) l) A) (sym ov) io))
                  (subst (λ (l : List Line). All (λ (y : Line). All (λ (x : Line). y.stamp ≤ x.stamp + 2 * p.UB) (ins v)) l) (sym ou)
                  (subst (λ (l : List Line). All (λ (y : Line). All (λ (x : Line). y.stamp ≤ x.stamp + 2 * p.UB) l) C) (sym iv) oi))));
              inputs = ap length iu ∙ lA;
              outputs = ap length ou ∙ lC;
            }

    -- "An order is an explanation exactly if all its cuts are possible."
    pub explains_by_cuts : (order : List Line) → Order run order
        → Explanation p run order ↔ ((u v : List Line) → order ≡ u ++ v → Possible p run (length (ins u)) (length (outs u)))
    explains_by_cuts order o = (there, back)
      where
        there : Explanation p run order → (u v : List Line) → order ≡ u ++ v → Possible p run (length (ins u)) (length (outs u))
        there e u v s = record { before = u; after = v; explains = subst (Explanation p run) s e; inputs = refl; outputs = refl }

        -- all that stands before a line may stand there
        one : (u v : List Line) → order ≡ u ++ v → Possible p run (length (ins u)) (length (outs u)) → Cross p u v
        one u v s c =
            let e : CutRule p run (length (ins u)) (length (outs u)) =
            subst (λ (n : ℕ). CutRule p run n (length (outs u))) c.inputs
            (subst (λ (n : ℕ). CutRule p run (length (ins c.before)) n) c.outputs (cut_asks c.before c.after c.explains)) in
            let ei : ins run ≡ ins u ++ ins v = sym o.inputs_kept ∙ ap ins s ∙ ins-append u v in
            let eo : outs run ≡ outs u ++ outs v = sym o.outputs_kept ∙ ap outs s ∙ outs-append u v in
            parts_cross u v
            (subst (StampsFrom t) ei (from_ins t run f))
            (subst (StampsFrom t) eo (from_outs t run f))
            (rule_in_out (ins u) (ins v) (outs u) (outs v) ei eo refl refl e)
            (rule_out_in (ins u) (ins v) (outs u) (outs v) ei eo refl refl e)

        all_pairs : ((u v : List Line) → order ≡ u ++ v → Possible p run (length (ins u)) (length (outs u)))
            → (u v : List Line) → order ≡ u ++ v → Pairs p v
        all_pairs c u [] s = none
        all_pairs c u (y ∷ v) s =
            let s' : order ≡ (u ++ y ∷ []) ++ v = s ∙ sym (snoc_append u y v) in
            first (all_head (all_right u (y ∷ []) (one (u ++ y ∷ []) v s' (c (u ++ y ∷ []) v s')))) (all_pairs c (u ++ y ∷ []) v s')

        back : ((u v : List Line) → order ≡ u ++ v → Possible p run (length (ins u)) (length (outs u))) → Explanation p run order
        back c = pairs_explain o (all_pairs c [] order refl)
