-- The step over cuts is exact: after each line of a run every set of the front holds what the matcher remembers of the ways
-- to its cut, and nothing else. For any matcher and any way to store sets.
use Prim.Native.Nat.{ℕ, suc, ◌+◌, ◌*◌, ◌≤◌, ◌<◌}
use mathlib.Core.Path.{◌≡◌, refl, sym, ◌∙◌, ap, subst}
use mathlib.Core.Logic.{◌↔◌}
use mathlib.Core.Bool.{Bool, true, false, cond, not, true≢false}
use mathlib.Core.List.{List, [], ◌∷◌, ◌++◌, append-nil, append_assoc}
use native.Mathlib.Omega.{arith}
use native.Mathlib.Nat.{le_refl, le_trans}
use lib.ListN.{length}
use lib.Dec.{T, leb→le, nleb→lt}
use Rattle.meaning.specs.Words.{Action, Property, Line, Run, StampsFrom}
use Rattle.meaning.specs.Node.{ins, outs, Explanation, Some, VerdictFor}
use Rattle.meaning.specs.Calls.{is_open, count_open, open_at}
use Rattle.meaning.specs.Step.{Sets, Held, Front, last_set, closed, appended, swept, front_with, fresh_front, verdict_of, front_verdict}
use Rattle.meaning.proofs.Lists.{All, done, also, all_append, all_left, all_right, all_map, all_both, all-ins, all-outs, from_ins, from_longer}
use Rattle.meaning.proofs.Pairs.{May, Pairs, none}
use Rattle.meaning.proofs.Channels.{In, Out, ins_in, outs-out, out-out, out_in, from_right}
use Rattle.meaning.proofs.Facts.{explains_pairs, pairs_explain}
use Rattle.meaning.proofs.Fronts.{lines, swept_lines, appended-lines}
use Rattle.meaning.proofs.Sets.{Matcher, along, along_none, Reading}
use Rattle.meaning.proofs.OneLine.{ins_last_in, outs_last_in, outs-last-out, ins-last-out, empty_channels}
use Rattle.meaning.proofs.Ways.{Way, Exact, Right, last, here, last-exact}
use Rattle.meaning.proofs.Outputs.{first_cut, swept-right}
use Rattle.meaning.proofs.Inputs.{appended_right}
use Rattle.meaning.proofs.Closing.{Closing, closing}

module _ {p : Property} {Breaking : List Line → Type 0} (R : Reading p Breaking) where
  abbrev M : Matcher
  M = R.matcher

  abbrev 𝓢 : Sets
  𝓢 = R.sets

  pub record Fits (latest : ℕ) (run : Run) (f : Front 𝓢.Set) : Type 0 where
    pub behind : List Line
    pub split : ins run ≡ behind ++ lines f.held
    pub closed_now : All (λ (z : Line). z.stamp + 2 * p.UB < latest) behind
    pub open_still : All (λ (z : Line). latest ≤ z.stamp + 2 * p.UB) (lines f.held)
    pub right : Right R (outs run) behind f.before f.held
    pub rising : StampsFrom 0 run
    pub within : All (λ (z : Line). z.stamp ≤ latest) run

  pub fresh-fits : (t : ℕ) → Fits t [] (fresh_front p 𝓢)
  fresh-fits t =
      record { behind = []; split = refl; closed_now = done; open_still = done; right = last exact; rising = tt; within = done }
    where
      exact : Exact R [] [] [] 𝓢.start
      exact s = (
        λ m. record {
          order = [];
          ins_are = refl;
          outs_are = refl;
          pairs = none;
          remembers = along_none M M.begin ∙ sym ((R.laws.member_start s).0 m);
        },
        λ w. (R.laws.member_start s).1
            (sym w.remembers ∙ ap (along M M.begin) (empty_channels w.order w.ins_are w.outs_are) ∙ along_none M M.begin),
      )

  -- the front after one more line fits the run with that line
  module _ (T₀ : ℕ) (run : Run) (f : Front 𝓢.Set) (fit : Fits T₀ run f) where
    closed_at : (l : Line) → T₀ ≤ l.stamp → Closing R (outs run) l.stamp fit.behind f.held (closed p 𝓢 l.stamp f.before f.held)
    closed_at l h =
        closing R l.stamp 0
        (from_right 0 fit.behind (lines f.held) (subst (StampsFrom 0) fit.split (from_ins 0 run fit.rising)))
        fit.right

    next_fits : (a : Action) (t : ℕ) → T₀ ≤ t → Fits t (run ++ record { action = a; stamp = t } ∷ []) (front_with p 𝓢 f (record { action = a; stamp = t }))
    next_fits (Action.input k) t h =
        let x : Line = record { action = Action.input k; stamp = t } in
        let g : Front 𝓢.Set = closed p 𝓢 t f.before f.held in
        let c : Closing R (outs run) t fit.behind f.held g = closed_at x h in
        let ei : ins run ≡ (fit.behind ++ c.gone) ++ lines g.held =
        fit.split ∙ ap (λ (l : List Line). fit.behind ++ l) c.split ∙ sym (append_assoc fit.behind c.gone (lines g.held)) in
        let low : All (λ z. In z × (z.stamp ≤ t)) ((fit.behind ++ c.gone) ++ lines g.held) =
        subst (All (λ z. In z × (z.stamp ≤ t))) ei
        (all_both (ins_in run) (all_map (λ z q. le_trans q h) (all-ins fit.within))) in
        let el : lines (appended p 𝓢 x g.before g.held) ≡ lines g.held ++ x ∷ [] = appended-lines p 𝓢 x g.before g.held in
        record {
          behind = fit.behind ++ c.gone;
          split =
              ins_last_in run x tt ∙ ap (λ (l : List Line). l ++ x ∷ []) ei
              ∙ append_assoc (fit.behind ++ c.gone) (lines g.held) (x ∷ [])
              ∙ ap (λ (l : List Line). (fit.behind ++ c.gone) ++ l) (sym el);
          closed_now = all_append (all_map (λ z q. let q' : z.stamp + 2 * p.UB < T₀ = q in omega arith) fit.closed_now) c.closed_now;
          open_still = subst (All (λ (z : Line). t ≤ z.stamp + 2 * p.UB)) (sym el) (all_append c.open_still (also {x = x} (omega arith) done));
          right =
              subst (λ (l : List Line). Right R l (fit.behind ++ c.gone) g.before (appended p 𝓢 x g.before g.held)) (sym (outs_last_in run x tt))
              (appended_right R (outs run) x tt outs_low
              (all_left (fit.behind ++ c.gone) (lines g.held) low) (all_right (fit.behind ++ c.gone) (lines g.held) low) c.right);
          rising = from_longer 0 T₀ run x fit.rising fit.within (omega arith) h;
          within = all_append (all_map (λ z q. le_trans q h) fit.within) (also (le_refl t) done);
        }
      where
        outs_low : All (λ (z : Line). Out z × (z.stamp ≤ t)) (outs run)
        outs_low = all_both (outs-out run) (all_map (λ z q. le_trans q h) (all-outs fit.within))
    next_fits (Action.output k) t h =
        let y : Line = record { action = Action.output k; stamp = t } in
        let g : Front 𝓢.Set = closed p 𝓢 t f.before f.held in
        let c : Closing R (outs run) t fit.behind f.held g = closed_at y h in
        let ei : ins run ≡ (fit.behind ++ c.gone) ++ lines g.held =
        fit.split ∙ ap (λ (l : List Line). fit.behind ++ l) c.split ∙ sym (append_assoc fit.behind c.gone (lines g.held)) in
        let inputs : All In ((fit.behind ++ c.gone) ++ lines g.held) = subst (All In) ei (ins_in run) in
        let hb : All In (fit.behind ++ c.gone) = all_left (fit.behind ++ c.gone) (lines g.held) inputs in
        let hh : All In (lines g.held) = all_right (fit.behind ++ c.gone) (lines g.held) inputs in
        let gone : All (λ (z : Line). z.stamp + 2 * p.UB < t) (fit.behind ++ c.gone) =
        all_append (all_map (λ z q. let q' : z.stamp + 2 * p.UB < T₀ = q in omega arith) fit.closed_now) c.closed_now in
        let ahead : All (May p y) (lines g.held) = all_map (λ z q. out_in p y z tt q.0 q.1) (all_both hh c.open_still) in
        let el : lines (swept p 𝓢 y (𝓢.move g.before y) g.held) ≡ lines g.held =
        swept_lines p 𝓢 y (𝓢.move g.before y) g.held in
        record {
          behind = fit.behind ++ c.gone;
          split = ins-last-out run y tt ∙ ei ∙ ap (λ (l : List Line). (fit.behind ++ c.gone) ++ l) (sym el);
          closed_now = gone;
          open_still = subst (All (λ (z : Line). t ≤ z.stamp + 2 * p.UB)) (sym el) c.open_still;
          right =
              subst
              (λ (l : List Line). Right R l (fit.behind ++ c.gone) (𝓢.move g.before y) (swept p 𝓢 y (𝓢.move g.before y) g.held))
              (sym (outs-last-out run y tt))
              (swept-right R (outs run) y tt outs-before hb hh 0 (subst (StampsFrom 0) ei (from_ins 0 run fit.rising)) ahead c.right
              (first_cut R (outs run) y tt outs-before hb gone ahead (here R c.right)));
          rising = from_longer 0 T₀ run y fit.rising fit.within (omega arith) h;
          within = all_append (all_map (λ z q. le_trans q h) fit.within) (also (le_refl t) done);
        }
      where
        outs-before : All (λ z. May p z (record { action = Action.output k; stamp = t })) (outs run)
        outs-before =
            all_map (λ z q. out-out p R.bounds z (record { action = Action.output k; stamp = t }) q.0 tt q.1)
            (all_both (outs-out run) (all_map (λ (z : Line) q. le_trans q h) (all-outs fit.within)))

    pub front_fits : (l : Line) → T₀ ≤ l.stamp → Fits l.stamp (run ++ l ∷ []) (front_with p 𝓢 f l)
    front_fits l h = next_fits l.action l.stamp h

  -- the number held is the number that Room counts over the run
  count-closed : (t : ℕ) {u : List Line} → All (λ (z : Line). z.stamp + 2 * p.UB < t) u → (v : List Line) → count_open p t (u ++ v) ≡ count_open p t v
  count-closed t done v = refl
  count-closed t (also {x} {xs} h r) v = go (is_open p t x) (leb→le t (x.stamp + 2 * p.UB)) (count-closed t r v)
    where
      go : (c : Bool) → (T c → t ≤ x.stamp + 2 * p.UB) → count_open p t (xs ++ v) ≡ count_open p t v
          → cond c (suc (count_open p t (xs ++ v))) (count_open p t (xs ++ v)) ≡ count_open p t v
      go true k e = let k' : t ≤ x.stamp + 2 * p.UB = k tt in let z : ⊥ = omega arith in absurd z
      go false k e = e

  count_held : (t : ℕ) (hs : List (Held 𝓢.Set)) → All (λ (z : Line). t ≤ z.stamp + 2 * p.UB) (lines hs) → count_open p t (lines hs) ≡ length hs
  count_held t [] h = refl
  count_held t (k ∷ hs) (also h r) = go (is_open p t k.line) (nleb→lt t (k.line.stamp + 2 * p.UB)) (count_held t hs r)
    where
      go : (c : Bool) → (T (not c) → k.line.stamp + 2 * p.UB < t) → count_open p t (lines hs) ≡ length hs
          → cond c (suc (count_open p t (lines hs))) (count_open p t (lines hs)) ≡ suc (length hs)
      go true n e = ap suc e
      go false n e = let n' : k.line.stamp + 2 * p.UB < t = n tt in let z : ⊥ = omega arith in absurd z

  pub held-is_open : {t : ℕ} {run : Run} {f : Front 𝓢.Set} → Fits t run f → open_at p t run ≡ length f.held
  held-is_open {t} {run} {f} fit =
      ap (count_open p t) fit.split ∙ count-closed t fit.closed_now (lines f.held) ∙ count_held t f.held fit.open_still

  -- ---- the verdict

  module _ (run : Run) where
    explains_way : (order : List Line) → Explanation p run order → Way R (outs run) (ins run) [] (along M M.begin order)
    explains_way order e =
        record {
          order = order;
          ins_are = e.is_order.inputs_kept;
          outs_are = e.is_order.outputs_kept;
          pairs = subst (Pairs p) (sym (append-nil order)) (explains_pairs p R.bounds e);
          remembers = refl;
        }

    way_explains : {s : M.State} (w : Way R (outs run) (ins run) [] s) → Explanation p run w.order
    way_explains w =
        pairs_explain p R.bounds (record { inputs_kept = w.ins_are; outputs_kept = w.outs_are }) (subst (Pairs p) (append-nil w.order) w.pairs)

    unbroken : (order : List Line) → M.is_broken (along M M.begin order) ≡ false → ¬ Breaking order
    unbroken order e h = true≢false (sym ((R.reads order).1 h) ∙ e)

    verdict-exact : (a : 𝓢.Set) → Exact R (outs run) (ins run) [] a → VerdictFor Breaking p run (verdict_of p 𝓢 (𝓢.some_broken a) (𝓢.some_unbroken a))
    verdict-exact a e = go (𝓢.some_broken a) (𝓢.some_unbroken a) (R.laws.some_broken a) (R.laws.some_unbroken a)
      where
        breaking : ((s : M.State) × R.laws.Member a s × (M.is_broken s ≡ true)) → Some p run Breaking
        breaking q =
            let w : Way R (outs run) (ins run) [] q.0 = (e q.0).0 q.1 in
            record {
              order = w.order;
              explains = way_explains w;
              holds = (R.reads w.order).0 (ap M.is_broken w.remembers ∙ q.2);
            }

        sparing : ((s : M.State) × R.laws.Member a s × (M.is_broken s ≡ false)) → Some p run (λ order. ¬ Breaking order)
        sparing q =
            let w : Way R (outs run) (ins run) [] q.0 = (e q.0).0 q.1 in
            record {
              order = w.order;
              explains = way_explains w;
              holds = unbroken w.order (ap M.is_broken w.remembers ∙ q.2);
            }

        go : (x y : Bool)
            → (x ≡ true) ↔ ((s : M.State) × R.laws.Member a s × (M.is_broken s ≡ true))
            → (y ≡ true) ↔ ((s : M.State) × R.laws.Member a s × (M.is_broken s ≡ false))
            → VerdictFor Breaking p run (verdict_of p 𝓢 x y)
        go false y hx hy =
            λ order ex br.
            true≢false (sym (hx.1 (along M M.begin order, (e (along M M.begin order)).1 (explains_way order ex), (R.reads order).1 br)))
        go true true hx hy = (breaking (hx.0 refl), sparing (hy.0 refl))
        go true false hx hy = λ order ex. pick order ex (M.is_broken (along M M.begin order)) refl
          where
            pick : (order : List Line) → Explanation p run order → (t : Bool) → M.is_broken (along M M.begin order) ≡ t → Breaking order
            pick order ex true q = (R.reads order).0 q
            pick order ex false q =
                absurd (true≢false (sym (hy.1 (along M M.begin order, (e (along M M.begin order)).1 (explains_way order ex), q))))

    -- read off the last cut, the verdict is the exact one
    pub front_verdict-exact : {t : ℕ} {f : Front 𝓢.Set} → Fits t run f → VerdictFor Breaking p run (front_verdict p 𝓢 f)
    front_verdict-exact {t} {f} fit =
        verdict-exact (last_set p 𝓢 f.before f.held)
        (subst (λ (l : List Line). Exact R (outs run) l [] (last_set p 𝓢 f.before f.held)) (sym fit.split) (last-exact R fit.right))
