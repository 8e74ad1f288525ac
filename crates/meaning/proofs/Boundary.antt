-- Across a boundary the verdict on the run alone is the one over everything, for breaches that begin in the run.
use Prim.Native.Nat.{ℕ, ◌≤◌}
use mathlib.Core.Path.{◌≡◌, sym, ◌∙◌, ap, subst}
use mathlib.Core.Logic.{◌⊎◌, inl, inr}
use mathlib.Core.List.{List, [], ◌∷◌, ◌++◌, map, append_assoc, append-eq-nil_iff, head-eq_of_cons-eq, nil≢cons}
use native.Mathlib.Omega.{arith}
use lib.ListN.{length, length-append}
use Rattle.meaning.specs.Words.{Action, Property, Line, StampsFrom}
use Rattle.meaning.specs.Node.{ins, outs, Explanation, actions, Breach, Breaks, Some, Verdict, VerdictFor, IsVerdict}
use Rattle.meaning.specs.History.{LoggedAfter, BreaksAfter}
use Rattle.meaning.proofs.Lists.{ins-append, outs-append, two_splits}
use Rattle.meaning.proofs.Pairs.{Bounds}
use Rattle.meaning.proofs.Channels.{from_left}
use Rattle.meaning.proofs.Facts.{explanation_exists}
use Rattle.meaning.proofs.Splitting.{Apart, Split, split, join}

-- where no action stands there is no breach
no_breach : {p : Property} {between : List ℕ} → Breach p between [] → ⊥
no_breach {p} {between} h =
    let last : List Action = Action.output h.answer ∷ h.after in
    let rest : map Action.input between ++ last ≡ [] =
    ((append-eq-nil_iff {p = p.sequence} {q = map Action.input between ++ last}).0 (sym h.occurs)).1 in
    nil≢cons (sym ((append-eq-nil_iff {p = map Action.input between} {q = last}).0 rest).1)

-- a breach that begins in the run is one of the run's part alone
module _ {p : Property} {earlier e : List Line} (f : List Line) (he : Explanation p earlier e) where
  later_ins : (m : List Line) → length (ins earlier) ≤ length (ins (e ++ m))
  later_ins m = omega (arith, ap length he.is_order.inputs_kept, ap length (ins-append e m), length-append (ins e) (ins m))

  later_outs : (m : List Line) → length (outs earlier) ≤ length (outs (e ++ m))
  later_outs m = omega (arith, ap length he.is_order.outputs_kept, ap length (outs-append e m), length-append (outs e) (outs m))

  logged : (m : List Line) (a : Action) → LoggedAfter earlier (e ++ m) a
  logged m (Action.input k) = later_ins m
  logged m (Action.output k) = later_outs m

  breach_back : Breaks p f → BreaksAfter p earlier (e ++ f)
  breach_back h = make h.behind h.stands h.breach
    where
      make : (behind : List Line) → f ≡ h.before ++ behind → Breach p h.between (actions behind) → BreaksAfter p earlier (e ++ f)
      make [] s q = absurd (no_breach q)
      make (x ∷ behind) s q =
          record {
            before = e ++ h.before;
            first = x;
            behind = behind;
            stands = ap (λ (z : List Line). e ++ z) s ∙ sym (append_assoc e h.before (x ∷ behind));
            begins = logged h.before x.action;
            between = h.between;
            breach = q;
          }

  -- what stands behind `before` and was logged later stands behind all of e
  not-inside : (before : List Line) (a : Action) (t : ℕ) (m : List Line) → e ≡ before ++ record { action = a; stamp = t } ∷ m
      → LoggedAfter earlier before a → ⊥
  not-inside before (Action.input k) t m q g =
      let x : Line = record { action = Action.input k; stamp = t } in
      let c : ins before ++ x ∷ ins m ≡ ins earlier = sym (ins-append before (x ∷ m)) ∙ ap ins (sym q) ∙ he.is_order.inputs_kept in
      let z : ⊥ = omega (arith, length-append (ins before) (x ∷ ins m), ap length c) in
      z
  not-inside before (Action.output k) t m q g =
      let x : Line = record { action = Action.output k; stamp = t } in
      let c : outs before ++ x ∷ outs m ≡ outs earlier = sym (outs-append before (x ∷ m)) ∙ ap outs (sym q) ∙ he.is_order.outputs_kept in
      let z : ⊥ = omega (arith, length-append (outs before) (x ∷ outs m), ap length c) in
      z

  breach-there : BreaksAfter p earlier (e ++ f) → Breaks p f
  breach-there h = go (two_splits e f h.before (h.first ∷ h.behind) h.stands)
    where
      go : ((m : List Line) × (h.before ≡ e ++ m) × (f ≡ m ++ h.first ∷ h.behind))
          ⊎ ((y : Line) × (m : List Line) × (e ≡ h.before ++ y ∷ m) × (h.first ∷ h.behind ≡ y ∷ (m ++ f))) → Breaks p f
      go (inl r) = record { before = r.0; behind = h.first ∷ h.behind; stands = r.2; between = h.between; breach = h.breach }
      go (inr r) =
          absurd
          (not-inside h.before h.first.action h.first.stamp r.1
          (r.2 ∙ ap (λ (z : Line). h.before ++ z ∷ r.1) (sym (head-eq_of_cons-eq r.3)))
          h.begins)

module _ {p : Property} (b : Bounds p) {T₀ : ℕ} {earlier run : List Line} (apart : Apart p T₀ earlier run)
    (rising : StampsFrom 0 (earlier ++ run)) where
  -- so the verdict on the run alone is the one over everything, for breaches that begin in the run
  pub whole-verdict : (v : Verdict) → IsVerdict p run v → VerdictFor (BreaksAfter p earlier) p (earlier ++ run) v
  whole-verdict Verdict.clear h = λ o ex br.
      let k : Split p earlier run o = split b apart ex in
      h k.back k.back_explains (breach-there k.back k.front-explains (subst (BreaksAfter p earlier) k.stands br))
  whole-verdict Verdict.suspect h =
      let x : Some p earlier (λ o. Unit {0}) = explanation_exists p b earlier 0 (from_left 0 earlier run rising) in (
        record {
          order = x.order ++ h.0.order;
          explains = join b apart x.explains h.0.explains;
          holds = breach_back h.0.order x.explains h.0.holds;
        },
        record {
          order = x.order ++ h.1.order;
          explains = join b apart x.explains h.1.explains;
          holds = λ br. h.1.holds (breach-there h.1.order x.explains br);
        },
      )
  whole-verdict Verdict.certain h = λ o ex.
      let k : Split p earlier run o = split b apart ex in
      subst (BreaksAfter p earlier) (sym k.stands) (breach_back k.back k.front-explains (h k.back k.back_explains))
  whole-verdict Verdict.blind h = h
