-- Within a run the verdict never falls, for any breaches that end with an output.
use Prim.Native.Nat.{◌≤◌}
use mathlib.Core.Path.{sym, subst}
use mathlib.Core.List.{List, [], ◌∷◌, ◌++◌, append-nil}
use native.Mathlib.Omega.{arith}
use Rattle.meaning.specs.Words.{Property, Line, Run, StampsFrom}
use Rattle.meaning.specs.Node.{Explanation, Some, Verdict, VerdictFor, verdict_number}
use Rattle.meaning.proofs.Lists.{All, all_head, all_map, snoc_append}
use Rattle.meaning.proofs.Pairs.{Bounds}
use Rattle.meaning.proofs.Channels.{from_cross}
use Rattle.meaning.proofs.Facts.{explanation_exists}
use Rattle.stays_told.specs.Stays
use Rattle.stays_told.proofs.Breaking.{Ends, breaks_with, breaks_ends, after-ends}
use Rattle.stays_told.proofs.OneMore.{PutIn, TakenOut, put_in, taken_out}

module _ {p : Property} (b : Bounds p) {Breaking : List Line → Type 0} (k : Ends Breaking) where
  none_later : (run : Run) (l : Line) (more : List Line) → StampsFrom 0 (run ++ l ∷ more) → All (λ (z : Line). z.stamp ≤ l.stamp) run
  none_later run l more f = all_map (λ z h. all_head h) (from_cross 0 run (l ∷ more) f)

  -- where some explanation breaks, some explanation of the longer run does,
  some_break : (run : Run) (more : List Line) → StampsFrom 0 (run ++ more) → Some p run Breaking → Some p (run ++ more) Breaking
  some_break run [] f h = subst (λ (r : Run). Some p r Breaking) (sym (append-nil run)) h
  some_break run (l ∷ more) f h =
      let q : PutIn b run l (none_later run l more f) h.order = put_in b run l (none_later run l more f) h.explains in
      subst (λ (r : Run). Some p r Breaking) (snoc_append run l more)
      (some_break (run ++ l ∷ []) more (subst (StampsFrom 0) (sym (snoc_append run l more)) f)
      (record { order = q.longer; explains = q.explains; holds = breaks_with k q.same h.holds }))

  -- and where all break, all of the longer run do.
  all_break : (run : Run) (more : List Line) → StampsFrom 0 (run ++ more) → ((o : List Line) → Explanation p run o → Breaking o)
      → (o : List Line) → Explanation p (run ++ more) o → Breaking o
  all_break run [] f h o e = h o (subst (λ (r : Run). Explanation p r o) (append-nil run) e)
  all_break run (l ∷ more) f h o e =
      all_break (run ++ l ∷ []) more (subst (StampsFrom 0) (sym (snoc_append run l more)) f)
      (λ u x. let q : TakenOut b run l (none_later run l more f) u = taken_out b run l (none_later run l more f) x in breaks_with k q.same (h q.shorter q.explains))
      o (subst (λ (r : Run). Explanation p r o) (sym (snoc_append run l more)) e)

  bounded : (run : Run) (more : List Line) → StampsFrom 0 (run ++ more)
      → (v w : Verdict) → VerdictFor Breaking p run v → VerdictFor Breaking p (run ++ more) w → verdict_number v ≤ verdict_number w
  bounded run more f Verdict.clear w h c = omega arith
  bounded run more f Verdict.suspect Verdict.clear h c =
      let s : Some p (run ++ more) Breaking = some_break run more f h.0 in absurd (c s.order s.explains s.holds)
  bounded run more f Verdict.suspect Verdict.suspect h c = omega arith
  bounded run more f Verdict.suspect Verdict.certain h c = omega arith
  bounded run more f Verdict.suspect Verdict.blind h c = absurd c
  bounded run more f Verdict.certain Verdict.clear h c =
      let s = explanation_exists p b (run ++ more) 0 f in absurd (c s.order s.explains (all_break run more f h s.order s.explains))
  bounded run more f Verdict.certain Verdict.suspect h c = absurd (c.1.holds (all_break run more f h c.1.order c.1.explains))
  bounded run more f Verdict.certain Verdict.certain h c = omega arith
  bounded run more f Verdict.certain Verdict.blind h c = absurd c
  bounded run more f Verdict.blind w h c = absurd h

pub never_falls : (p : Property) → 1 ≤ p.LB → p.LB ≤ p.UB → Stays.NeverFalls p
never_falls p least order run more rising = bounded {p = p} (record { least = least; order = order }) (breaks_ends p) run more rising

pub never_falls_after : (p : Property) → 1 ≤ p.LB → p.LB ≤ p.UB → Stays.NeverFallsAfter p
never_falls_after p least order earlier = bounded {p = p} (record { least = least; order = order }) (after-ends p earlier)
