-- Lines that were lost: what the premises cover, and that from a boundary on the verdict is the one over everything.
use Prim.Native.Nat.{ℕ, ◌+◌, ◌*◌, ◌≤◌, ◌<◌, max}
use mathlib.Core.Path.{◌≡◌, refl, sym, ◌∙◌, ap, subst}
use mathlib.Core.Logic.{◌⊎◌, inl, inr}
use mathlib.Core.Bool.{true, false}
use mathlib.Core.List.{List, [], ◌∷◌, ◌++◌}
use native.Mathlib.Omega.{arith}
use native.Mathlib.Nat.{le_refl, le_trans, le-max_left, le-max_right}
use borrow.Author.Tests.{lt-ltb}
use Rattle.meaning.specs.Words.{Action, Property, Line, Run, StampsFrom}
use Rattle.meaning.specs.Node.{Verdict, VerdictFor}
use Rattle.meaning.specs.Calls.{Mark, Call, Clock, ticked, beyond, Watch, fresh}
use Rattle.meaning.specs.Calls.{taken, watched, AllTaken, Standing}
use Rattle.meaning.specs.History.{Event, fed, all_lines, MarkedBehind, MarkedBefore, LostMarked, Premises}
use Rattle.meaning.specs.History.{stamp_of, highest, NoMark, BreaksAfter}
use Rattle.meaning.proofs.Lists.{All, done, also, all_map, all-ins, all-outs, from_all}
use Rattle.meaning.proofs.Pairs.{Bounds}
use Rattle.meaning.proofs.Channels.{from_right}
use Rattle.meaning.proofs.Clocks.{open_watch, by_time_is}
use Rattle.meaning.proofs.Boundary.{whole-verdict}
use Rattle.meaning.proofs.Histories.{call-lines, not-refused-next, latest-highest, watched-append, taken-append, fed-append, lines-append, runs_on}

highest-above : (t : ℕ) (ks : List Call) → t ≤ highest t ks
unfolding highest
highest-above t [] = le_refl t
highest-above t (k ∷ ks) = le_trans (le-max_left t (stamp_of k)) (highest-above (max t (stamp_of k)) ks)

-- these marks are stamped no later than t
abbrev MarksBelow : ℕ → List Mark → Type 0
MarksBelow t marks = All (λ (g : Mark). g.stamp ≤ t) marks

still_below : (t s : ℕ) {marks : List Mark} → MarksBelow t marks → MarksBelow (max t s) marks
still_below t s = all_map (λ (g : Mark) q. le_trans q (le-max_left t s))

with_mark-below : (t : ℕ) (g : Mark) {marks : List Mark} → MarksBelow t marks → MarksBelow (max t g.stamp) (g ∷ marks)
with_mark-below t g low = also (le-max_right t g.stamp) (still_below t g.stamp low)

-- behind some events: the marks that then stand before are no later than everything taken or marked
marked_append : (t : ℕ) (marks : List Mark) (a c : List Event) → MarksBelow t marks → LostMarked marks (a ++ c)
    → (more : List Mark) × MarksBelow (highest t (fed a)) more × LostMarked more c
unfolding LostMarked fed highest
marked_append t marks [] c low m = (marks, low, m)
marked_append t marks (Event.line l ∷ a) c low m = marked_append (max t l.stamp) marks a c (still_below t l.stamp low) m
marked_append t marks (Event.lost l ∷ a) c low m = marked_append t marks a c low m.1
marked_append t marks (Event.mark g ∷ a) c low m = marked_append (max t g.stamp) (g ∷ marks) a c (with_mark-below t g low) m

-- a lost line whose mark stands before it is no later than everything taken or marked till then
before-below : (t : ℕ) (l : Line) (marks : List Mark) → MarksBelow t marks → MarkedBefore l marks → l.stamp ≤ t
unfolding MarkedBefore
before-below t l [] low m = absurd m
before-below t l (g ∷ marks) (also q low) (inl h) = let no-later : l.stamp ≤ g.stamp = h in le_trans no-later q
before-below t l (g ∷ marks) (also q low) (inr m) = before-below t l marks low m

-- no mark stands behind a lost line where none follows
no_mark-behind : (l : Line) (h : List Event) → MarkedBehind l h → NoMark (fed h) → ⊥
unfolding MarkedBehind NoMark fed
no_mark-behind l [] m n = m
no_mark-behind l (Event.line k ∷ h) m n = m
no_mark-behind l (Event.lost k ∷ h) m n = no_mark-behind l h m n
no_mark-behind l (Event.mark g ∷ h) m n = n

-- nothing is lost above the marks before where no mark follows
none-lost : (t : ℕ) (marks : List Mark) (h : List Event) → MarksBelow t marks → All (λ (z : Line). t < z.stamp) (all_lines h)
    → LostMarked marks h → NoMark (fed h) → all_lines h ≡ call-lines (fed h)
unfolding LostMarked NoMark fed all_lines call-lines
none-lost t marks [] low above m n = refl
none-lost t marks (Event.line l ∷ h) low (also q above) m n = ap (λ (z : List Line). l ∷ z) (none-lost t marks h low above m n)
none-lost t marks (Event.lost l ∷ h) low (also q above) m n = absurd (by m.0)
  where
    by : MarkedBefore l marks ⊎ MarkedBehind l h → ⊥
    by (inl k) = let late : l.stamp ≤ t = before-below t l marks low k in omega arith
    by (inr k) = no_mark-behind l h k n
none-lost t marks (Event.mark g ∷ h) low above m n = absurd n

-- a lost line whose mark stands behind it is no later than everything taken or marked before the next line
behind-below : (t : ℕ) (l : Line) (a : List Event) (x : Line) (c : List Event) → MarkedBehind l (a ++ Event.line x ∷ c) → l.stamp ≤ highest t (fed a)
unfolding MarkedBehind fed highest
behind-below t l [] x c m = absurd m
behind-below t l (Event.line k ∷ a) x c m = absurd m
behind-below t l (Event.lost k ∷ a) x c m = behind-below t l a x c m
behind-below t l (Event.mark g ∷ a) x c (inl h) =
    let no-later : l.stamp ≤ g.stamp = h in le_trans (le_trans no-later (le-max_right t g.stamp)) (highest-above (max t g.stamp) (fed a))
behind-below t l (Event.mark g ∷ a) x c (inr m) = behind-below (max t g.stamp) l a x c m

all-below : (t : ℕ) (marks : List Mark) (a : List Event) (x : Line) (c : List Event) → MarksBelow t marks → LostMarked marks (a ++ Event.line x ∷ c)
    → All (λ (z : Line). z.stamp ≤ highest t (fed a)) (all_lines a)
unfolding LostMarked fed all_lines highest
all-below t marks [] x c low m = done
all-below t marks (Event.line l ∷ a) x c low m =
    also (le_trans (le-max_right t l.stamp) (highest-above (max t l.stamp) (fed a)))
    (all-below (max t l.stamp) marks a x c (still_below t l.stamp low) m)
all-below t marks (Event.lost l ∷ a) x c low m = also (by m.0) (all-below t marks a x c low m.1)
  where
    by : MarkedBefore l marks ⊎ MarkedBehind l (a ++ Event.line x ∷ c) → l.stamp ≤ highest t (fed a)
    by (inl k) = le_trans (before-below t l marks low k) (highest-above t (fed a))
    by (inr k) = behind-below t l a x c k
all-below t marks (Event.mark g ∷ a) x c low m = all-below (max t g.stamp) (g ∷ marks) a x c (with_mark-below t g low) m

-- ---- lost lines that the premises cover

abbrev line_at : Action → ℕ → Line
line_at a t = record { action = a; stamp = t }

-- its number of lost lines, more or unknown, is in no premise
abbrev marked-at : ℕ → Event
marked-at t = Event.mark (record { lost = 63; stamp = t })

-- "also at an equal stamp": lost behind its mark, and behind a line taken at the mark's stamp
pub mark-before-lost : (a b c : Action)
    → Premises (Event.line (line_at a 100) ∷ marked-at 200 ∷ Event.line (line_at b 200) ∷ Event.lost (line_at c 200) ∷ [])
unfolding LostMarked MarkedBefore all_lines
mark-before-lost a b c = record { lost_marked = (inl (inl (omega arith)), tt); never_fall = (omega arith, (omega arith, (omega arith, tt))) }

-- lost before two marks, the first of them stamped below it
pub second_mark_behind_lost : (a b : Action)
    → Premises (Event.line (line_at a 100) ∷ Event.lost (line_at b 200) ∷ marked-at 150 ∷ marked-at 200 ∷ [])
unfolding LostMarked MarkedBehind all_lines
second_mark_behind_lost a b = record { lost_marked = (inr (inr (inl (omega arith))), tt); never_fall = (omega arith, (omega arith, tt)) }

-- ---- demand 3's verdict

module _ (p : Property) (b : Bounds p) (earlier later : List Event) (x : Line) (premises : Premises (earlier ++ Event.line x ∷ later))
    (takes : AllTaken p fresh (fed (earlier ++ Event.line x ∷ later))) (was-blind : (watched p fresh (fed earlier)).clock.is_blind ≡ true)
    (boundary : highest 0 (fed earlier) + 2 * p.UB < x.stamp) (no_mark : NoMark (fed later)) where
  lines_are : all_lines (earlier ++ Event.line x ∷ later) ≡ all_lines earlier ++ x ∷ all_lines later
  unfolding all_lines
  lines_are = lines-append earlier (Event.line x ∷ later)

  rising : StampsFrom 0 (all_lines earlier ++ x ∷ all_lines later)
  rising = subst (StampsFrom 0) lines_are premises.never_fall

  not_earlier : All (λ (z : Line). x.stamp ≤ z.stamp) (all_lines later)
  not_earlier = from_all (all_lines later) (from_right 0 (all_lines earlier) (x ∷ all_lines later) rising).1

  run_then : (clock : Clock) × (watched p fresh (fed (earlier ++ Event.line x ∷ later)) ≡ open_watch (x ∷ all_lines later) clock)
  unfolding watched AllTaken fed
  run_then =
      let w : Watch = watched p fresh (fed earlier) in
      let e : fed (earlier ++ Event.line x ∷ later) ≡ fed earlier ++ Call.line x ∷ fed later = fed-append earlier (Event.line x ∷ later) in
      let h : AllTaken p fresh (fed earlier) × AllTaken p w (Call.line x ∷ fed later) =
      taken-append p fresh (fed earlier) (Call.line x ∷ fed later) (subst (AllTaken p fresh) e takes) in
      let top : w.clock.latest ≡ highest 0 (fed earlier) = latest-highest p fresh (fed earlier) h.0 in
      let far : beyond p w.clock x.stamp ≡ true = lt-ltb _ _ (subst (λ (t : ℕ). t + 2 * p.UB < x.stamp) (sym top) boundary) in
      let began : Clock = ticked w.clock x false in
      let begins : taken p w (Call.line x) ≡ open_watch (x ∷ []) began = by_time_is p w.clock x.stamp _ _ _ was-blind far in
      let r : ((clock : Clock) × (watched p (open_watch (x ∷ []) began) (fed later) ≡ open_watch (x ∷ call-lines (fed later)) clock)) =
      runs_on p (x ∷ []) began (fed later) (subst (λ (v : Watch). AllTaken p v (fed later)) begins h.1.1) no_mark in
      let m = marked_append 0 [] earlier (Event.line x ∷ later) done premises.lost_marked in
      let lost-none : all_lines later ≡ call-lines (fed later) =
      none-lost (highest 0 (fed earlier)) m.0 later m.1 (all_map above not_earlier) (line_marked m.0 m.2) no_mark in (
        r.0,
        ap (watched p fresh) e
            ∙ watched-append p fresh (fed earlier) (Call.line x ∷ fed later)
            ∙ ap (λ (v : Watch). watched p v (fed later)) (not-refused-next p w (Call.line x) h.1.0 ∙ begins)
            ∙ r.1
            ∙ ap (λ (z : List Line). open_watch (x ∷ z) r.0) (sym lost-none),
      )
    where
      line_marked : (marks : List Mark) → LostMarked marks (Event.line x ∷ later) → LostMarked marks later
      line_marked marks m = unfold LostMarked in m

      above : (z : Line) → x.stamp ≤ z.stamp → highest 0 (fed earlier) < z.stamp
      above z q = let far : highest 0 (fed earlier) + 2 * p.UB < x.stamp = boundary in omega arith

  pub history_verdict : (v : Verdict) → Standing p (watched p fresh (fed (earlier ++ Event.line x ∷ later))) v
      → VerdictFor (BreaksAfter p (all_lines earlier)) p (all_lines (earlier ++ Event.line x ∷ later)) v
  history_verdict v s =
      let low : All (λ (z : Line). z.stamp ≤ highest 0 (fed earlier)) (all_lines earlier) = all-below 0 [] earlier x later done premises.lost_marked in
      subst (λ (r : Run). VerdictFor (BreaksAfter p (all_lines earlier)) p r v) (sym lines_are)
      (whole-verdict b
      (record {
        inputs = all-ins (all_map early low);
        outputs = all-outs (all_map not_after low);
        late = also (le_refl x.stamp) not_earlier;
      })
      rising v
      (subst (λ (w : Watch). Standing p w v) run_then.1 s))
    where
      early : (z : Line) → z.stamp ≤ highest 0 (fed earlier) → z.stamp + 2 * p.UB < x.stamp
      early z q = let far : highest 0 (fed earlier) + 2 * p.UB < x.stamp = boundary in omega arith

      not_after : (z : Line) → z.stamp ≤ highest 0 (fed earlier) → z.stamp ≤ x.stamp
      not_after z q = let far : highest 0 (fed earlier) + 2 * p.UB < x.stamp = boundary in omega arith
