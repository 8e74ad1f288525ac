-- Of calls on a fresh session: within a run no verdict that stands or is answered is below an earlier one, and none that a gap mark
-- closes is above the one that the run followed by what was lost would have had.
use Prim.Native.Nat.{ℕ, zero, suc, ◌≤◌}
use mathlib.Core.Path.{◌≡◌, refl, sym, ◌∙◌, ap, subst}
use mathlib.Core.Bool.{Bool, false, cond}
use mathlib.Core.List.{List, [], ◌∷◌, ◌++◌, append-nil}
use native.Mathlib.Omega.{arith}
use native.Mathlib.Nat.{le_trans}
use Rattle.meaning.specs.Words.{Property, Line, Run, StampsFrom}
use Rattle.meaning.specs.Node.{Breaks, Verdict, verdict_number, IsVerdict}
use Rattle.meaning.specs.Numbers.{property_refusal}
use Rattle.meaning.specs.Calls.{Mark, Call, Clock, Watch, fresh, with_line, refusal, taken, unless_refused, next, watched, AllTaken, kept, Standing}
use Rattle.meaning.specs.Calls.{Answer, AnswerBy, IsAnswer}
use Rattle.meaning.specs.Matcher.{Lengths}
use Rattle.meaning.specs.Step.{Front, Cuts, lengths, front_with, fresh_front, front_verdict, grown, cuts_verdict}
use Rattle.meaning.specs.History.{Event, fed, all_lines, NoMark}
use Rattle.meaning.proofs.Lists.{from_weaker, snoc_append}
use Rattle.meaning.proofs.Channels.{from_right}
use Rattle.meaning.proofs.Refusals.{unless_taken}
use Rattle.meaning.proofs.Sets.{Reading}
use Rattle.meaning.proofs.Lengths.{lengths_reading}
use Rattle.meaning.proofs.Exact.{Fits, fresh-fits, front_fits, front_verdict-exact}
use Rattle.meaning.proofs.Calls.{Agrees, open_run, blind, grown_agrees, standing_agrees}
use Rattle.meaning.proofs.Clocks.{open_watch, blind_is, by_time_each}
use Rattle.meaning.proofs.Histories.{call-lines, watched-append, watched-last, runs_on, kept_same, kept-taken, lines-append}
use Rattle.stays_told.specs.Stays.{NeverFalls, SameRun, ClosedNotAbove, StandingStays, AnswersStay}
use Rattle.stays_told.proofs.NeverFalls.{never_falls}

-- ---- stamps that never fall, with lines left out

from_less : (t : ℕ) (xs : List Line) (l : Line) (ys : List Line) → StampsFrom t (xs ++ l ∷ ys) → StampsFrom t (xs ++ ys)
from_less t [] l ys f = from_weaker ys f.0 f.1
from_less t (x ∷ xs) l ys f = (f.0, from_less x.stamp xs l ys f.1)

module _ (p : Property) where
  -- what a call leaves of the run and of the lines behind it
  line_leaves : (w : Watch) (l : Line) (rest : List Line) → StampsFrom 0 (w.run ++ l ∷ rest) → StampsFrom 0 ((next p w (Call.line l)).run ++ rest)
  line_leaves w l rest f = by_number (refusal p w (Call.line l))
    where
      alone : StampsFrom 0 (l ∷ rest)
      alone = from_right 0 w.run (l ∷ rest) f

      by_number : (n : ℕ) → StampsFrom 0 ((unless_refused n (with_line p w l) w).run ++ rest)
      by_number zero =
          by_time_each p w.clock l.stamp _ _ _ (λ (x : Watch). StampsFrom 0 (x.run ++ rest))
          (λ e far. alone)
          (λ e near. from_weaker rest alone.0 alone.1)
          (λ e. subst (StampsFrom 0) (sym (snoc_append w.run l rest)) f)
      by_number (suc n) = from_less 0 w.run l rest f

  mark_leaves : (w : Watch) (g : Mark) (rest : List Line) → StampsFrom 0 (w.run ++ rest) → StampsFrom 0 ((next p w (Call.mark g)).run ++ rest)
  mark_leaves w g rest f = by_number (refusal p w (Call.mark g))
    where
      by_number : (n : ℕ) → StampsFrom 0 ((unless_refused n (taken p w (Call.mark g)) w).run ++ rest)
      by_number zero = from_right 0 w.run rest f
      by_number (suc n) = f

  -- the run is made of lines of the full history
  run_logged : (w : Watch) (h : List Event) (rest : List Line) → StampsFrom 0 (w.run ++ (all_lines h ++ rest))
      → StampsFrom 0 ((watched p w (fed h)).run ++ rest)
  unfolding watched fed all_lines
  run_logged w [] rest f = f
  run_logged w (Event.line l ∷ h) rest f = run_logged (next p w (Call.line l)) h rest (line_leaves w l (all_lines h ++ rest) f)
  run_logged w (Event.lost l ∷ h) rest f = run_logged w h rest (from_less 0 w.run l (all_lines h ++ rest) f)
  run_logged w (Event.mark g ∷ h) rest f = run_logged (next p w (Call.mark g)) h rest (mark_leaves w g (all_lines h ++ rest) f)

  -- ---- calls of one run

  -- the run goes on by the lines that are taken
  grew : (w : Watch) (more : List Call) → SameRun p w more
      → (later : Clock) × (watched p w more ≡ open_watch (w.run ++ call-lines (kept p w more)) later)
  grew w more s =
      let taken-calls : List Call = kept p w more in
      let same : w ≡ open_watch w.run w.clock =
      ap {B = Watch} (λ (k : Clock). record { clock = k; run = w.run }) (blind_is w.clock s.open_before) in
      let r = runs_on p w.run w.clock taken-calls (subst (λ (x : Watch). AllTaken p x taken-calls) same (kept-taken p w more)) s.no_mark in
      (r.0, sym (kept_same p w more) ∙ ap (λ (x : Watch). watched p x taken-calls) same ∙ r.1)

  -- a line more, taken or refused, is of the same run
  pub with_line_more : (w : Watch) (l : Line) → w.clock.is_blind ≡ false → SameRun p w (Call.line l ∷ [])
  unfolding kept NoMark
  with_line_more w l e = record { open_before = e; no_mark = by (refusal p w (Call.line l)) }
    where
      by : (n : ℕ) → NoMark (unless_refused n (Call.line l ∷ []) [])
      by zero = tt
      by (suc n) = tt

  pub still_open : (calls more : List Call) → SameRun p (watched p fresh calls) more → (watched p fresh (calls ++ more)).clock.is_blind ≡ false
  still_open calls more s = ap (λ (x : Watch). x.clock.is_blind) (watched-append p fresh calls more ∙ (grew (watched p fresh calls) more s).1)

  on_open : (w : Watch) (v : Verdict) → w.clock.is_blind ≡ false → Standing p w v → IsVerdict p w.run v
  on_open w v e h = subst (λ (b : Bool). cond b (v ≡ Verdict.blind) (IsVerdict p w.run v)) e h

  -- a gap mark's answer is not above n where the verdict that stands is not; refused it is 0
  pub mark_at-most : (w : Watch) (g : Mark) (a : Answer) (n : ℕ) → IsAnswer p w (Call.mark g) a → ((v : Verdict) → Standing p w v → verdict_number v ≤ n)
      → a.verdict ≤ n
  mark_at-most w g a n h most = by (refusal p w (Call.mark g)) h
    where
      by : (m : ℕ) → AnswerBy m p w (Call.mark g) a → a.verdict ≤ n
      by zero k = subst (λ (i : ℕ). i ≤ n) (sym k.told) (most k.verdict k.stands)
      by (suc m) k = subst (λ (i : ℕ). i ≤ n) (sym (ap (λ (x : Answer). x.verdict) k)) (omega arith)

  -- "A refused call in between changes nothing."
  pub refused-between : (calls : List Call) (c : Call) (more : List Call) (n : ℕ) → refusal p (watched p fresh calls) c ≡ suc n
      → watched p fresh (calls ++ c ∷ more) ≡ watched p fresh (calls ++ more)
  unfolding watched
  refused-between calls c more n e =
      let w : Watch = watched p fresh calls in
      watched-append p fresh calls (c ∷ more)
      ∙ ap (λ (x : Watch). watched p x more) (ap (λ (i : ℕ). unless_refused i (taken p w c) w) e)
      ∙ sym (watched-append p fresh calls more)

-- ---- the verdicts

module _ (p : Property) (good : property_refusal p ≡ 0) where
  abbrev R : Reading p (Breaks p)
  R = lengths_reading p good

  never : NeverFalls p
  never = never_falls p R.bounds.least R.bounds.order

  -- every run with stamps that never fall has a verdict
  fits : (t : ℕ) (run : Run) (f : Front Lengths) → Fits R t run f → (more : List Line) → StampsFrom t more
      → (u : ℕ) × (g : Front Lengths) × Fits R u (run ++ more) g
  fits t run f fit [] rise = (t, f, subst (λ (r : Run). Fits R t r f) (sym (append-nil run)) fit)
  fits t run f fit (l ∷ more) rise =
      let r = fits l.stamp (run ++ l ∷ []) (front_with p (lengths p) f l) (front_fits R t run f fit l rise.0) more rise.1 in
      (r.0, r.1, subst (λ (x : Run). Fits R r.0 x r.1) (snoc_append run l more) r.2)

  pub has-verdict : (run : Run) → StampsFrom 0 run → (v : Verdict) × IsVerdict p run v
  has-verdict run rise =
      let r = fits 0 [] (fresh_front p (lengths p)) (fresh-fits R 0) run rise in
      (front_verdict p (lengths p) r.1, front_verdict-exact R run r.2)

  run_rises : {w : Watch} {c : Cuts Lengths} → Agrees R w c → StampsFrom 0 w.run
  run_rises (open_run run clock f fit few) = fit.rising
  run_rises (blind clock) = tt

  pub standing_stays : StandingStays p
  standing_stays calls more s v w h k =
      let before : Watch = watched p fresh calls in
      let lines : List Line = call-lines (kept p before more) in
      let run_is : (watched p fresh (calls ++ more)).run ≡ before.run ++ lines =
      ap (λ (x : Watch). x.run) (watched-append p fresh calls more ∙ (grew p before more s).1) in
      never before.run lines (subst (StampsFrom 0) run_is (run_rises (grown_agrees R (calls ++ more)))) v w
      (on_open p before v s.open_before h)
      (subst (λ (r : Run). IsVerdict p r w) run_is (on_open p (watched p fresh (calls ++ more)) w (still_open p calls more s) k))

  pub answers_stay : AnswersStay p
  answers_stay calls l more c s t a b ha hb = by_first (refusal p (watched p fresh calls) (Call.line l)) refl ha
    where
      earlier : Watch
      earlier = watched p fresh (calls ++ Call.line l ∷ [])

      later : Watch
      later = watched p fresh (calls ++ Call.line l ∷ more)

      joined : watched p fresh ((calls ++ Call.line l ∷ []) ++ more) ≡ later
      joined = ap (watched p fresh) (snoc_append calls (Call.line l) more)

      later_open : later.clock.is_blind ≡ false
      later_open = ap (λ (x : Watch). x.clock.is_blind) (sym joined) ∙ still_open p (calls ++ Call.line l ∷ []) more s

      -- from the earlier answer to what stands before the later call
      up_to : (v u : Verdict) → Standing p earlier v → Standing p later u → verdict_number v ≤ verdict_number u
      up_to v u h k = standing_stays (calls ++ Call.line l ∷ []) more s v u h (subst (λ (x : Watch). Standing p x u) (sym joined) k)

      to_call : (k : Call) → refusal p later k ≡ 0 → AnswerBy 0 p later k b → (v : Verdict) → Standing p earlier v → verdict_number v ≤ b.verdict
      to_call (Call.mark g) z told v h = subst (λ (n : ℕ). verdict_number v ≤ n) (sym told.told) (up_to v told.verdict h told.stands)
      to_call (Call.line m) z told v h =
          let u : Verdict = cuts_verdict p (lengths p) (grown p (calls ++ Call.line l ∷ more)) in
          let su : Standing p later u = standing_agrees R (grown_agrees R (calls ++ Call.line l ∷ more)) in
          let after : watched p fresh ((calls ++ Call.line l ∷ more) ++ Call.line m ∷ []) ≡ with_line p later m =
          watched-last p fresh (calls ++ Call.line l ∷ more) (Call.line m) ∙ unless_taken (refusal p later (Call.line m)) (with_line p later m) later z in
          subst (λ (n : ℕ). verdict_number v ≤ n) (sym told.told)
          (le_trans (up_to v u h su)
          (standing_stays (calls ++ Call.line l ∷ more) (Call.line m ∷ []) (with_line_more p later m later_open) u told.verdict su
          (subst (λ (x : Watch). Standing p x told.verdict) (sym after) told.stands)))

      by_first : (n : ℕ) → refusal p (watched p fresh calls) (Call.line l) ≡ n → AnswerBy n p (watched p fresh calls) (Call.line l) a → a.verdict ≤ b.verdict
      by_first (suc n) z h = subst (λ (m : ℕ). m ≤ b.verdict) (sym (ap (λ (x : Answer). x.verdict) h)) (omega arith)
      by_first zero z h =
          let at : Watch = watched p fresh calls in
          let after : earlier ≡ with_line p at l =
          watched-last p fresh calls (Call.line l) ∙ unless_taken (refusal p at (Call.line l)) (with_line p at l) at z in
          subst (λ (m : ℕ). m ≤ b.verdict) (sym h.told)
          (to_call c t (subst (λ (n : ℕ). AnswerBy n p later c b) t hb) h.verdict (subst (λ (x : Watch). Standing p x h.verdict) (sym after) h.stands))

  pub closed-not-above : ClosedNotAbove p
  closed-not-above calls logged behind fed-is premises is_open g a ha w hw =
      mark_at-most p at g a (verdict_number w) ha (λ v h. never at.run (all_lines behind) rising v w (on_open p at v is_open h) hw)
    where
      at : Watch
      at = watched p fresh calls

      -- demand 3's premise: stamps never fall over the full history
      rising : StampsFrom 0 (at.run ++ all_lines behind)
      rising =
          subst (λ (x : Watch). StampsFrom 0 (x.run ++ all_lines behind)) (ap (watched p fresh) (sym fed-is) ∙ kept_same p fresh calls)
          (run_logged p fresh logged (all_lines behind) (subst (StampsFrom 0) (lines-append logged behind) premises.never_fall))
