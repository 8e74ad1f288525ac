-- Full histories: what calls come to, one behind the other, and what the watcher is blind to.
use Prim.Native.Nat.{ℕ, zero, suc, ◌≤◌, max}
use mathlib.Core.Path.{◌≡◌, refl, sym, ◌∙◌, ap, subst}
use mathlib.Core.Bool.{true, false}
use mathlib.Core.List.{List, [], ◌∷◌, ◌++◌, append_assoc, append-nil}
use native.Mathlib.Omega.{arith}
use borrow.Author.Tests.{le-ltb}
use Rattle.meaning.specs.Words.{Property, Line, Run}
use Rattle.meaning.specs.Numbers.{given, action_above}
use Rattle.meaning.specs.Calls.{Mark, Call, Clock, ticked, stamp_refusal, Watch, fresh, with_line, with_mark, refusal}
use Rattle.meaning.specs.Calls.{taken, unless_refused, next, watched, AllTaken, kept}
use Rattle.meaning.specs.History.{Event, fed, all_lines, stamp_of, highest, Quiet, NoMark}
use Rattle.meaning.proofs.Refusals.{first_of-none}
use Rattle.meaning.proofs.Clocks.{open_watch, blind_watch, by_time_is, by_time_each}
use Rattle.meaning.proofs.Calls.{not-refused-stamp, not-refused-mark}

-- the lines among calls
unfoldable pub call-lines : List Call → List Line
call-lines [] = []
call-lines (Call.line l ∷ ks) = l ∷ call-lines ks
call-lines (Call.mark g ∷ ks) = call-lines ks

module _ (p : Property) where
  pub not-refused-next : (w : Watch) (c : Call) → refusal p w c ≡ 0 → next p w c ≡ taken p w c
  not-refused-next w c e = ap (λ (n : ℕ). unless_refused n (taken p w c) w) e

  not-refused-late : (w : Watch) (c : Call) → refusal p w c ≡ 0 → w.clock.latest ≤ stamp_of c
  not-refused-late w (Call.line l) e =
      not-refused-stamp w.clock l.stamp
      (first_of-none (stamp_refusal w.clock l.stamp) (first_of-none (given 3 (action_above l.action)) e).1).0
  not-refused-late w (Call.mark g) e = not-refused-stamp w.clock g.stamp (not-refused-mark w.clock g e)

  pub watched-append : (w : Watch) (a c : List Call) → watched p w (a ++ c) ≡ watched p (watched p w a) c
  unfolding watched
  watched-append w [] c = refl
  watched-append w (k ∷ a) c = watched-append (next p w k) a c

  pub watched-last : (w : Watch) (a : List Call) (c : Call) → watched p w (a ++ c ∷ []) ≡ next p (watched p w a) c
  unfolding watched
  watched-last w a c = watched-append w a (c ∷ [])

  pub taken-append : (w : Watch) (a c : List Call) → AllTaken p w (a ++ c) → AllTaken p w a × AllTaken p (watched p w a) c
  unfolding watched AllTaken
  taken-append w [] c h = (tt, h)
  taken-append w (k ∷ a) c h =
      let r : AllTaken p (taken p w k) a × AllTaken p (watched p (taken p w k) a) c = taken-append (taken p w k) a c h.1 in
      ((h.0, r.0), subst (λ (x : Watch). AllTaken p (watched p x a) c) (sym (not-refused-next w k h.0)) r.1)

  taken-latest : (w : Watch) (c : Call) → (taken p w c).clock.latest ≡ stamp_of c
  taken-latest w (Call.line l) =
      by_time_each p w.clock l.stamp _ _ _ (λ (x : Watch). x.clock.latest ≡ l.stamp) (λ e f. refl) (λ e f. refl) (λ e. refl)
  taken-latest w (Call.mark g) = refl

  -- the latest stamp is the highest of everything taken or marked
  pub latest-highest : (w : Watch) (ks : List Call) → AllTaken p w ks → (watched p w ks).clock.latest ≡ highest w.clock.latest ks
  unfolding watched AllTaken highest
  latest-highest w [] h = refl
  latest-highest w (k ∷ ks) h =
      ap (λ (x : Watch). (watched p x ks).clock.latest) (not-refused-next w k h.0)
      ∙ latest-highest (taken p w k) ks h.1
      ∙ ap (λ (t : ℕ). highest t ks) (taken-latest w k ∙ later w.clock.latest (stamp_of k) (not-refused-late w k h.0))
    where
      later : (s t : ℕ) → s ≤ t → t ≡ max s t
      later s t q = omega arith

  -- "after the mark, until a line comes more than twice the upper bound after everything taken or marked, the watcher says blind"
  stays_blind : (w : Watch) (ks : List Call) → w.clock.is_blind ≡ true → AllTaken p w ks → Quiet p w.clock.latest ks
      → (watched p w ks).clock.is_blind ≡ true
  unfolding watched AllTaken Quiet
  stays_blind w [] b h q = b
  stays_blind w (Call.line l ∷ ks) b h q =
      let late : w.clock.latest ≤ l.stamp = not-refused-late w (Call.line l) h.0 in
      let e : max w.clock.latest l.stamp ≡ l.stamp = omega arith in
      let skipped : with_line p w l ≡ blind_watch (ticked w.clock l true) =
      by_time_is p w.clock l.stamp _ _ _ b (le-ltb _ _ q.0) in
      ap (λ (x : Watch). (watched p x ks).clock.is_blind) (not-refused-next w (Call.line l) h.0 ∙ skipped)
      ∙ stays_blind (blind_watch (ticked w.clock l true)) ks refl (subst (λ (x : Watch). AllTaken p x ks) skipped h.1)
      (subst (λ (x : ℕ). Quiet p x ks) e q.1)
  stays_blind w (Call.mark g ∷ ks) b h q =
      let late : w.clock.latest ≤ g.stamp = not-refused-late w (Call.mark g) h.0 in
      let e : max w.clock.latest g.stamp ≡ g.stamp = omega arith in
      ap (λ (x : Watch). (watched p x ks).clock.is_blind) (not-refused-next w (Call.mark g) h.0)
      ∙ stays_blind (with_mark w g) ks refl h.1 (subst (λ (x : ℕ). Quiet p x ks) e q)

  pub blind_until : (before between : List Call) (g : Mark) → AllTaken p fresh (before ++ Call.mark g ∷ between)
      → Quiet p (highest 0 (before ++ Call.mark g ∷ [])) between → (watched p fresh (before ++ Call.mark g ∷ between)).clock.is_blind ≡ true
  unfolding watched AllTaken
  blind_until before between g h q =
      let r : AllTaken p fresh before × AllTaken p (watched p fresh before) (Call.mark g ∷ between) = taken-append fresh before (Call.mark g ∷ between) h in
      let w : Watch = watched p fresh before in
      let top : highest 0 (before ++ Call.mark g ∷ []) ≡ g.stamp =
      sym (latest-highest fresh (before ++ Call.mark g ∷ []) (join-taken fresh before r.0 r.1.0)) ∙ last-mark r.1.0 in
      ap (λ (x : Watch). x.clock.is_blind) (watched-append fresh before (Call.mark g ∷ between))
      ∙ ap (λ (x : Watch). (watched p x between).clock.is_blind) (not-refused-next w (Call.mark g) r.1.0)
      ∙ stays_blind (with_mark w g) between refl r.1.1 (subst (λ (t : ℕ). Quiet p t between) top q)
    where
      last-mark : refusal p (watched p fresh before) (Call.mark g) ≡ 0 → (watched p fresh (before ++ Call.mark g ∷ [])).clock.latest ≡ g.stamp
      last-mark e =
          ap (λ (x : Watch). x.clock.latest) (watched-append fresh before (Call.mark g ∷ []))
          ∙ ap (λ (x : Watch). x.clock.latest) (not-refused-next (watched p fresh before) (Call.mark g) e)

      join-taken : (w : Watch) (a : List Call) → AllTaken p w a → refusal p (watched p w a) (Call.mark g) ≡ 0 → AllTaken p w (a ++ Call.mark g ∷ [])
      join-taken w [] h e = (e, tt)
      join-taken w (k ∷ a) h e =
          (h.0, join-taken (taken p w k) a h.1 (subst (λ (x : Watch). refusal p (watched p x a) (Call.mark g) ≡ 0) (not-refused-next w k h.0) e))

  -- a run goes on to the next mark
  pub runs_on : (run : Run) (clock : Clock) (ks : List Call) → AllTaken p (open_watch run clock) ks → NoMark ks
      → (later : Clock) × (watched p (open_watch run clock) ks ≡ open_watch (run ++ call-lines ks) later)
  unfolding watched AllTaken NoMark call-lines
  runs_on run clock [] h n = (clock, ap (λ (r : Run). open_watch r clock) (sym (append-nil run)))
  runs_on run clock (Call.line l ∷ ks) h n =
      let r : ((later : Clock) × (watched p (open_watch (run ++ l ∷ []) (ticked clock l false)) ks ≡ open_watch ((run ++ l ∷ []) ++ call-lines ks) later)) =
      runs_on (run ++ l ∷ []) (ticked clock l false) ks h.1 n in (
        r.0,
        ap (λ (x : Watch). watched p x ks) (not-refused-next (open_watch run clock) (Call.line l) h.0)
            ∙ r.1
            ∙ ap (λ (x : Run). open_watch x r.0) (append_assoc run (l ∷ []) (call-lines ks)),
      )
  runs_on run clock (Call.mark g ∷ ks) h n = absurd n

-- ---- events

pub fed-append : (a c : List Event) → fed (a ++ c) ≡ fed a ++ fed c
unfolding fed
fed-append [] c = refl
fed-append (Event.line l ∷ a) c = ap (λ (z : List Call). Call.line l ∷ z) (fed-append a c)
fed-append (Event.lost l ∷ a) c = fed-append a c
fed-append (Event.mark g ∷ a) c = ap (λ (z : List Call). Call.mark g ∷ z) (fed-append a c)

pub lines-append : (a c : List Event) → all_lines (a ++ c) ≡ all_lines a ++ all_lines c
unfolding all_lines
lines-append [] c = refl
lines-append (Event.line l ∷ a) c = ap (λ (z : List Line). l ∷ z) (lines-append a c)
lines-append (Event.lost l ∷ a) c = ap (λ (z : List Line). l ∷ z) (lines-append a c)
lines-append (Event.mark g ∷ a) c = lines-append a c

-- ---- what is refused alters nothing

module _ (p : Property) where
  pub kept_same : (w : Watch) (ks : List Call) → watched p w (kept p w ks) ≡ watched p w ks
  unfolding watched kept
  kept_same w [] = refl
  kept_same w (k ∷ ks) = go (refusal p w k) refl (kept_same (next p w k) ks)
    where
      go : (n : ℕ) → refusal p w k ≡ n → watched p (next p w k) (kept p (next p w k) ks) ≡ watched p (next p w k) ks
          → watched p w (unless_refused n (k ∷ kept p (next p w k) ks) (kept p (next p w k) ks)) ≡ watched p (next p w k) ks
      go zero e ih = ih
      go (suc n) e ih =
          let same : next p w k ≡ w = ap (λ (i : ℕ). unless_refused i (taken p w k) w) e in
          ap (λ (x : Watch). watched p x (kept p (next p w k) ks)) (sym same) ∙ ih

  pub kept-taken : (w : Watch) (ks : List Call) → AllTaken p w (kept p w ks)
  unfolding AllTaken kept
  kept-taken w [] = tt
  kept-taken w (k ∷ ks) = go (refusal p w k) refl (kept-taken (next p w k) ks)
    where
      go : (n : ℕ) → refusal p w k ≡ n → AllTaken p (next p w k) (kept p (next p w k) ks)
          → AllTaken p w (unless_refused n (k ∷ kept p (next p w k) ks) (kept p (next p w k) ks))
      go zero e ih = (e, subst (λ (x : Watch). AllTaken p x (kept p (next p w k) ks)) (not-refused-next p w k e) ih)
      go (suc n) e ih =
          subst (λ (x : Watch). AllTaken p x (kept p (next p w k) ks)) (ap (λ (i : ℕ). unless_refused i (taken p w k) w) e) ih
