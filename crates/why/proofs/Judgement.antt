-- The judgement of a whole run, line by line: as long as all lines are taken it is the step over cuts, with the verdict that is exact
-- and the line after which it was first reached; behind a refusal it is that refusal.
use Prim.Native.Nat.{ℕ, zero, suc, ◌≤◌}
use mathlib.Core.Path.{◌≡◌, refl, sym, ap, ◌∙◌, subst}
use mathlib.Core.Bool.{Bool, true, false, cond}
use mathlib.Core.List.{[], ◌∷◌, ◌++◌}
use native.Mathlib.Omega.{arith}
use lib.Dec.{eqb}
use borrow.Author.Tests.{eqb-true, eqb-false, le-leb}
use Rattle.laws.specs.Places.{first}
use Rattle.laws.proofs.Places.{length-first, first_snoc}
use Rattle.meaning.specs.Words.{Line, Run}
use Rattle.meaning.specs.Node.{Breaks, Verdict, verdict_number, IsVerdict}
use Rattle.meaning.specs.Numbers.{first_of, action_above, property_refusal}
use Rattle.meaning.specs.Calls.{Call, Clock, fresh_clock, ticked, Watch, fresh, refusal, taken, stamp_refusal}
use Rattle.meaning.specs.Calls
use Rattle.meaning.specs.Matcher.{Lengths, at_start}
use Rattle.meaning.specs.Step.{Front, Cuts, lengths, last_set, front_with, fresh_front, front_verdict}
use Rattle.meaning.proofs.Refusals.{first_of-none, none_first, unless_taken, unless_kept}
use Rattle.meaning.proofs.Tests.{same_number}
use Rattle.meaning.proofs.Sets.{Reading}
use Rattle.meaning.proofs.Clocks.{open_watch, open_cuts}
use Rattle.meaning.proofs.Lengths.{lengths_reading}
use Rattle.meaning.proofs.Exact.{Fits, fresh-fits, front_fits, front_verdict-exact}
use Rattle.meaning.proofs.Calls.{Agrees, fresh_agrees, refusal_agrees, taken_agrees, not-refused-stamp}
use Rattle.reasons.specs.Reasons.{ReachedAt, lines_refusal}
use Rattle.reasons.proofs.Reached.{reached_empty, reached_same, reached_new, one-verdict}
use Rattle.property.specs.Meant.{meant}
use Rattle.property.specs.declared.Property.{Property}
use Rattle.matcher.proofs.Words.{set_back, start_short}
use Rattle.cuts.specs.Steps.{refusal_by, taken_by, told_by}
use Rattle.judged_rest.specs.Lent.{Lines, is_output, line_in}
use Rattle.judged_rest.specs.Judged.{Reasoning, Judged, waits, refused_by, told_then, judged_line, turned, judged}
use Rattle.judged_rest.proofs.Turns.{judged-stays}
use Rattle.first_order.specs.Search.{start}
use Rattle.judged_rest.specs.Judged
use Rattle.why.proofs.Left.{either_way}
use Rattle.why.proofs.Whole.{taken-lines, lines_snoc, taken_snoc}

abbrev pub says : ℕ → ℕ → Reasoning
says v line = record { refusal = 0; verdict = v; line = line }

-- the line behind which a verdict was told, one line on
abbrev pub line_then : ℕ → ℕ → ℕ → ℕ → ℕ
line_then v w line k = cond (eqb v w) line (suc k)

pub told_as : (v w line k : ℕ) → told_then (says v line) w k ≡ says w (line_then v w line k)
told_as v w line k = go (eqb v w) (eqb-true v w)
  where
    go : (b : Bool) → (b ≡ true → v ≡ w) → cond b (says v line) (says w (suc k)) ≡ says w (cond b line (suc k))
    go true e = ap (λ (x : ℕ). says x line) (e refl)
    go false e = refl

module _ (p : Property) where
  module _ (f : Front Lengths) (clock : Clock) (v line : ℕ) (l : Line) (k : ℕ) where
    abbrev c : Cuts Lengths
    c = open_cuts f clock

    abbrev then : Front Lengths
    then = front_with (meant p) (lengths (meant p)) f l

    abbrev w : ℕ
    w = verdict_number (front_verdict (meant p) (lengths (meant p)) then)

    -- a line that waits, taken into an open run
    pub line_taken : refusal_by p (open_cuts f clock) (Call.line l) ≡ 0
        → judged_line p l k (record { cuts = open_cuts f clock; told = says v line })
        ≡ record { cuts = open_cuts then (ticked clock l false); told = says w (line_then v w line k) }
    line_taken e =
        (λ i.
        record {
          cuts = unless_taken (refusal_by p c (Call.line l)) (taken_by p c (Call.line l)) c e i;
          told =
              let a : Calls.Answer =
              unless_taken (refusal_by p c (Call.line l)) (told_by p c (Call.line l)) (Calls.refused (refusal_by p c (Call.line l))) e i in
              Judged.told_by a.refusal (says v line) a.verdict k;
        })
        ∙ ap (λ (r : Reasoning). record { cuts = open_cuts then (ticked clock l false); told = r }) (told_as v w line k)

    -- and one that is not taken
    pub line_refused : (n : ℕ) → refusal_by p (open_cuts f clock) (Call.line l) ≡ suc n
        → (judged_line p l k (record { cuts = open_cuts f clock; told = says v line })).told ≡ refused_by (suc n)
    line_refused n e =
        ap (λ (a : Calls.Answer). Judged.told_by a.refusal (says v line) a.verdict k)
        (unless_kept (refusal_by p c (Call.line l)) (told_by p c (Call.line l)) (Calls.refused (refusal_by p c (Call.line l)))
        (λ z. let w : suc n ≡ 0 = sym e ∙ z in omega arith)
        ∙ ap Calls.refused e)

  module _ (good : property_refusal (meant p) ≡ 0) (ls : Lines) where
    abbrev R : Reading (meant p) (Breaks (meant p))
    R = lengths_reading (meant p) good

    abbrev run : ℕ → Run
    run k = first (line_in ls) k

    abbrev verdict : Front Lengths → Verdict
    verdict f = front_verdict (meant p) (lengths (meant p)) f

    pub record Taken (k : ℕ) : Type 0 where
      pub front : Front Lengths
      pub clock : Clock
      pub line : ℕ
      pub fit : Fits R clock.latest (run k) front
      pub agrees : Agrees R (open_watch (run k) clock) (open_cuts front clock)
      pub none : lines_refusal (meant p) fresh (run k) ≡ 0
      pub watch : taken-lines (meant p) fresh (run k) ≡ open_watch (run k) clock
      pub is : judged p ls start k ≡ record { cuts = open_cuts front clock; told = says (verdict_number (verdict front)) line }
      pub reached : ReachedAt (meant p) (run k) line
      pub within : line ≤ k

    pub data Sofar (k : ℕ) : Type 0 where
      all_of : Taken k → Sofar k
      stopped : (n : ℕ) → lines_refusal (meant p) fresh (run k) ≡ suc n → (judged p ls start k).told ≡ refused_by (suc n) → Sofar k

    run-next : (k : ℕ) → run (suc k) ≡ run k ++ line_in ls k ∷ []
    run-next k = first_snoc (line_in ls) k

    refusal-next : (k : ℕ) → lines_refusal (meant p) fresh (run (suc k))
        ≡ first_of (lines_refusal (meant p) fresh (run k)) (refusal (meant p) (taken-lines (meant p) fresh (run k)) (Call.line (line_in ls k)))
    refusal-next k = ap (lines_refusal (meant p) fresh) (run-next k) ∙ lines_snoc (meant p) fresh (run k) (line_in ls k)

    nothing_yet : Taken 0
    unfolding first lines_refusal taken-lines judged last_set
    nothing_yet =
        record {
          front = fresh_front (meant p) (lengths (meant p));
          clock = fresh_clock;
          line = 0;
          fit = fresh-fits R 0;
          agrees = fresh_agrees R;
          none = refl;
          watch = refl;
          is =
              ap
              (λ (s : Lengths).
              record {
                cuts = open_cuts (record { before = s; held = [] }) fresh_clock;
                told = says (verdict_number (front_verdict (meant p) (lengths (meant p)) (record { before = s; held = [] }))) 0;
              })
              (set_back p good at_start (start_short (meant p)));
          reached = reached_empty (meant p) good (verdict (fresh_front (meant p) (lengths (meant p)))) (front_verdict-exact R [] (fresh-fits R 0));
          within = omega arith;
        }

    -- the judgement goes on with line k
    goes_on : (k : ℕ) (j : Judged) → judged p ls start k ≡ j → j.told.refusal ≡ 0 → judged p ls start (suc k) ≡ judged_line p (line_in ls k) k j
    unfolding judged turned
    goes_on k j e z =
        ap (turned p start (is_output ls k) (line_in ls k) k) e
        ∙ unless_taken j.told.refusal (cond (waits start k (is_output ls k)) (judged_line p (line_in ls k) k j) j) j z
        ∙ ap (λ (b : Bool). cond b (judged_line p (line_in ls k) k j) j) (either_way (is_output ls k) (le-leb 0 k (omega arith)))

    stays_stopped : (k n : ℕ) → (judged p ls start k).told ≡ refused_by (suc n) → (judged p ls start (suc k)).told ≡ refused_by (suc n)
    stays_stopped k n e =
        ap (λ (j : Judged). j.told)
        (judged-stays p ls start k (λ z. let w : suc n ≡ 0 = sym (ap (λ (r : Reasoning). r.refusal) e) ∙ z in omega arith) (suc k) (omega arith))
        ∙ e

    module _ (k : ℕ) (t : Taken k) where
      abbrev l : Line
      l = line_in ls k

      abbrev here : Watch
      here = open_watch (run k) t.clock

      abbrev later : Clock
      later = ticked t.clock l false

      abbrev f' : Front Lengths
      f' = front_with (meant p) (lengths (meant p)) t.front l

      abbrev v : ℕ
      v = verdict_number (verdict t.front)

      abbrev v' : ℕ
      v' = verdict_number (verdict f')

      number : lines_refusal (meant p) fresh (run (suc k)) ≡ refusal (meant p) here (Call.line l)
      number =
          refusal-next k
          ∙ ap (λ (n : ℕ). first_of n (refusal (meant p) (taken-lines (meant p) fresh (run k)) (Call.line l))) t.none
          ∙ ap (λ (w : Watch). refusal (meant p) w (Call.line l)) t.watch

      by_cuts : refusal_by p (open_cuts t.front t.clock) (Call.line l) ≡ refusal (meant p) here (Call.line l)
      by_cuts = refusal_agrees R t.agrees (Call.line l)

      next-stopped : (n : ℕ) → refusal (meant p) here (Call.line l) ≡ suc n → Sofar (suc k)
      next-stopped n e =
          stopped n (number ∙ e)
          (ap (λ (j : Judged). j.told) (goes_on k _ t.is refl) ∙ line_refused t.front t.clock v t.line l k n (by_cuts ∙ e))

      module _ (e : refusal (meant p) here (Call.line l) ≡ 0) where
        in_order : t.clock.latest ≤ l.stamp
        in_order =
            not-refused-stamp t.clock l.stamp
            (first_of-none (stamp_refusal t.clock l.stamp) (none_first 2 (action_above l.action) e).1).0

        longer : Fits R l.stamp (run k ++ l ∷ []) f'
        longer = front_fits R t.clock.latest (run k) t.front t.fit l in_order

        within : t.line ≤ k
        within = t.within

        low : (b : Bool) → cond b t.line (suc k) ≤ suc k
        low true = omega (arith, within)
        low false = omega arith

        exact : IsVerdict (meant p) (run k) (verdict t.front)
        exact = front_verdict-exact R (run k) t.fit

        exact' : IsVerdict (meant p) (run k ++ l ∷ []) (verdict f')
        exact' = front_verdict-exact R (run k ++ l ∷ []) longer

        reach : (b : Bool) → (b ≡ true → v ≡ v') → (b ≡ false → v ≡ v' → ⊥) → ReachedAt (meant p) (run k ++ l ∷ []) (cond b t.line (suc k))
        reach true y n =
            reached_same (meant p) good (run k) l longer.rising t.line (omega (arith, within, length-first (line_in ls) k)) t.reached
            (subst (λ (u : Verdict). IsVerdict (meant p) (run k ++ l ∷ []) u)
            (sym
            (one-verdict (meant p) good (run k) t.fit.rising t.reached.verdict (verdict t.front) t.reached.whole exact
            ∙ same_number (verdict t.front) (verdict f') (y refl)))
            exact')
        reach false y n =
            subst (ReachedAt (meant p) (run k ++ l ∷ [])) (ap suc (length-first (line_in ls) k))
            (reached_new (meant p) good (run k) l longer.rising (verdict t.front) (verdict f') exact exact' (n refl))

        next-taken : Taken (suc k)
        next-taken =
            record {
              front = f';
              clock = later;
              line = line_then v v' t.line k;
              fit = subst (λ (r : Run). Fits R l.stamp r f') (sym (run-next k)) longer;
              agrees =
                  subst (λ (r : Run). Agrees R (open_watch r later) (open_cuts f' later)) (sym (run-next k)) (taken_agrees R t.agrees (Call.line l) e);
              none = number ∙ e;
              watch =
                  ap (taken-lines (meant p) fresh) (run-next k) ∙ taken_snoc (meant p) fresh (run k) l
                  ∙ ap (λ (w : Watch). taken (meant p) w (Call.line l)) t.watch
                  ∙ (λ i. open_watch (sym (run-next k) i) later);
              is = goes_on k _ t.is refl ∙ line_taken t.front t.clock v t.line l k (by_cuts ∙ e);
              reached =
                  subst (λ (r : Run). ReachedAt (meant p) r (line_then v v' t.line k)) (sym (run-next k))
                  (reach (eqb v v') (eqb-true v v') (eqb-false v v'));
              within = low (eqb v v');
            }

      next : (n : ℕ) → refusal (meant p) here (Call.line l) ≡ n → Sofar (suc k)
      next (suc n) e = next-stopped n e
      next zero e = all_of (next-taken e)

    pub sofar : (k : ℕ) → Sofar k
    sofar zero = all_of nothing_yet
    sofar (suc k) = on (sofar k)
      where
        on : Sofar k → Sofar (suc k)
        on (all_of t) = next k t _ refl
        on (stopped n e q) =
            stopped n
            (refusal-next k ∙ ap (λ (m : ℕ). first_of m (refusal (meant p) (taken-lines (meant p) fresh (run k)) (Call.line (line_in ls k)))) e)
            (stays_stopped k n q)
