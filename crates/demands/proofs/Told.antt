-- A verdict once told stays told (document 02, CR 3), of the calls that run: the numbers that calls answer, that a walk's records
-- leave and that a listing shows.
use Prim.Native.Nat.{ℕ, suc, ◌+◌, ◌*◌, ◌%◌, ◌^◌, ◌≤◌, ◌<◌}
use mathlib.Core.Path.{◌≡◌, refl, sym, ◌∙◌, ap, subst}
use mathlib.Core.Bool.{Bool, true, false}
use mathlib.Core.List.{List, [], ◌∷◌, ◌++◌}
use native.Mathlib.Omega.{arith}
use native.Mathlib.Nat.{le_trans}
use Rattle.meaning.specs.Words.{Line, StampsFrom}
use Rattle.meaning.specs.Words
use Rattle.meaning.specs.Node.{Verdict, verdict_number, VerdictFor, IsVerdict}
use Rattle.meaning.specs.Numbers.{property_refusal}
use Rattle.meaning.specs.Calls.{Mark, Call, fresh, watched, kept, Standing}
use Rattle.meaning.specs.Step.{lengths, grown, cuts_answer}
use Rattle.meaning.specs.History.{Event, fed, all_lines, Premises, highest, Quiet, NoMark, BreaksAfter}
use Rattle.meaning.proofs.Lengths.{lengths_reading}
use Rattle.meaning.proofs.Calls.{grown_agrees, answer_agrees}
use Rattle.meaning.proofs.Histories.{lines-append}
use Rattle.stays_told.specs.Stays.{SameRun}
use Rattle.stays_told.proofs.NeverFalls.{never_falls_after}
use Rattle.stays_told.proofs.Calls.{standing_stays, answers_stay, closed-not-above, mark_at-most, still_open, with_line_more}
use Rattle.property.specs.Meant.{meant}
use Rattle.property.specs.declared.Property.{Property}
use Rattle.record_form.specs.Record.{Reader}
use Rattle.trace_form.specs.Trace.{Entry, entry_call}
use Rattle.session_record.specs.declared.Session.{Session}
use Rattle.session_record.specs.Step.{standing, fresh_of, stepped_of, stepped_through}
use Rattle.session_record.proofs.Steps.{step_refused, answer-refusal}
use Rattle.session_record.proofs.Running.{running_answer}
use Rattle.demands.specs.Traces.{calls_of, TakenOneByOne}
use Rattle.demands.specs.Texts.{Row}
use Rattle.demands.specs.Listing.{Rows}
use Rattle.demands.specs.Told.{RecordTold, unless_gap, NotBelow, StayTold, told_by, walk_rows, told_rows}
use Rattle.demands.proofs.Running.{through_append, running, seen, running_number, running_next, running_range, seen-taken}
use Rattle.demands.proofs.Exact.{exact-kept, line-told, standing-told, says-blind}
use Rattle.demands.proofs.Walks.{walk-over}
use Rattle.demands.proofs.Listing.{Listed}

module _ (p : Property) (good : property_refusal (meant p) ≡ 0) where
  abbrev q : Words.Property
  q = meant p

  -- The verdict answered to a later line of the same run, or to the gap mark that closes it, is not below an earlier answer.
  pub told_stays : (calls : List Call) (l : Line) (more : List Call) (c : Call) → SameRun q (seen p good (calls ++ Call.line l ∷ [])) more
      → (stepped_of (running p good (calls ++ Call.line l ∷ more)) c).answer.refusal ≡ 0
      → (stepped_of (running p good calls) (Call.line l)).answer.verdict ≤ (stepped_of (running p good (calls ++ Call.line l ∷ more)) c).answer.verdict
  told_stays calls l more c s t =
      let R = lengths_reading q good in
      let later = calls ++ Call.line l ∷ more in
      let a = cuts_answer q (lengths q) (grown q calls) (Call.line l) in
      let b = cuts_answer q (lengths q) (grown q later) c in
      let h : a.verdict ≤ b.verdict =
      answers_stay q good calls l more c s (sym (running_number p good later c) ∙ t) a b (answer_agrees R (grown_agrees R calls) (Call.line l)) (answer_agrees R (grown_agrees R later) c) in
      omega (arith, h, ap (λ x. x.verdict) (running_answer p good calls (Call.line l)), ap (λ x. x.verdict) (running_answer p good later c))

  -- The verdict that a gap mark answers is not above the one that the run, followed by the lost lines, would have had.
  pub closed_stays : (calls : List Call) (logged behind : List Event) → kept q fresh calls ≡ fed logged → Premises (logged ++ behind)
      → (seen p good calls).clock.is_blind ≡ false → (g : Mark) (w : Verdict) → IsVerdict q ((seen p good calls).run ++ all_lines behind) w
      → (stepped_of (running p good calls) (Call.mark g)).answer.verdict ≤ verdict_number w
  closed_stays calls logged behind e premises is_open g w h =
      let R = lengths_reading q good in
      let a = cuts_answer q (lengths q) (grown q calls) (Call.mark g) in
      let k : a.verdict ≤ verdict_number w =
      closed-not-above q good calls logged behind e premises is_open g a (answer_agrees R (grown_agrees R calls) (Call.mark g)) w h in
      omega (arith, k, ap (λ x. x.verdict) (running_answer p good calls (Call.mark g)))

  -- Nor is it above the exact one over the full history, lost lines counted, for the breaches of demand 3: those that begin with the run's
  -- first line or one logged after it. The premises hold up to the run's last line, and with what was logged behind it.
  module _ (calls : List Call) (earlier : List Event) (g : Mark) (between : List Event) (quiet : Quiet q (highest 0 (fed earlier ++ Call.mark g ∷ [])) (fed between)) where
    pub closed_history : (first : Line) (later behind : List Event) → kept q fresh calls ≡ fed ((earlier ++ Event.mark g ∷ between) ++ Event.line first ∷ later)
        → Premises ((earlier ++ Event.mark g ∷ between) ++ Event.line first ∷ later)
        → Premises (((earlier ++ Event.mark g ∷ between) ++ Event.line first ∷ later) ++ behind)
        → highest 0 (fed (earlier ++ Event.mark g ∷ between)) + 2 * q.UB < first.stamp
        → NoMark (fed later)
        → (h : Mark) (w : Verdict)
        → VerdictFor (BreaksAfter q (all_lines (earlier ++ Event.mark g ∷ between))) q (all_lines (((earlier ++ Event.mark g ∷ between) ++ Event.line first ∷ later) ++ behind)) w
        → (stepped_of (running p good calls) (Call.mark h)).answer.verdict ≤ verdict_number w
    closed_history first later behind e premises whole far no_mark h w hw =
        let R = lengths_reading q good in
        let before : List Event = earlier ++ Event.mark g ∷ between in
        let history : List Event = before ++ Event.line first ∷ later in
        let joined = lines-append history behind in
        let a = cuts_answer q (lengths q) (grown q calls) (Call.mark h) in
        let k : a.verdict ≤ verdict_number w =
        mark_at-most q (seen p good calls) h a (verdict_number w) (answer_agrees R (grown_agrees R calls) (Call.mark h))
        (λ v stands.
        never_falls_after q R.bounds.least R.bounds.order (all_lines before) (all_lines history) (all_lines behind) (subst (StampsFrom 0) joined whole.never_fall) v w
        (exact-kept q good calls earlier g between quiet first later e premises far no_mark v stands)
        (subst (λ (r : List Line). VerdictFor (BreaksAfter q (all_lines before)) q r w) joined hw)) in
        omega (arith, k, ap (λ x. x.verdict) (running_answer p good calls (Call.mark h)))

  -- "A refused call in between changes nothing."
  pub refused_stays : (calls : List Call) (c : Call) (more : List Call) (n : ℕ) → (stepped_of (running p good calls) c).answer.refusal ≡ suc n
      → running p good (calls ++ c ∷ more) ≡ running p good (calls ++ more)
  unfolding stepped_through
  refused_stays calls c more n e =
      let s : Session = (fresh_of p).session in
      through_append s calls (c ∷ more)
      ∙ ap (λ x. stepped_through x.session more) (step_refused (running p good calls) c (suc n) (sym (answer-refusal (running p good calls) c) ∙ e) (λ z. omega arith))
      ∙ sym (through_append s calls more)

  -- The verdict answered to a line that is taken is the one standing on the session after it.
  pub line-stands : (calls : List Call) (l : Line) → (stepped_of (running p good calls) (Call.line l)).answer.refusal ≡ 0
      → (stepped_of (running p good calls) (Call.line l)).answer.verdict ≡ standing (stepped_of (running p good calls) (Call.line l)).session
  line-stands calls l e =
      let t = line-told p good calls l (sym (running_number p good calls (Call.line l)) ∙ e) in
      let v = standing-told p good (calls ++ Call.line l ∷ []) in
      t.2 ∙ ap verdict_number (v.3 t.0 t.1) ∙ sym v.2 ∙ ap standing (running_next p good calls (Call.line l))

  -- The verdict standing on the session after more calls of the same run is not below the one that stood before them.
  pub session_stays : (calls more : List Call) → SameRun q (seen p good calls) more → standing (running p good calls) ≤ standing (running p good (calls ++ more))
  session_stays calls more s =
      let a = standing-told p good calls in
      let b = standing-told p good (calls ++ more) in
      omega (arith, standing_stays q good calls more s a.0 b.0 a.1 b.1, a.2, b.2)

  -- ---- rows

  -- the verdict of each row stands after its record
  abbrev Stands : List Call → List RecordTold → Type 0
  Stands before [] = Unit {0}
  Stands before (r ∷ rows) =
      (v : Verdict) × Standing q (watched q fresh (before ++ entry_call r.entry ∷ [])) v × (r.verdict ≡ verdict_number v)
      × Stands (before ++ entry_call r.entry ∷ []) rows

  not-below : (calls : List Call) (n : ℕ) (v : Verdict) → Standing q (watched q fresh calls) v → (watched q fresh calls).clock.is_blind ≡ false
      → n ≤ verdict_number v → (rows : List RecordTold) → Stands calls rows → NotBelow n rows
  unfolding NotBelow
  not-below calls n v h o le [] st = tt
  not-below calls n v h o le (r ∷ rows) st = by r.entry st (λ l w k a m s. not-below (calls ++ Call.line l ∷ []) n w k a m rows s)
    where
      On : Type 0
      On = (l : Line) (w : Verdict) → Standing q (watched q fresh (calls ++ Call.line l ∷ [])) w
          → (watched q fresh (calls ++ Call.line l ∷ [])).clock.is_blind ≡ false
          → n ≤ verdict_number w → Stands (calls ++ Call.line l ∷ []) rows → NotBelow n rows

      on_line : (l : Line) → (w : Verdict) × Standing q (watched q fresh (calls ++ Call.line l ∷ [])) w × (r.verdict ≡ verdict_number w) × Stands (calls ++ Call.line l ∷ []) rows
          → On → (n ≤ r.verdict) × NotBelow n rows
      on_line l st on =
          let same = with_line_more q (watched q fresh calls) l o in
          let up : n ≤ verdict_number st.0 = le_trans le (standing_stays q good calls (Call.line l ∷ []) same v st.0 h st.1) in
          (omega (arith, up, st.2), on l st.0 st.1 (still_open q calls (Call.line l ∷ []) same) up st.3)

      by : (e : Entry) → (w : Verdict) × Standing q (watched q fresh (calls ++ entry_call e ∷ [])) w × (r.verdict ≡ verdict_number w) × Stands (calls ++ entry_call e ∷ []) rows
          → On → unless_gap e ((n ≤ r.verdict) × NotBelow n rows)
      by (Entry.input k t) st on = on_line _ st on
      by (Entry.output k t) st on = on_line _ st on
      by (Entry.gap k t) st on = tt

  was_open : (calls : List Call) (v : Verdict) → Standing q (watched q fresh calls) v → verdict_number v < 3
      → (watched q fresh calls).clock.is_blind ≡ false
  was_open calls v h small = by (watched q fresh calls).clock.is_blind refl
    where
      by : (b : Bool) → (watched q fresh calls).clock.is_blind ≡ b → (watched q fresh calls).clock.is_blind ≡ false
      by false e = e
      by true e = absurd (omega (arith, says-blind p good (watched q fresh calls) v e h, small))

  rows_stay : (calls : List Call) (n : ℕ) (v : Verdict) → Standing q (watched q fresh calls) v → n ≡ verdict_number v
      → (rows : List RecordTold) → Stands calls rows → StayTold n rows
  unfolding StayTold
  rows_stay calls n v h e [] st = tt
  rows_stay calls n v h e (r ∷ rows) st = (
    λ small. not-below calls n v h (was_open calls v h (omega (arith, e, small))) (omega (arith, e)) (r ∷ rows) st,
    rows_stay (calls ++ entry_call r.entry ∷ []) r.verdict st.0 st.1 st.2 rows st.3,
  )

  -- from the verdict standing on the session
  rows_from : (calls : List Call) (rows : List RecordTold) → Stands calls rows → StayTold (standing (running p good calls)) rows
  rows_from calls rows st = let v = standing-told p good calls in rows_stay calls (standing (running p good calls)) v.0 v.1 v.2 rows st

  -- what a record tells is the verdict standing after it
  told-stands : (calls : List Call) (e : Entry) → (stepped_of (running p good calls) (entry_call e)).answer.refusal ≡ 0
      → told_by (running p good calls) e ≡ standing (stepped_of (running p good calls) (entry_call e)).session
  told-stands calls (Entry.input k t) z = line-stands calls _ z
  told-stands calls (Entry.output k t) z = line-stands calls _ z
  told-stands calls (Entry.gap k t) z =
      let c : Call = entry_call (Entry.gap k t) in
      let v = standing-told p good (calls ++ c ∷ []) in
      let blind : (seen p good (calls ++ c ∷ [])).clock.is_blind ≡ true =
      ap (λ x. x.clock.is_blind) (seen-taken p good calls c (sym (running_number p good calls c) ∙ z)) in
      sym (says-blind p good (seen p good (calls ++ c ∷ [])) v.0 blind v.1) ∙ sym v.2 ∙ ap standing (running_next p good calls c)

  walk-stands : (calls : List Call) (entries : List Entry) → TakenOneByOne (running p good calls) (calls_of entries) → Stands calls (walk_rows (running p good calls) entries)
  unfolding walk_rows
  walk-stands calls [] each = tt
  walk-stands calls (e ∷ entries) each =
      let v = standing-told p good (calls ++ entry_call e ∷ []) in
      let same : running p good (calls ++ entry_call e ∷ []) ≡ (stepped_of (running p good calls) (entry_call e)).session = running_next p good calls (entry_call e) in (
        v.0,
        v.1,
        told-stands calls e each.0 ∙ ap standing (sym same) ∙ v.2,
        subst (λ (s : Session). Stands (calls ++ entry_call e ∷ []) (walk_rows s entries)) same
            (walk-stands (calls ++ entry_call e ∷ []) entries (subst (λ (s : Session). TakenOneByOne s (calls_of entries)) (sym same) each.1)),
      )

  -- What a walk's records tell, one after the other, does not fall within a run, from the verdict that stood before it;
  pub walk_stays : (calls : List Call) (bytes : List ℕ) (budget : ℕ)
      → StayTold (standing (running p good calls)) (walk_rows (running p good calls) (walk-over (running p good calls) bytes budget (running_range p good calls)).entries)
  walk_stays calls bytes budget = rows_from calls _ (walk-stands calls _ (walk-over (running p good calls) bytes budget (running_range p good calls)).each)

  rows_stand : (before : List Call) (number : ℕ) (entries : List Entry) (rows : List Row) → Rows q before number entries rows → Stands before (told_rows rows)
  rows_stand before number [] rows h = subst (λ (r : List Row). Stands before (told_rows r)) (sym h) tt
  rows_stand before number (e ∷ entries) rows h =
      subst (λ (r : List Row). Stands before (told_rows r)) (sym h.3)
      (h.0, h.2, refl, rows_stand (before ++ entry_call e ∷ []) ((number + 1) % 2 ^ 64) entries h.1 h.4)

  -- nor does what a listing shows.
  pub listing_stays : {size : ℕ} {reader : Reader} {before : List Call} {number : ℕ} {bytes : List ℕ} (r : Listed p good size reader before number bytes)
      → StayTold (standing (running p good before)) (told_rows r.rows)
  listing_stays {before} {number} r = rows_from before (told_rows r.rows) (rows_stand before number r.entries r.rows r.are_rows)
