-- The run that is kept is the one that is open: what a record does to both.
use Prim.Native.Nat.{ℕ, ◌+◌, ◌≤◌}
use mathlib.Core.Path.{◌≡◌, refl, sym, ap, subst, ◌∙◌}
use mathlib.Core.Bool.{Bool, true, false, cond}
use mathlib.Core.List.{List, [], ◌∷◌, ◌++◌, append-nil}
use native.Mathlib.Omega.{arith}
use Rattle.meaning.specs.Words.{Line, Run}
use Rattle.meaning.specs.Node.{Breaks}
use Rattle.meaning.specs.Numbers.{property_refusal}
use Rattle.meaning.specs.Calls.{Mark, Call, Watch, fresh, with_line, refusal, mark_at, taken, next}
use Rattle.meaning.specs.Matcher.{Lengths}
use Rattle.meaning.specs.Step.{Cuts}
use Rattle.meaning.proofs.Sets.{Reading}
use Rattle.meaning.proofs.Lengths.{lengths_reading}
use Rattle.meaning.proofs.Clocks.{by_time_each}
use Rattle.meaning.proofs.Refusals.{unless_taken, unless_kept}
use Rattle.meaning.proofs.Histories.{watched-last}
use Rattle.meaning.proofs.Calls.{Agrees, open_run, blind, grown_agrees, refusal_agrees}
use Rattle.property.specs.Meant.{meant}
use Rattle.property.specs.declared.Property.{Property}
use Rattle.trace_form.specs.ReadAs.{ReadAs}
use Rattle.cuts.specs.Steps.{refusal_by}
use Rattle.session_record.specs.declared.Session.{Session}
use Rattle.session_record.specs.Record.{blind_of, cuts_of}
use Rattle.session_record.specs.Step.{Answer, fresh_of, stepped_of, stepped_through}
use Rattle.session_record.specs.Lent.{Memory, record_in, Ready}
use Rattle.session_record.proofs.Ready.{ready-fits}
use Rattle.session_record.proofs.Steps.{answer-refusal, refusal-fits}
use Rattle.session_record.proofs.Grown.{grown-stands}
use Rattle.session_record.proofs.Running.{running_record}
use Rattle.one_record.specs.Takes.{Takes}
use Rattle.one_record.specs.Doing.{Doing}
use Rattle.open_run.specs.declared.Kept.{Kept}
use Rattle.open_run.specs.Kept.{Keeps, seen, Stands, calls_as, Goes}
use Rattle.open_run.proofs.Keeping.{with-count, keeps-none}
use Rattle.open_run.proofs.Reading.{TakenCall, took-call, ended-end, refused-call}

-- ---- one call more

through_last : (s : Session) (calls : List Call) (c : Call) → stepped_through s (calls ++ c ∷ []) ≡ (stepped_of (stepped_through s calls) c).session
unfolding stepped_through
through_last s [] c = refl
through_last s (d ∷ calls) c = through_last (stepped_of s d).session calls c

-- ---- what calls have come to, beside the session over cuts

not_both : {A : Type 0} → true ≡ false → A
not_both e = let z : ◌≡◌ {A = ℕ} 1 0 = ap (λ (t : Bool). cond t 1 0) e in let f : ⊥ = omega arith in absurd f

module _ (p : Property) (good : property_refusal (meant p) ≡ 0) where
  abbrev R : Reading (meant p) (Breaks (meant p))
  R = lengths_reading (meant p) good

  abbrev running : List Call → Session
  running calls = stepped_through (fresh_of p).session calls

  pub agrees : (calls : List Call) → Agrees R (seen p calls) (cuts_of (running calls))
  agrees calls =
      subst (Agrees R (seen p calls)) (sym (ap cuts_of (running_record p good calls) ∙ grown-stands p good calls)) (grown_agrees R calls)

  pub blind-same : {w : Watch} {c : Cuts Lengths} → Agrees R w c → c.clock.is_blind ≡ w.clock.is_blind
  blind-same (open_run run clock f fit few) = refl
  blind-same (blind clock) = refl

  none_open : {w : Watch} {c : Cuts Lengths} → Agrees R w c → w.clock.is_blind ≡ true → w.run ≡ []
  none_open (open_run run clock f fit few) e = not_both (sym e)
  none_open (blind clock) e = refl

  -- a line of the run that is open after it is its last, and while blind there was none
  last_line : {w : Watch} {c : Cuts Lengths} → Agrees R w c → (l : Line) → (with_line (meant p) w l).clock.is_blind ≡ false
      → (with_line (meant p) w l).run ≡ w.run ++ l ∷ []
  last_line {w} h l =
      by_time_each (meant p) w.clock l.stamp _ _ _ (λ (x : Watch). x.clock.is_blind ≡ false → x.run ≡ w.run ++ l ∷ [])
      (λ b far e. ap (λ (r : Run). r ++ l ∷ []) (sym (none_open h b)))
      (λ b far e. not_both e)
      (λ b e. refl)

-- ---- a record that is a call

module _ (m : Memory) (ready : Ready m) (c : Call) (after : Memory) (led : record_in after ≡ (stepped_of (record_in m) c).session) (k : Kept) where
  abbrev p : Property
  p = m.property

  abbrev s : Session
  s = record_in m

  abbrev number : ℕ
  number = (stepped_of s c).answer.refusal

  good : property_refusal (meant p) ≡ 0
  good = ready.ranged.formed

  module _ (calls : List Call) (h : Stands p calls s k) where
    session-next : record_in after ≡ stepped_through (fresh_of p).session (calls ++ c ∷ [])
    session-next = led ∙ ap (λ (x : Session). (stepped_of x c).session) h.session ∙ sym (through_last (fresh_of p).session calls c)

    -- the refusal is that of the rules
    refusal-same : number ≡ refusal (meant p) (seen p calls) c
    refusal-same =
        answer-refusal s c
        ∙ refusal-fits s c (ready-fits m ready)
        ∙ ap (λ (x : Session). refusal_by p (cuts_of x) c) h.session
        ∙ refusal_agrees (R p good) (agrees p good calls) c

    seen_next : seen p (calls ++ c ∷ []) ≡ next (meant p) (seen p calls) c
    seen_next = watched-last (meant p) fresh calls c

    seen-kept : (number ≡ 0 → ⊥) → seen p (calls ++ c ∷ []) ≡ seen p calls
    seen-kept some = seen_next ∙ unless_kept (refusal (meant p) (seen p calls) c) _ _ (λ z. some (refusal-same ∙ z))

    seen-taken : number ≡ 0 → seen p (calls ++ c ∷ []) ≡ taken (meant p) (seen p calls) c
    seen-taken none = seen_next ∙ unless_taken (refusal (meant p) (seen p calls) c) _ _ (sym refusal-same ∙ none)

    blind-next : after.status.clock.blind ≡ (seen p (calls ++ c ∷ [])).clock.is_blind
    blind-next = ap blind_of session-next ∙ blind-same p good (agrees p good (calls ++ c ∷ []))

    -- what stands behind it, by the run that is kept then
    standing : (k' : Kept) → Keeps (seen p (calls ++ c ∷ [])).run k' → Stands p (calls ++ c ∷ []) (record_in after) k'
    standing k' keeps = record { session = session-next; keeps = keeps }

    -- refused, nothing changes
    stands-refused : (number ≡ 0 → ⊥) → Stands p (calls ++ c ∷ []) (record_in after) k
    stands-refused some = standing k (subst (λ (x : Watch). Keeps x.run k) (sym (seen-kept some)) h.keeps)

    -- with no run open after it
    stands-closed : after.status.clock.blind ≡ true → Stands p (calls ++ c ∷ []) (record_in after) (with-count k 0)
    stands-closed closed =
        standing (with-count k 0)
        (subst (λ (r : Run). Keeps r (with-count k 0)) (sym (none_open p good (agrees p good (calls ++ c ∷ [])) (sym blind-next ∙ closed)))
        (keeps-none k h.keeps))

-- a gap mark that is taken
stands-marked : (m : Memory) (ready : Ready m) (g : Mark) (after : Memory) (led : record_in after ≡ (stepped_of (record_in m) (Call.mark g)).session) (k : Kept)
    (calls : List Call) → Stands m.property calls (record_in m) k → (stepped_of (record_in m) (Call.mark g)).answer.refusal ≡ 0
    → Stands m.property (calls ++ Call.mark g ∷ []) (record_in after) (with-count k 0)
stands-marked m ready g after led k calls h none =
    standing m ready (Call.mark g) after led k calls h (with-count k 0)
    (subst (λ (x : Watch). Keeps x.run (with-count k 0)) (sym (seen-taken m ready (Call.mark g) after led k calls h none)) (keeps-none k h.keeps))

-- a line that is taken, with a run open after it
stands-longer : (m : Memory) (ready : Ready m) (l : Line) (after : Memory) (led : record_in after ≡ (stepped_of (record_in m) (Call.line l)).session) (k : Kept)
    (calls : List Call) → Stands m.property calls (record_in m) k → (stepped_of (record_in m) (Call.line l)).answer.refusal ≡ 0
    → after.status.clock.blind ≡ false → (k' : Kept) → ((run : Run) → Keeps run k → Keeps (run ++ l ∷ []) k')
    → Stands m.property (calls ++ Call.line l ∷ []) (record_in after) k'
stands-longer m ready l after led k calls h none opened k' more =
    let q = m.property in
    let good : property_refusal (meant q) ≡ 0 = ready.ranged.formed in
    let e : seen q (calls ++ Call.line l ∷ []) ≡ with_line (meant q) (seen q calls) l = seen-taken m ready (Call.line l) after led k calls h none in
    let longer : (seen q (calls ++ Call.line l ∷ [])).run ≡ (seen q calls).run ++ l ∷ [] =
    ap (λ (x : Watch). x.run) e
    ∙ last_line q good (agrees q good calls) l
    (ap (λ (x : Watch). x.clock.is_blind) (sym e) ∙ sym (blind-next m ready (Call.line l) after led k calls h) ∙ opened) in
    standing m ready (Call.line l) after led k calls h k' (subst (λ (r : Run). Keeps r k') (sym longer) (more _ h.keeps))

-- ---- a record, by what it did

module _ (m : Memory) (ready : Ready m) (k : Kept) (after : Memory) where
  -- what is no call leaves the session as it was, and the run
  unmoved : (x : ReadAs) (d : Doing) → Takes m x d after → record_in after ≡ record_in m → calls_as x ≡ [] → Goes m k x d after k
  unmoved x d led same none =
      record {
        did_is = led.did;
        stands =
            λ calls h.
            subst (λ (cs : List Call). Stands m.property cs (record_in after) k) (sym (ap (λ (l : List Call). calls ++ l) none ∙ append-nil calls))
            (subst (λ (y : Session). Stands m.property calls y k) (sym same) h);
        ready = led.ready;
        few = omega arith;
      }

  pub refused_goes : (x : ReadAs) (n : ℕ) → Takes m x (Doing.refused n) after → Goes m k x (Doing.refused n) after k
  refused_goes (ReadAs.call c) n led =
      record {
        did_is = led.did;
        stands = λ calls h. stands-refused m ready c after led.session k calls h (refused-call (record_in m) c n led.did);
        ready = led.ready;
        few = omega arith;
      }
  refused_goes ReadAs.end n led = unmoved ReadAs.end (Doing.refused n) led led.session refl
  refused_goes (ReadAs.refused i) n led = unmoved (ReadAs.refused i) (Doing.refused n) led led.session refl

  pub ended_goes : (x : ReadAs) → Takes m x Doing.ended after → Goes m k x Doing.ended after k
  ended_goes x led =
      subst (λ (y : ReadAs). Takes m y Doing.ended after → Goes m k y Doing.ended after k) (sym (ended-end (record_in m) x led.did))
      (λ t. unmoved ReadAs.end Doing.ended t t.session refl) led

  -- a call that was taken, by what stands behind it
  taken_goes : (x : ReadAs) (c : Call) (a : Answer) (k' : Kept) → Takes m x (Doing.took c a) after → k'.count ≤ k.count + 1
      → (record_in after ≡ (stepped_of (record_in m) c).session → (stepped_of (record_in m) c).answer.refusal ≡ 0 → (calls : List Call)
      → Stands m.property calls (record_in m) k → Stands m.property (calls ++ c ∷ []) (record_in after) k')
      → Goes m k x (Doing.took c a) after k'
  taken_goes x c a k' led few stands =
      let t : TakenCall (record_in m) x c = took-call (record_in m) x c a led.did in
      subst (λ (y : ReadAs). Takes m y (Doing.took c a) after → Goes m k y (Doing.took c a) after k') (sym t.is)
      (λ u. record { did_is = u.did; stands = stands u.session t.taken; ready = u.ready; few = few }) led

  pub marked_goes : (x : ReadAs) (lost stamp : ℕ) (a : Answer) → Takes m x (Doing.took (mark_at lost stamp) a) after
      → Goes m k x (Doing.took (mark_at lost stamp) a) after (with-count k 0)
  marked_goes x lost stamp a led =
      taken_goes x (mark_at lost stamp) a (with-count k 0) led (omega arith)
      (λ same none calls h. stands-marked m ready (record { lost = lost; stamp = stamp }) after same k calls h none)

  pub closed_goes : (x : ReadAs) (c : Call) (a : Answer) → Takes m x (Doing.took c a) after → after.status.clock.blind ≡ true
      → Goes m k x (Doing.took c a) after (with-count k 0)
  closed_goes x c a led closed =
      taken_goes x c a (with-count k 0) led (omega arith) (λ same none calls h. stands-closed m ready c after same k calls h closed)

  pub line_goes : (x : ReadAs) (l : Line) (a : Answer) (k' : Kept) → Takes m x (Doing.took (Call.line l) a) after → after.status.clock.blind ≡ false
      → ((run : Run) → Keeps run k → Keeps (run ++ l ∷ []) k') → k'.count ≡ k.count + 1 → Goes m k x (Doing.took (Call.line l) a) after k'
  line_goes x l a k' led opened more counted =
      taken_goes x (Call.line l) a k' led (omega (arith, counted))
      (λ same none calls h. stands-longer m ready l after same k calls h none opened k' more)
