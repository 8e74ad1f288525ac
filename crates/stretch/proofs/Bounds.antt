-- Every refusal is at most 10 and every verdict at most 3, so that the one number fits.
use Prim.Native.Nat.{ℕ, zero, suc, ◌+◌, ◌≤◌}
use mathlib.Core.Path.{◌≡◌, refl, sym, subst}
use mathlib.Core.Bool.{Bool, true, false, not, ◌&&◌}
use mathlib.Core.List.{List}
use native.Mathlib.Omega.{arith}
use lib.ListN.{length, drop}
use lib.Dec.{ltb, eqb}
use Rattle.meaning.specs.Node.{Verdict, verdict_number}
use Rattle.meaning.specs.Limits.{most_lost, last_stamp, most_open}
use Rattle.meaning.specs.Words.{Line}
use Rattle.meaning.specs.Words
use Rattle.meaning.specs.Numbers.{given, first_of, property_refusal, length_outside, bounds_outside, any_action_above, action_above}
use Rattle.meaning.specs.Calls.{Call, Clock, stamp_refusal}
use Rattle.property.specs.Meant.{meant}
use Rattle.property.specs.declared.Property.{Property}
use Rattle.property_form.specs.Read.{read, read_refusal, too_short, pad_broken, property_read, taken}
use Rattle.fields.specs.Fields.{field}
use Rattle.property_form.proofs.Answers.{refusal-read}
use Rattle.record_form.specs.Record.{RecordAnswer, record_answer, record_size, broken, stamp_above, fields_refusal}
use Rattle.record_form.specs.Record
use Rattle.trace_form.specs.ReadAs.{ReadAs, read_as}
use Rattle.record_form.proofs.Reading.{refusal_of as read_number}
use Rattle.trace_form.proofs.ReadAs.{refused-given}
use Rattle.cuts.specs.Steps.{fresh_by, verdict_by, refusal_by, taken_by}
use Rattle.session_record.specs.declared.Session.{Session}
use Rattle.session_record.specs.Record.{latest_of, blind_of, cuts_of, record_of, out_of_range}
use Rattle.session_record.specs.Step.{stepped_of, refusal_of, standing}
use Rattle.session_record.proofs.Steps.{answer-refusal}
use Rattle.walk.specs.Walk.{Stopping, Walk, One, one_call, one_read, one_of, walked_by, walk_on}
use Rattle.stretch.specs.Judge.{Judging, refused, by_stop, walked, trace_judged, by_property, judge_of}

first-le : (m x y : ℕ) → x ≤ m → y ≤ m → first_of x y ≤ m
first-le m zero y h k = k
first-le m (suc x) y h k = h

given-le : (m n : ℕ) (b : Bool) → n ≤ m → given n b ≤ m
given-le m n true h = h
given-le m n false h = omega arith

-- two and three refusals, each if it is given
two-le : (a b : ℕ) (x y : Bool) → a ≤ 10 → b ≤ 10 → first_of (given a x) (given b y) ≤ 10
two-le a b x y h k = first-le 10 (given a x) (given b y) (given-le 10 a x h) (given-le 10 b y k)

then_le : (a : ℕ) (x : Bool) (y : ℕ) → a ≤ 10 → y ≤ 10 → first_of (given a x) y ≤ 10
then_le a x y h k = first-le 10 (given a x) y (given-le 10 a x h) k

property-le : (p : Property) → property_refusal (meant p) ≤ 10
property-le p =
    let q : Words.Property = meant p in
    then_le 1 (length_outside (length q.sequence)) (first_of (given 2 (bounds_outside q.LB q.UB)) (given 3 (any_action_above q.sequence))) (omega arith)
    (two-le 2 3 (bounds_outside q.LB q.UB) (any_action_above q.sequence) (omega arith) (omega arith))

read-le : (s : List ℕ) → (read s).refusal ≤ 10
unfolding read_refusal
read-le s =
    subst (λ (n : ℕ). n ≤ 10) (sym (refusal-read s))
    (then_le 7 (too_short s) (first_of (given 8 (pad_broken s)) (property_refusal (meant (property_read s)))) (omega arith)
    (then_le 8 (pad_broken s) (property_refusal (meant (property_read s))) (omega arith) (property-le (property_read s))))

record_le : (s : List ℕ) (before : ℕ) → (record_answer s before).refusal ≤ 10
unfolding Record.read_refusal fields_refusal
record_le s before =
    subst (λ (n : ℕ). n ≤ 10) (sym (read_number s before))
    (then_le 7 (ltb (length s) record_size) (fields_refusal (field s 0 2) (field s 2 6) (field s 8 40) before) (omega arith)
    (two-le 8 4 (broken (field s 0 2) (field s 2 6) (not (eqb (field s 8 40) 0))) (stamp_above (before + field s 8 40) before) (omega arith) (omega arith)))

refusal-le : (s : Session) (c : Call) → refusal_of s c ≤ 10
unfolding refusal_of
refusal-le s c = then_le 10 (out_of_range s) (refusal_by s.property (cuts_of s) c) (omega arith) (step_le c)
  where
    stamp-le : (k : Clock) (t : ℕ) → stamp_refusal k t ≤ 10
    stamp-le k t = two-le 4 5 (ltb last_stamp t) (ltb t k.latest) (omega arith) (omega arith)

    room : Line → Bool
    room l = not (blind_of s) && ltb most_open (length (taken_by s.property (cuts_of s) (Call.line l)).front.held)

    step_le : (c : Call) → refusal_by s.property (cuts_of s) c ≤ 10
    step_le (Call.line l) =
        then_le 3 (action_above l.action) (first_of (stamp_refusal (cuts_of s).clock l.stamp) (given 6 (room l))) (omega arith)
        (first-le 10 (stamp_refusal (cuts_of s).clock l.stamp) (given 6 (room l)) (stamp-le (cuts_of s).clock l.stamp) (given-le 10 6 (room l) (omega arith)))
    step_le (Call.mark g) = then_le 3 (ltb most_lost g.lost) (stamp_refusal (cuts_of s).clock g.stamp) (omega arith) (stamp-le (cuts_of s).clock g.stamp)

stepped-le : (s : Session) (c : Call) → (stepped_of s c).answer.refusal ≤ 10
stepped-le s c = subst (λ (n : ℕ). n ≤ 10) (sym (answer-refusal s c)) (refusal-le s c)

-- of one record and of a walk
abbrev OneLe : One → Type 0
OneLe One.ended = Unit {0}
OneLe (One.refused n) = n ≤ 10
OneLe (One.took c after) = Unit {0}

abbrev StopLe : Stopping → Type 0
StopLe Stopping.at_budget = Unit {0}
StopLe Stopping.at_end = Unit {0}
StopLe (Stopping.at_refusal n) = n ≤ 10

one-le : (s : Session) (bytes : List ℕ) → OneLe (one_of s bytes)
one-le s bytes = go (read_as answer) (λ n e. subst (λ (m : ℕ). m ≤ 10) (refused-given answer n e).1 (record_le bytes (latest_of s)))
  where
    answer : RecordAnswer
    answer = record_answer bytes (latest_of s)

    call : (c : Call) (n : ℕ) → n ≤ 10 → OneLe (one_call s c n)
    call c zero h = unfold one_call in tt
    call c (suc n) h = unfold one_call in h

    go : (x : ReadAs) → ((n : ℕ) → x ≡ ReadAs.refused n → n ≤ 10) → OneLe (one_read s x)
    go (ReadAs.call c) h = unfold one_read in (call c _ (stepped-le s c))
    go ReadAs.end h = unfold one_read in tt
    go (ReadAs.refused n) h = unfold one_read in (h n refl)

walk-le : (budget : ℕ) (s : Session) (bytes : List ℕ) → StopLe (walk_on budget s bytes).stop
unfolding walk_on
walk-le zero s bytes = tt
walk-le (suc budget) s bytes = go (one_of s bytes) (one-le s bytes) (λ after. walk-le budget after (drop record_size bytes))
  where
    go : (o : One) → OneLe o → ((after : Session) → StopLe (walk_on budget after (drop record_size bytes)).stop)
        → StopLe (walked_by o s (λ after. walk_on budget after (drop record_size bytes))).stop
    go One.ended h k = unfold walked_by in tt
    go (One.refused n) h k = unfold walked_by in h
    go (One.took c after) h k = unfold walked_by in (k after)

verdict-le : (v : Verdict) → verdict_number v ≤ 3
verdict-le Verdict.clear = omega arith
verdict-le Verdict.suspect = omega arith
verdict-le Verdict.certain = omega arith
verdict-le Verdict.blind = omega arith

pub record Bounded (j : Judging) : Type 0 where
  pub refusal_small : j.refusal ≤ 10
  pub verdict_small : j.verdict ≤ 3

refused_small : (n : ℕ) → n ≤ 10 → Bounded (refused n)
refused_small n h = record { refusal_small = h; verdict_small = omega arith }

stop_small : (stop : Stopping) → StopLe stop → (behind : Bool) (w : Walk) → Bounded (by_stop stop behind w)
unfolding by_stop standing
stop_small Stopping.at_budget h behind w = refused_small 7 (omega arith)
stop_small (Stopping.at_refusal n) h behind w = refused_small n h
stop_small Stopping.at_end h true w = refused_small 8 (omega arith)
stop_small Stopping.at_end h false w =
    record {
      refusal_small = omega arith;
      verdict_small = verdict-le (verdict_by w.session.property (cuts_of w.session));
    }

pub judge_small : (property trace : List ℕ) → Bounded (judge_of property trace)
unfolding judge_of
judge_small property trace =
    go (read property).refusal (read-le property) (ltb (taken property) (length property)) (trace_judged p trace)
    (stop_small (walked p trace).stop (walk-le (length trace) (record_of p (fresh_by p)) trace) (ltb (walked p trace).read (length trace)) (walked p trace))
  where
    p : Property
    p = (read property).property

    go : (n : ℕ) → n ≤ 10 → (behind : Bool) (j : Judging) → Bounded j → Bounded (by_property n behind j)
    go zero h true j k = unfold by_property in (refused_small 8 (omega arith))
    go zero h false j k = unfold by_property in k
    go (suc n) h behind j k = unfold by_property in (refused_small (suc n) h)
