-- The card's records of true stamps are read back as the lines that they are of, and whatever is read as lines is what the card sends for
-- them: only one packing of each trace is taken.
use Rattle.std.proofs.Common.{◌≡◌, ℕ, ◌+◌, ◌^◌, ◌<◌, ◌≤◌, Bool, false, not, eqb, List, [], ◌∷◌, ◌++◌, length, take, drop, sym, refl, ap, ◌∙◌, subst, ap₂, append-nil, arith, lit≤, length-append, take-append-drop, drop_at, eq-eqb, eqb-true}
use borrow.Author.Tests.{not-false}
use Rattle.meaning.specs.Limits.{last_stamp, last_action}
use Rattle.fields.specs.Fields.{field}
use Rattle.record_form.specs.Record.{Bytes, RecordAnswer, end, taken, answered, broken, stamp_above}
use Rattle.trace_form.specs.Trace.{Entry, kind_of, action_of, stamp_of, CanBeWritten}
use Rattle.record_form.proofs.Rules.{none_past, within, broken-none, broken-end}
use Rattle.record_form.proofs.Parts.{three_form, length_form_three, form-kind, form-action, form_third}
use Rattle.fields.proofs.Laws.{field_lt}
use Rattle.record_form.proofs.Reading.{unbroken}
use Rattle.record_form.proofs.RoundTrip.{write_none}
use Rattle.laws.proofs.Bytes.{Bytes-drop}
use Rattle.tap_form.specs.Tap.{counter_at, since, tap_stamp, tap_broken, tap_action, tap_fields_refusal, tap_answer, tap_form}
use Rattle.tap_form.specs.Card.{card_action, CardNumber, card_form, CardCanSay, TapTakenAs}
use Rattle.tap_form.proofs.Wrapped.{counter_lt, since_back, since-lt, since_true}
use Rattle.tap_form.proofs.Reading.{TapReadable, values, tap_numbers, tap_long, tap_fields, line-stamp, end-stamp, no_gap, gap-number, gap_counts, own_action}

length-tap_form : (kind action counter : ℕ) → length (tap_form kind action counter) ≡ 5
unfolding tap_form
length-tap_form kind action counter = length_form_three 32 kind action counter

-- ---- out
form-read : (kind action counter before : ℕ) (rest : List ℕ) → kind < 4 → action < 64 → counter < 2 ^ 32
    → tap_broken kind action (not (eqb counter 0)) ≡ false → stamp_above (tap_stamp kind counter before) before ≡ false
    → tap_answer (tap_form kind action counter ++ rest) before ≡ taken kind (tap_action kind action) (tap_stamp kind counter before)
unfolding tap_form tap_fields_refusal answered
form-read kind action counter before rest hk ha hc sound in_range =
    let k = form-kind 32 kind action counter rest hk in
    let a = form-action 32 kind action counter rest ha in
    let c = form_third 32 kind action counter rest hc in
    tap_long (tap_form kind action counter ++ rest) before (omega (arith, length-append (tap_form kind action counter) rest, length-tap_form kind action counter))
    ∙ (λ i. tap_numbers (k i) (a i) (c i) before)
    ∙ simp (sound, in_range)

line-kind : (e : Entry) → (kind_of e < 3) × ((other : Bool) → tap_broken (kind_of e) (card_action e) other ≡ false)
unfolding tap_broken broken
line-kind (Entry.input a t) = (lit≤ tt, (λ other. refl))
line-kind (Entry.output a t) = (lit≤ tt, (λ other. refl))
line-kind (Entry.gap n t) = (lit≤ tt, (λ other. refl))

-- a number that the card can say is read back from its action, and fits
number_read : (e : Entry) → CardNumber e → (tap_action (kind_of e) (card_action e) ≡ action_of e) × (card_action e < 64) × (action_of e ≤ last_action)
number_read (Entry.input a t) h = (refl, omega (arith, h), h)
number_read (Entry.output a t) h = (refl, omega (arith, h), h)
number_read (Entry.gap n t) h = (sym h, lit≤ tt, omega (arith, h))

entry_read : (e : Entry) (before : ℕ) (rest : List ℕ) → before ≤ last_stamp → before ≤ stamp_of e → stamp_of e < before + 2 ^ 32
    → stamp_of e ≤ last_stamp → CardNumber e
    → tap_answer (tap_form (kind_of e) (card_action e) (counter_at (stamp_of e)) ++ rest) before ≡ taken (kind_of e) (action_of e) (stamp_of e)
entry_read e before rest b l h t a =
    let k = line-kind e in
    let n = number_read e a in
    let same : tap_stamp (kind_of e) (counter_at (stamp_of e)) before ≡ stamp_of e =
    line-stamp (kind_of e) (counter_at (stamp_of e)) before k.0 ∙ since_true (stamp_of e) before l h in
    form-read (kind_of e) (card_action e) (counter_at (stamp_of e)) before rest (omega (arith, k.0)) n.1 (counter_lt (stamp_of e)) (k.1 _)
    (none_past _ _ (omega (arith, same, t)) b)
    ∙ ap₂ (taken (kind_of e)) n.0 same

end_read : (before : ℕ) (rest : List ℕ) → before ≤ last_stamp → tap_answer (tap_form end 0 0 ++ rest) before ≡ taken end 0 before
unfolding tap_broken broken
end_read before rest b =
    let same = end-stamp end 0 before refl in
    form-read end 0 0 before rest (lit≤ tt) (lit≤ tt) (lit≤ tt) refl (none_past _ _ (omega (arith, same, b)) b) ∙ ap (taken end 0) same

-- ---- back
module _ (s : List ℕ) (before kind action stamp : ℕ) (e : tap_answer s before ≡ taken kind action stamp) where
  there : TapReadable s before
  there = (tap_fields s before kind action stamp e).0

  same : values s before ≡ taken kind action stamp
  same = (tap_fields s before kind action stamp e).1

  is_kind : field s 0 2 ≡ kind
  is_kind = ap (λ (a : RecordAnswer). a.kind) same

  is_action : tap_action (field s 0 2) (field s 2 6) ≡ action
  is_action = ap (λ (a : RecordAnswer). a.action) same

  is_stamp : tap_stamp (field s 0 2) (field s 8 32) before ≡ stamp
  is_stamp = ap (λ (a : RecordAnswer). a.stamp) same

  own_number : (kind ≡ 2 → ⊥) → field s 2 6 ≡ action
  own_number n = sym (own_action (field s 0 2) (field s 2 6) (λ q. n (sym is_kind ∙ q))) ∙ is_action

  before-within : before ≤ last_stamp
  before-within = (within _ _ there.in_range).1

  read-form : Bytes s → (number counter : ℕ) → field s 2 6 ≡ number → field s 8 32 ≡ counter → take 5 s ≡ tap_form kind number counter
  unfolding tap_form
  read-form b number counter n c = sym (three_form 32 s b there.size (lit≤ tt)) ∙ rw (is_kind, n, c)

  module _ (line : kind < 3) where
    sum : before + since (field s 8 32) before ≡ stamp
    sum = sym (line-stamp (field s 0 2) (field s 8 32) before (omega (arith, is_kind, line))) ∙ is_stamp

    line-form : Bytes s → (number : ℕ) → field s 2 6 ≡ number → take 5 s ≡ tap_form kind number (counter_at stamp)
    line-form b number n = read-form b number (counter_at stamp) n (sym (since_back (field s 8 32) before (field_lt s 8 32)) ∙ ap counter_at sum)

    line_said : (before ≤ stamp) × (stamp < before + 2 ^ 32) × (stamp ≤ last_stamp)
    line_said = (
      omega (arith, sum),
      omega (arith, sum, since-lt (field s 8 32) before),
      omega (arith, (within _ _ there.in_range).0, is_stamp),
    )

  module _ (ends : kind ≡ 3) (none : action ≡ 0) where
    end-form : Bytes s → take 5 s ≡ tap_form end 0 0
    end-form b =
        let u = unbroken _ _ _ (sym (no_gap (field s 0 2) (field s 2 6) _ (λ q. omega (arith, is_kind, ends, q))) ∙ there.sound) in
        read-form b 0 0 (own_number (λ q. omega (arith, ends, q)) ∙ none) (eqb-true (field s 8 32) 0 (not-false _ (u.2 (is_kind ∙ ends)))) ∙ ap (λ (k : ℕ). tap_form k 0 0) ends

-- the action of an entry's record, and that its number is one that the card can say
entry-number : (s : List ℕ) (before : ℕ) (e : Entry) → tap_answer s before ≡ taken (kind_of e) (action_of e) (stamp_of e)
    → (field s 2 6 ≡ card_action e) × CardNumber e
entry-number s before (Entry.input a t) h = let n = own_number s before 0 a t h (λ q. omega arith) in (n, omega (arith, n, field_lt s 2 6))
entry-number s before (Entry.output a t) h = let n = own_number s before 1 a t h (λ q. omega arith) in (n, omega (arith, n, field_lt s 2 6))
entry-number s before (Entry.gap n t) h =
    let is_gap = is_kind s before 2 n t h in (
      gap-number (field s 0 2) (field s 2 6) _ is_gap (there s before 2 n t h).sound,
      sym (is_action s before 2 n t h) ∙ gap_counts (field s 0 2) (field s 2 6) is_gap,
    )

-- ---- whole traces

-- "prove it for whole traces": what the card sends for lines and marks that it can say is read back as exactly these.
pub card_reads_back : (before : ℕ) (trace : List Entry) → before ≤ last_stamp → CardCanSay before trace → TapTakenAs (card_form trace) before trace
unfolding card_form
card_reads_back before [] b can = (
  subst (λ (l : List ℕ). tap_answer l before ≡ taken end 0 before) (append-nil (tap_form end 0 0)) (end_read before [] b),
  subst (λ (l : List ℕ). drop 5 l ≡ []) (append-nil (tap_form end 0 0)) (drop_at (tap_form end 0 0) [] 5 (length-tap_form end 0 0)),
)
card_reads_back before (e ∷ trace) b can = (
  entry_read e before (card_form trace) b can.0 can.1 can.2 can.3,
  subst (λ (l : List ℕ). TapTakenAs l (stamp_of e) trace)
      (sym (drop_at (tap_form (kind_of e) (card_action e) (counter_at (stamp_of e))) (card_form trace) 5 (length-tap_form _ _ _)))
      (card_reads_back (stamp_of e) trace can.2 can.4),
)

-- Whatever is read as lines and marks is what the card sends for them, and it can say them.
pub card_writes_back : (s : List ℕ) (before : ℕ) (trace : List Entry) → Bytes s → TapTakenAs s before trace
    → (s ≡ card_form trace) × (before ≤ last_stamp) × CardCanSay before trace
unfolding card_form
card_writes_back s before [] b h = (
  sym (take-append-drop 5 s)
      ∙ ap₂ (λ (x y : List ℕ). x ++ y) (end-form s before end 0 before h.0 refl refl b) h.1
      ∙ append-nil (tap_form end 0 0),
  before-within s before end 0 before h.0,
  tt,
)
card_writes_back s before (e ∷ trace) b h =
    let k = (line-kind e).0 in
    let r = card_writes_back (drop 5 s) (stamp_of e) trace (Bytes-drop 5 s b) h.1 in
    let said = line_said s before (kind_of e) (action_of e) (stamp_of e) h.0 k in
    let n = entry-number s before e h.0 in (
      sym (take-append-drop 5 s) ∙ ap₂ (λ (x y : List ℕ). x ++ y) (line-form s before (kind_of e) (action_of e) (stamp_of e) h.0 k b (card_action e) n.0) r.0,
      before-within s before (kind_of e) (action_of e) (stamp_of e) h.0,
      (said.0, said.1, said.2, n.1, r.2),
    )

-- So two traces that are read as the same lines are the same bytes.
pub card_one_packing : (s t : List ℕ) (before : ℕ) (trace : List Entry) → Bytes s → Bytes t → TapTakenAs s before trace → TapTakenAs t before trace → s ≡ t
card_one_packing s t before trace bs bt hs ht =
    (card_writes_back s before trace bs hs).0 ∙ sym (card_writes_back t before trace bt ht).0

-- What the card can say document 01's writer writes.
pub card_can_be_written : (before : ℕ) (trace : List Entry) → before ≤ last_stamp → CardCanSay before trace → CanBeWritten before trace
card_can_be_written before [] b can =
    write_none (record {
      sound = broken-end end 0 _ refl ∙ ap not (eq-eqb before before refl);
      action_fits = lit≤ tt;
      in_range = none_past before before b b;
      not-below = omega arith;
      fits = lit≤ tt;
    })
card_can_be_written before (e ∷ trace) b can = (
  write_none (record {
    sound = broken-none (kind_of e) (action_of e) _ (line-kind e).0;
    action_fits = (number_read e can.3).2;
    in_range = none_past (stamp_of e) before can.2 b;
    not-below = can.0;
    fits = lit≤ tt;
  }),
  card_can_be_written (stamp_of e) trace can.2 can.4,
)
