-- A name put behind the front of a line: what the record's call is listed as, with its name.
use Prim.Native.Nat.{ℕ, zero, suc, ◌≤◌}
use mathlib.Core.Path.{◌≡◌, refl, sym, ◌∙◌, ap, subst}
use mathlib.Core.Bool.{Bool, true, false, cond, true≢false}
use mathlib.Core.List.{List, [], ◌∷◌, ◌++◌, append_assoc}
use native.Mathlib.Omega.{arith}
use lib.ListN.{length, length-append}
use lib.Seq.{take-append_seam, drop-append_seam}
use Rattle.meaning.specs.Words.{Action}
use Rattle.meaning.specs.Calls.{Call, mark_at}
use Rattle.std.specs.Prelude.{Result, Ok, Err}
use Rattle.outcomes.specs.declared.Refusal.{Refusal}
use Rattle.record_form.specs.Record.{record_answer, read_case, IsRead}
use Rattle.trace_form.proofs.ReadAs.{read-case}
use Rattle.trace_form.specs.ReadAs.{ReadAs, case_as, read_as}
use Rattle.record_form.specs.declared.Record.{Record}
use Rattle.record_form.specs.declared.Record.TheVariants.{Input, Output, Gap, End}
use Rattle.session_record.specs.declared.Session.{Session}
use Rattle.session_record.specs.Record.{latest_of, count_of, out_of_range}
use Rattle.session_record.specs.Step.{standing, stepped_of}
use Rattle.walk.specs.Walk.{One, one_call, one_read, one_of}
use Rattle.line_text.specs.Text.{space, newline, decimal}
use Rattle.printout.specs.Text.{letter, word, line_text, stop_text}
use Rattle.printout.specs.Named.{front_text, back_text, shown_name, named_line_text}
use Rattle.names.proofs.Named.{name_short}
use Rattle.printed.specs.declared.Printed.{Printed}
use Rattle.printed.specs.Printed.{one_after, call_text, last_line, by_one, printed_by, printed_of}
use Rattle.named.specs.Named.{names_of, named_call_text, named_by_one}
use Rattle.named.specs.Insert.{kind_as, action_as, name_as, IsLine}
use Rattle.named_text.specs.Text.{inserted}

-- ---- a line is its front and its back

regrouped : (n k a t v o e : List ℕ) → n ++ k ++ a ++ t ++ v ++ o ++ e ≡ (n ++ k ++ a) ++ (t ++ v ++ o ++ e)
regrouped n k a t v o e = simp append_assoc

front_back : (number kind action stamp verdict open_count : ℕ)
    → line_text number kind action stamp verdict open_count ≡ front_text number kind action ++ back_text stamp verdict open_count
unfolding line_text front_text back_text
front_back number kind action stamp verdict open_count =
    regrouped (decimal number) (space ∷ letter kind ∷ []) (space ∷ decimal action) (space ∷ decimal stamp) (space ∷ word verdict) (space ∷ decimal open_count) (newline ∷ [])

pub inserted-line : (number kind action : ℕ) (name : List ℕ) (stamp verdict open_count : ℕ)
    → inserted (length (front_text number kind action)) name (line_text number kind action stamp verdict open_count)
    ≡ named_line_text number kind action name stamp verdict open_count
unfolding named_line_text
inserted-line number kind action name stamp verdict open_count =
    let f = front_text number kind action in
    let b = back_text stamp verdict open_count in
    ap (inserted (length f) name) (front_back number kind action stamp verdict open_count)
    ∙ (λ i. take-append_seam f b i ++ (space ∷ shown_name name) ++ drop-append_seam f b i)

pub front-inside : (number kind action stamp verdict open_count : ℕ) → length (front_text number kind action) ≤ length (line_text number kind action stamp verdict open_count)
front-inside number kind action stamp verdict open_count =
    omega (arith, ap length (front_back number kind action stamp verdict open_count), length-append (front_text number kind action) (back_text stamp verdict open_count))

-- ---- the call of a record, by what was read

abbrev call-or : Call → ReadAs → Call
call-or d (ReadAs.call c) = c
call-or d ReadAs.end = d
call-or d (ReadAs.refused n) = d

abbrev is_call : ReadAs → Bool
is_call (ReadAs.call c) = true
is_call ReadAs.end = false
is_call (ReadAs.refused n) = false

-- The line of a call, and the line with the name, by the record that was read.
pub record Shown (site release : List ℕ) (r : Record) (number : ℕ) (c : Call) (after : Session) : Type 0 where
  pub stamp : ℕ
  pub plain : call_text number c after ≡ line_text number (kind_as r) (action_as r) stamp (standing after) (count_of after)
  pub named : named_call_text (names_of site release) number c after
      ≡ named_line_text number (kind_as r) (action_as r) (name_as site release r) stamp (standing after) (count_of after)

shown-entry : (site release : List ℕ) (number : ℕ) (after : Session) (r : Record) (c : Call) → case_as (read_case (Ok r)) ≡ ReadAs.call c → Shown site release r number c after
shown-entry site release number after (Input a t) c e =
    subst (λ (x : Call). Shown site release (Input a t) number x after) (ap (call-or (mark_at 0 0)) e)
    (unfold call_text named_call_text kind_as action_as name_as in (record { stamp = t; plain = refl; named = refl }))
shown-entry site release number after (Output a t) c e =
    subst (λ (x : Call). Shown site release (Output a t) number x after) (ap (call-or (mark_at 0 0)) e)
    (unfold call_text named_call_text kind_as action_as name_as in (record { stamp = t; plain = refl; named = refl }))
shown-entry site release number after (Gap n t) c e =
    subst (λ (x : Call). Shown site release (Gap n t) number x after) (ap (call-or (mark_at 0 0)) e)
    (unfold call_text named_call_text kind_as action_as name_as in (record { stamp = t; plain = refl; named = refl }))
shown-entry site release number after (End t) c e = absurd (true≢false (sym (ap is_call e)))

-- ---- the line of a record, and its name

pub name_as_short : (site release : List ℕ) (r : Record) → length (name_as site release r) ≤ 40
unfolding name_as
name_as_short site release (Input a t) = name_short site release false a
name_as_short site release (Output a t) = name_short site release true a
name_as_short site release (Gap n t) = omega arith
name_as_short site release (End t) = omega arith

module _ (site release bytes : List ℕ) (before number : ℕ) (line : List ℕ) (l : IsLine bytes before number line) (r : Record) (h : IsRead bytes before (read_case (Ok r))) where
  abbrev front : List ℕ
  front = front_text number (kind_as r) (action_as r)

  entry : Shown site release r number l.call l.after
  entry = shown-entry site release number l.after r l.call (sym (read-case h) ∙ l.reads)

  abbrev plain : List ℕ
  plain = line_text number (kind_as r) (action_as r) entry.stamp (standing l.after) (count_of l.after)

  line_is : line ≡ plain
  line_is = l.text ∙ entry.plain

  pub front_fits : length front ≤ length line
  front_fits = omega (arith, ap length line_is, front-inside number (kind_as r) (action_as r) entry.stamp (standing l.after) (count_of l.after))

  pub with_its_name : inserted (length front) (name_as site release r) line ≡ named_call_text (names_of site release) number l.call l.after
  with_its_name =
      ap (inserted (length front) (name_as site release r)) line_is
      ∙ inserted-line number (kind_as r) (action_as r) (name_as site release r) entry.stamp (standing l.after) (count_of l.after)
      ∙ sym entry.named

-- the reader took the record of a line
pub line_taken : {bytes : List ℕ} {before number : ℕ} {line : List ℕ} → IsLine bytes before number line → {r : Result Record Refusal} {refusal : Refusal}
    → IsRead bytes before (read_case r) → r ≡ Err refusal → ⊥
line_taken l h e = true≢false (sym (ap is_call (ap (λ (x : Result Record Refusal). case_as (read_case x)) (sym e) ∙ sym (read-case h) ∙ l.reads)))

-- ---- what a record adds, with and without names

abbrev call_of-one : Call → One → Call
call_of-one d (One.took c after) = c
call_of-one d One.ended = d
call_of-one d (One.refused n) = d

abbrev is_taken : One → Bool
is_taken (One.took c after) = true
is_taken One.ended = false
is_taken (One.refused n) = false

-- what is taken as a call was read as that call
read_taken : (s : Session) (x : ReadAs) (c : Call) (after : Session) → one_read s x ≡ One.took c after → x ≡ ReadAs.call c
read_taken s (ReadAs.call d) c after e = go (stepped_of s d).answer.refusal (unfold one_read in e)
  where
    go : (n : ℕ) → one_call s d n ≡ One.took c after → ReadAs.call d ≡ ReadAs.call c
    go zero h = unfold one_call in (ap (λ (o : One). ReadAs.call (call_of-one d o)) h)
    go (suc n) h = absurd (unfold one_call in (true≢false (sym (ap is_taken h))))
read_taken s ReadAs.end c after e = absurd (unfold one_read in (true≢false (sym (ap is_taken e))))
read_taken s (ReadAs.refused n) c after e = absurd (unfold one_read in (true≢false (sym (ap is_taken e))))

-- The listing goes on: the record was taken as a call, and its line was added.
pub record Took (s : Session) (count : ℕ) (bytes : List ℕ) (r : Printed) : Type 0 where
  pub fits : out_of_range s ≡ false
  pub line : IsLine bytes (latest_of s) r.count r.text
  pub one : one_of s bytes ≡ One.took line.call line.after
  pub counted : r.count ≡ one_after count

module _ (s : Session) (count : ℕ) (bytes : List ℕ) where
  abbrev by : Bool → One → Printed
  by t o = cond t (last_line s count (stop_text count 10)) (by_one s count o)

  took_by : (o : One) → one_of s bytes ≡ o → out_of_range s ≡ false → (by_one s count o).more ≡ true → Took s count bytes (by_one s count o)
  unfolding by_one
  took_by One.ended e f h = absurd (true≢false (sym h))
  took_by (One.refused n) e f h = absurd (true≢false (sym h))
  took_by (One.took c after) e f h =
      record {
        fits = f;
        line = record { call = c; after = after; reads = read_taken s (read_as (record_answer bytes (latest_of s))) c after e; text = refl };
        one = e;
        counted = refl;
      }

  took_range : (t : Bool) → out_of_range s ≡ t → (by t (one_of s bytes)).more ≡ true → Took s count bytes (by t (one_of s bytes))
  took_range true e h = absurd (true≢false (sym h))
  took_range false e h = took_by (one_of s bytes) refl e h

  took-all : (printed_of s count bytes).more ≡ true → Took s count bytes (printed_of s count bytes)
  unfolding printed_by
  took-all h = took_range (out_of_range s) refl h

  pub took : (r : Printed) → r ≡ printed_of s count bytes → r.more ≡ true → Took s count bytes r
  took r e h = subst (Took s count bytes) (sym e) (took-all (ap (λ (x : Printed). x.more) (sym e) ∙ h))

  -- the last line is the same
  last_by : (names : Action → List ℕ) (o : One) → (by_one s count o).more ≡ false → (by_one s count o).text ≡ named_by_one names count o
  unfolding by_one named_by_one
  last_by names One.ended h = refl
  last_by names (One.refused n) h = refl
  last_by names (One.took c after) h = absurd (true≢false h)

  last_range : (names : Action → List ℕ) (t : Bool) → (by t (one_of s bytes)).more ≡ false → (by t (one_of s bytes)).text ≡ cond t (stop_text count 10) (named_by_one names count (one_of s bytes))
  last_range names true h = refl
  last_range names false h = last_by names (one_of s bytes) h

  last-all : (names : Action → List ℕ) → (printed_of s count bytes).more ≡ false
      → (printed_of s count bytes).text ≡ cond (out_of_range s) (stop_text count 10) (named_by_one names count (one_of s bytes))
  unfolding printed_by
  last-all names h = last_range names (out_of_range s) h

  pub last-same : (names : Action → List ℕ) (r : Printed) → r ≡ printed_of s count bytes → r.more ≡ false
      → r.text ≡ cond (out_of_range s) (stop_text count 10) (named_by_one names count (one_of s bytes))
  last-same names r e h = ap (λ (x : Printed). x.text) e ∙ last-all names (ap (λ (x : Printed). x.more) (sym e) ∙ h)

  pub took-same : (names : Action → List ℕ) (r : Printed) (k : Took s count bytes r)
      → named_call_text names r.count k.line.call k.line.after ≡ cond (out_of_range s) (stop_text count 10) (named_by_one names count (one_of s bytes))
  unfolding named_by_one
  took-same names r k =
      ap (λ (n : ℕ). named_call_text names n k.line.call k.line.after) k.counted
      ∙ (λ i. cond (sym k.fits i) (stop_text count 10) (named_by_one names count (sym k.one i)))
