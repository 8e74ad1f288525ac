-- What a record adds to the listing, by what it is read as and what it does to the session.
use Rattle.std.proofs.Common.{◌≡◌, ℕ, zero, suc, Bool, true, false, cond, List, sym, refl, ap, ◌∙◌}
use Rattle.meaning.specs.Calls.{Call}
use Rattle.record_form.specs.Record.{Reader, ReadBy, RecordRead, gap}
use Rattle.trace_form.specs.ReadAs.{ReadAs, read_as, case_as}
use Rattle.trace_form.proofs.ReadAs.{read-case}
use Rattle.session_record.specs.declared.Session.{Session}
use Rattle.session_record.specs.Step.{stepped_of}
use Rattle.session_record.specs.Record.{latest_of, out_of_range}
use Rattle.session_record.specs.Lent.{Memory, record_in}
use Rattle.one_record.specs.Doing.{Doing, by_answer, doing_of, session_after}
use Rattle.one_record.specs.Takes.{Takes}
use Rattle.walk.specs.Walk.{One, one_call, one_read}
use Rattle.walk.proofs.Dids.{refused_stays}
use Rattle.printout.specs.Text.{line_text, stop_text}
use Rattle.printed.specs.declared.Printed.{Printed}
use Rattle.printed.specs.declared.lent.Added.{Added}
use Rattle.printed.specs.Printed.{one_after, call_text, last_line, by_one, printed_by}
use Rattle.printed.specs.Lent.{answer_text, added_of, in_session, Adds}
use Rattle.printed.proofs.Standing.{AsAnswered, line-answered, AsBlind, mark-blind}

-- ---- refusal 10 first

module _ (reader : Reader) (s : Session) (count : ℕ) (bytes : List ℕ) where
  abbrev one : One
  one = one_read s (read_as (reader bytes (latest_of s)))

  abbrev by_range : Bool → Printed
  by_range t = cond t (last_line s count (stop_text count 10)) (by_one s count one)

  pub named : out_of_range s ≡ true → printed_by reader s count bytes ≡ last_line s count (stop_text count 10)
  unfolding printed_by
  named e = ap by_range e

  pub not_named : out_of_range s ≡ false → printed_by reader s count bytes ≡ by_one s count one
  unfolding printed_by
  not_named e = ap by_range e

-- what a record adds that the reader has read
pub read-adds : (reader : Reader) (m : Memory) (count : ℕ) (bytes : List ℕ) {read : RecordRead} {r : Added} {after : Memory} → out_of_range (record_in m) ≡ false
    → ReadBy reader bytes (latest_of (record_in m)) read → Adds m count (case_as read) r after → printed_by reader (record_in m) count bytes ≡ in_session r (record_in after)
read-adds reader m count bytes e h a =
    not_named reader (record_in m) count bytes e ∙ ap (λ (x : ReadAs). by_one (record_in m) count (one_read (record_in m) x)) (read-case h) ∙ a.listed

-- ---- a record

-- The line of a call that was taken shows what its answer told.
answer_shown : (s : Session) (number : ℕ) (c : Call) → (stepped_of s c).answer.refusal ≡ 0
    → answer_text number c (stepped_of s c).answer ≡ call_text number c (stepped_of s c).session
unfolding call_text
answer_shown s number (Call.line l) z =
    let stands : AsAnswered (stepped_of s (Call.line l)) = line-answered s l z in
    λ i. answer_text number (Call.line l) (record { refusal = 0; verdict = stands.verdict i; open_count = stands.counted i })
answer_shown s number (Call.mark g) z =
    let stands : AsBlind (stepped_of s (Call.mark g)).session = mark-blind s g z in
    λ i. line_text number gap g.lost g.stamp (stands.verdict i) (stands.counted i)

-- what a record adds, by what it stands for
call-listed : (s : Session) (count : ℕ) (c : Call) (n : ℕ) (after : Session) → (stepped_of s c).answer.refusal ≡ n → after ≡ (stepped_of s c).session
    → by_one s count (one_call s c n) ≡ in_session (added_of (by_answer c n (stepped_of s c).answer) count) after
unfolding one_call by_one by_answer
call-listed s count c zero after z same = λ i. record { text = sym (answer_shown s (one_after count) c z) i; session = sym same i; count = one_after count; more = true }
call-listed s count c (suc n) after z same = ap (λ (y : Session). last_line y count (stop_text count (suc n))) (sym (same ∙ refused_stays s c n z))

does-listed : (s : Session) (count : ℕ) (x : ReadAs) (after : Session) → after ≡ session_after s x
    → by_one s count (one_read s x) ≡ in_session (added_of (doing_of s x) count) after
unfolding one_read by_one
does-listed s count (ReadAs.call c) after same = call-listed s count c (stepped_of s c).answer.refusal after refl same
does-listed s count ReadAs.end after same = ap (in_session (added_of Doing.ended count)) (sym same)
does-listed s count (ReadAs.refused n) after same = ap (in_session (added_of (Doing.refused n) count)) (sym same)

-- what a record adds, by what it did
pub did-adds : {m next : Memory} {x : ReadAs} {d : Doing} {r : Added} (count : ℕ) → Takes m x d next → r ≡ added_of d count → Adds m count x r next
did-adds {m} {next} {x} count led is =
    record {
      listed = does-listed (record_in m) count x (record_in next) led.session ∙ ap (λ (y : Added). in_session y (record_in next)) (sym (is ∙ ap (λ (d : Doing). added_of d count) led.did));
      ready = led.ready;
    }
