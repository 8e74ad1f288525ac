-- A walk on a record and on the rows of it: the same, but that a walk that takes nothing gives the record back as it was.
use Prim.Native.Nat.{ℕ, zero, suc}
use mathlib.Core.Path.{◌≡◌, refl, sym, ◌∙◌, ap}
use mathlib.Core.Bool.{false}
use mathlib.Core.List.{List}
use lib.ListN.{drop}
use Rattle.meaning.specs.Calls.{Call, unless_refused}
use Rattle.meaning.proofs.Refusals.{unless_taken, unless_kept}
use Rattle.record_form.specs.Record.{record_size, record_answer}
use Rattle.trace_form.specs.ReadAs.{ReadAs, read_as}
use Rattle.session_record.specs.declared.Session.{Session}
use Rattle.session_record.specs.Step.{Stepping}
use Rattle.session_record.specs.Record.{latest_of, out_of_range}
use Rattle.session_record.specs.Step.{refusal_of}
use Rattle.session_record.specs.Lent.{tidied}
use Rattle.session_record.proofs.Steps.{answer-refusal}
use Rattle.session_record.proofs.Ready.{tidied-refusal, tidied-taken}
use Rattle.walk.specs.Walk.{One, Walk, one_call, one_read, one_of, stopped, walked_by, walk_on, walk_answer, budget_of, walk_of}
use Rattle.walk.proofs.Going.{walk-taken}

module _ (s : Session) (fits : out_of_range s ≡ false) where
  -- The record as it was, where nothing is taken.
  abbrev kept : Walk → Walk
  kept w = unless_refused w.taken (stopped s w.stop w.read) w

  -- A record does the same to both.
  call_same : (c : Call) (n : ℕ) → refusal_of s c ≡ n → one_call (tidied s) c n ≡ one_call s c n
  unfolding one_call
  call_same c zero e = ap (λ (r : Stepping). One.took c r.session) (tidied-taken s fits c e)
  call_same c (suc n) e = refl

  pub one_same : (x : ReadAs) → one_read (tidied s) x ≡ one_read s x
  unfolding one_read
  one_same (ReadAs.call c) =
      ap (one_call (tidied s) c) (answer-refusal (tidied s) c ∙ tidied-refusal s fits c)
      ∙ call_same c (refusal_of s c) refl
      ∙ ap (one_call s c) (sym (answer-refusal s c))
  one_same ReadAs.end = refl
  one_same (ReadAs.refused n) = refl

  same_by : (o : One) (f : Session → Walk) → walked_by o s f ≡ kept (walked_by o (tidied s) f)
  unfolding walked_by
  same_by One.ended f = refl
  same_by (One.refused n) f = refl
  same_by (One.took c after) f = refl

  same-walk : (budget : ℕ) (bytes : List ℕ) → walk_on budget s bytes ≡ kept (walk_on budget (tidied s) bytes)
  unfolding walk_on
  same-walk zero bytes = refl
  same-walk (suc budget) bytes =
      let f : Session → Walk = λ after. walk_on budget after (drop record_size bytes) in
      same_by (one_of s bytes) f ∙ ap (λ (o : One). kept (walked_by o (tidied s) f)) (sym (one_same (read_as (record_answer bytes (latest_of s)))))

  -- So what a walk on the rows comes to is what the walk on the record answers.
  module _ (bytes : List ℕ) (budget : ℕ) (w : Walk) (e : walk_on (budget_of budget) (tidied s) bytes ≡ w) where
    comes_to : walk_answer bytes (kept w) ≡ walk_of s bytes budget
    comes_to =
        ap (λ (v : Walk). walk_answer bytes (kept v)) (sym e)
        ∙ ap (walk_answer bytes) (sym (same-walk (budget_of budget) bytes))
        ∙ sym (walk-taken s bytes budget fits)

    pub none-taken : w.taken ≡ 0 → walk_answer bytes (stopped s w.stop w.read) ≡ walk_of s bytes budget
    none-taken z = ap (walk_answer bytes) (sym (unless_taken w.taken _ _ z)) ∙ comes_to

    pub some-taken : (w.taken ≡ 0 → ⊥) → walk_answer bytes w ≡ walk_of s bytes budget
    some-taken h = ap (walk_answer bytes) (sym (unless_kept w.taken _ _ h)) ∙ comes_to
