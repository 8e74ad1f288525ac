-- Records that say the same, wherever their rings start and whatever stands in places not in use, have the same answers, and taken the same
-- session after them.
use Prim.Native.Nat.{ℕ, zero, suc, ◌+◌, ◌≤◌, ◌<◌}
use mathlib.Core.Path.{◌≡◌, refl, sym, ◌∙◌, ap, ap₂}
use mathlib.Core.Bool.{Bool, true, false, cond, not, ◌&&◌, ◌||◌}
use mathlib.Core.List.{List}
use native.Mathlib.Omega.{arith}
use lib.ListN.{drop}
use lib.Dec.{eqb, ltb, eqb-suc-zero}
use borrow.Author.Tests.{le-ltb, ltb-true}
use Rattle.laws.specs.Places.{first, some_below}
use Rattle.laws.proofs.Places.{first-same}
use Rattle.laws.proofs.Below.{below_agree}
use Rattle.meaning.specs.Limits.{last_stamp, most_open}
use Rattle.meaning.specs.Numbers.{given, first_of, property_refusal}
use Rattle.meaning.specs.Calls.{Call}
use Rattle.meaning.specs.Matcher.{Lengths, some_to}
use Rattle.meaning.specs.Step.{Held}
use Rattle.meaning.proofs.Tests.{some_to_agree}
use Rattle.property.specs.Meant.{meant}
use Rattle.property.specs.declared.Property.{Property}
use Rattle.matcher.specs.declared.Cut.{Cut}
use Rattle.matcher.specs.Sets.{set_of, stray}
use Rattle.rows.specs.Rows.{last_place, place, word}
use Rattle.held.specs.Held.{line_at, stamps_fall}
use Rattle.cuts.specs.Steps.{front_none, refusal_by, taken_by, told_by}
use Rattle.cuts.specs.Fronts.{cut_at, held_at, front_of}
use Rattle.cuts.proofs.Sweeps.{cut_same, line_same, held_same}
use Rattle.session_record.specs.declared.Session.{Session}
use Rattle.session_record.specs.Step.{Answer}
use Rattle.session_record.specs.Step.{Stepping}
use Rattle.session_record.specs.Record.{rows_of, span_of, latest_of, blind_of, cuts_of, record_of, length_above, out_of_range}
use Rattle.session_record.specs.Step.{answer_of, refusal_of, stepped_of}
use Rattle.session_record.proofs.Steps.{step_refused, step_taken, answer-refusal}
use Rattle.record_form.specs.Record.{record_size, record_answer}
use Rattle.trace_form.specs.ReadAs.{ReadAs, read_as}
use Rattle.walk.specs.Walk.{Stopping, Walk, Walking, one_call, one_read, stopped, one_more, walked_by, walk_on, walk_answer, budget_of, walk_of}
use Rattle.demands.specs.Ring.{start_of, count_of, SaysSame}

module _ (s r : Session) (same : SaysSame s r) where
  abbrev s_word : ℕ → ℕ → ℕ
  s_word = word (rows_of s) (span_of s)

  abbrev r_word : ℕ → ℕ → ℕ
  r_word = word (rows_of r) (span_of r)

  -- what stands at each index in use
  stamp-same : (i : ℕ) → i < count_of s → s_word 0 i ≡ r_word 0 i
  unfolding word place
  stamp-same i h = same.stamps i h

  act_same : (i : ℕ) → i < count_of s → s_word 1 i ≡ r_word 1 i
  unfolding word place
  act_same i h = same.actions i h

  same_cut : blind_of s ≡ false → (i : ℕ) → i ≤ count_of s → cut_at (rows_of s) (span_of s) 0 i ≡ cut_at (rows_of r) (span_of r) 0 i
  unfolding word place
  same_cut b i h = cut_same _ _ _ _ (same.masks b i h) (same.armed b i h)

  -- They stand for one session over cuts,
  same_line : (i : ℕ) → i < count_of s → line_at (rows_of s) (span_of s) i ≡ line_at (rows_of r) (span_of r) i
  same_line i h = line_same _ _ _ _ (act_same i h) (stamp-same i h)

  front_same : blind_of s ≡ false → front_of (rows_of s) (span_of s) 0 ≡ front_of (rows_of r) (span_of r) 0
  front_same b =
      ap₂ (λ (x : Lengths) (l : List (Held Lengths)). record { before = x; held = l })
      (ap set_of (same_cut b 0 (omega arith)))
      (first-same (held_at (rows_of s) (span_of s) 0) (held_at (rows_of r) (span_of r) 0) (count_of s)
      (λ i h. held_same _ _ _ _ (same_line i h) (ap set_of (same_cut b (suc i) (omega arith))))
      ∙ ap (first (held_at (rows_of r) (span_of r) 0)) same.count)

  fronts : (b : Bool) → blind_of s ≡ b
      → cond b (front_none s.property) (front_of (rows_of s) (span_of s) 0) ≡ cond b (front_none r.property) (front_of (rows_of r) (span_of r) 0)
  fronts true e = ap front_none same.property
  fronts false e = front_same e

  pub same-cuts : cuts_of s ≡ cuts_of r
  same-cuts =
      (λ i.
      record {
        clock = record { latest = same.latest i; is_blind = blind_of s };
        front = fronts (blind_of s) refl i;
      })
      ∙ ap (λ (b : Bool). record { clock = record { latest = latest_of r; is_blind = b }; front = cond b (front_none r.property) (front_of (rows_of r) (span_of r) 0) }) same.blind

  -- and refusal 10 names both or neither.
  falls_same : stamps_fall (rows_of s) (span_of s) (latest_of s) ≡ stamps_fall (rows_of r) (span_of r) (latest_of r)
  falls_same =
      below_agree (count_of s) _ (λ i. ltb (cond (ltb (suc i) (count_of s)) (r_word 0 (suc i)) (latest_of r)) (r_word 0 i))
      (λ i h. ap₂ ltb (next i (ltb (suc i) (count_of s)) (ltb-true (suc i) (count_of s))) (stamp-same i h))
      ∙ ap (λ (n : ℕ). some_below n (λ i. ltb (cond (ltb (suc i) n) (r_word 0 (suc i)) (latest_of r)) (r_word 0 i))) same.count
    where
      next : (i : ℕ) (t : Bool) → (t ≡ true → suc i < count_of s) → cond t (s_word 0 (suc i)) (latest_of s) ≡ cond t (r_word 0 (suc i)) (latest_of r)
      next i true h = stamp-same (suc i) (h refl)
      next i false h = same.latest

  above_same : blind_of s ≡ false → length_above (rows_of s) (span_of s) s.property.n ≡ length_above (rows_of r) (span_of r) r.property.n
  above_same b =
      some_to_agree (count_of s) _ _ (λ i h. ap₂ (λ (p : Property) (c : Cut). stray p.n c) same.property (same_cut b i h))
      ∙ ap (λ (n : ℕ). some_to n (λ i. stray r.property.n (cut_at (rows_of r) (span_of r) 0 i))) same.count

  lengths-same : (b : Bool) → blind_of s ≡ b
      → not b && length_above (rows_of s) (span_of s) s.property.n ≡ not b && length_above (rows_of r) (span_of r) r.property.n
  lengths-same true e = refl
  lengths-same false e = above_same e

  long_same : not (blind_of s) && length_above (rows_of s) (span_of s) s.property.n ≡ not (blind_of r) && length_above (rows_of r) (span_of r) r.property.n
  long_same = lengths-same (blind_of s) refl ∙ ap (λ (b : Bool). not b && length_above (rows_of r) (span_of r) r.property.n) same.blind

  start-same : ltb last_place (start_of s) ≡ ltb last_place (start_of r)
  start-same = le-ltb last_place (start_of s) same.starts.0 ∙ sym (le-ltb last_place (start_of r) same.starts.1)

  pub same_named : out_of_range s ≡ out_of_range r
  unfolding out_of_range
  same_named = λ i.
      not (eqb (property_refusal (meant (same.property i))) 0)
      || start-same i
      || ltb most_open (same.count i)
      || falls_same i
      || same.blind i && ltb 0 (same.count i)
      || ltb last_stamp (same.latest i)
      || long_same i

  module _ (c : Call) where
    number : refusal_of s c ≡ refusal_of r c
    unfolding refusal_of
    number = λ i. first_of (given 10 (same_named i)) (refusal_by (same.property i) (same-cuts i) c)

    pub same_taken : refusal_of s c ≡ 0 → stepped_of s c ≡ stepped_of r c
    same_taken e =
        step_taken s c e
        ∙ (λ i. record { answer = answer_of (told_by (same.property i) (same-cuts i) c); session = record_of (same.property i) (taken_by (same.property i) (same-cuts i) c) })
        ∙ sym (step_taken r c (sym number ∙ e))

    pub same_answer : (stepped_of s c).answer ≡ (stepped_of r c).answer
    same_answer = go (refusal_of s c) refl
      where
        go : (n : ℕ) → refusal_of s c ≡ n → (stepped_of s c).answer ≡ (stepped_of r c).answer
        go zero e = ap (λ (x : Stepping). x.answer) (same_taken e)
        go (suc n) e =
            ap (λ (x : Stepping). x.answer) (step_refused s c (suc n) e (λ z. omega arith))
            ∙ sym (ap (λ (x : Stepping). x.answer) (step_refused r c (suc n) (sym number ∙ e) (λ z. omega arith)))

-- The same refusal 10, the same answer, and where it is taken the same session.
pub demand_ring : (s r : Session) → SaysSame s r
    → (out_of_range s ≡ out_of_range r)
    × ((c : Call) → ((stepped_of s c).answer ≡ (stepped_of r c).answer) × ((stepped_of s c).answer.refusal ≡ 0 → (stepped_of s c).session ≡ (stepped_of r c).session))
demand_ring s r same =
    (same_named s r same, λ c. (same_answer s r same c, λ e. ap (λ (x : Stepping). x.session) (same_taken s r same c (sym (answer-refusal s c) ∙ e))))

-- ---- a walk: what it comes to is the same, but that one which takes nothing gives back the record that it was given

abbrev given_back : Session → Walk → Walk
given_back s w = record { taken = w.taken; stop = w.stop; read = w.read; session = cond (eqb w.taken 0) s w.session }

took_back : (s : Session) (w : Walk) → one_more w ≡ given_back s (one_more w)
took_back s w =
    ap (λ (b : Bool). record { taken = suc w.taken; stop = w.stop; read = record_size + w.read; session = cond b s w.session })
    (sym (eqb-suc-zero w.taken))

module _ (s r : Session) (same : SaysSame s r) where
  walked_same : (c : Call) (more : Session → Walk) (n : ℕ) → (stepped_of s c).answer.refusal ≡ n → walked_by (one_call s c n) s more ≡ given_back s (walked_by (one_call r c n) r more)
  unfolding walked_by one_call
  walked_same c more zero e =
      ap (λ (x : Session). one_more (more x)) (((demand_ring s r same).1 c).1 e) ∙ took_back s (more (stepped_of r c).session)
  walked_same c more (suc n) e = refl

  read_same : (x : ReadAs) (more : Session → Walk) → walked_by (one_read s x) s more ≡ given_back s (walked_by (one_read r x) r more)
  unfolding walked_by one_read
  read_same (ReadAs.call c) more =
      walked_same c more (stepped_of s c).answer.refusal refl
      ∙ ap (λ (n : ℕ). given_back s (walked_by (one_call r c n) r more)) (ap (λ (a : Answer). a.refusal) ((demand_ring s r same).1 c).0)
  read_same ReadAs.end more = refl
  read_same (ReadAs.refused n) more = refl

  on_same : (budget : ℕ) (bytes : List ℕ) → walk_on budget s bytes ≡ given_back s (walk_on budget r bytes)
  unfolding walk_on
  on_same zero bytes = refl
  on_same (suc budget) bytes =
      read_same (read_as (record_answer bytes (latest_of s))) (λ after. walk_on budget after (drop record_size bytes))
      ∙ ap (λ (t : ℕ). given_back s (walked_by (one_read r (read_as (record_answer bytes t))) r (λ after. walk_on budget after (drop record_size bytes)))) same.latest

  whole_same : (b : Bool) (budget : ℕ) (bytes : List ℕ)
      → cond b (stopped s (Stopping.at_refusal 10) 0) (walk_on budget s bytes) ≡ given_back s (cond b (stopped r (Stopping.at_refusal 10) 0) (walk_on budget r bytes))
  whole_same true budget bytes = refl
  whole_same false budget bytes = on_same budget bytes

pub ring_walk : (s r : Session) → SaysSame s r → (bytes : List ℕ) (budget : ℕ)
    → let w : Walking = walk_of r bytes budget in
    walk_of s bytes budget
    ≡ record { taken = w.taken; stop = w.stop; refusal = w.refusal; read = w.read; lost = w.lost; session = cond (eqb w.taken 0) s w.session }
unfolding walk_of
ring_walk s r same bytes budget =
    ap (walk_answer bytes)
    (ap (λ (b : Bool). cond b (stopped s (Stopping.at_refusal 10) 0) (walk_on (budget_of budget) s bytes)) (demand_ring s r same).0
    ∙ whole_same s r same (out_of_range r) (budget_of budget) bytes)
