-- The judgement's loop on lent memory: where it starts, and a turn of it.
use Rattle.std.specs.Prelude.{Err}
use Prim.Native.Nat.{ℕ, zero, suc, ◌+◌, ◌≤◌, ◌<◌}
use mathlib.Core.Path.{◌≡◌, refl, sym, ap, ◌∙◌, subst}
use mathlib.Core.Bool.{Bool, true, false, true≢false, cond}
use mathlib.Core.List.{List}
use native.Mathlib.Omega.{arith}
use lib.Dec.{eqb}
use lib.ListN.{length}
use borrow.Author.Tests.{eqb-true, eqb-false}
use Rattle.meaning.specs.Numbers.{property_refusal}
use Rattle.meaning.specs.Node.{verdict_number}
use Rattle.meaning.specs.Calls.{fresh_clock}
use Rattle.meaning.proofs.Lists.{done}
use Rattle.meaning.proofs.InOrder.{ended}
use Rattle.meaning.proofs.Refusals.{unless_kept}
use Rattle.outcomes.specs.declared.Refusal.{Refusal}
use Rattle.outcomes.proofs.Same.{refusal_not_0}
use Rattle.property.specs.Meant.{meant}
use Rattle.property.specs.declared.Property.{Property}
use Rattle.matcher.specs.declared.Cut.{Cut}
use Rattle.matcher.specs.Sets.{set_of, Fits, set_verdict}
use Rattle.matcher.proofs.Words.{fits_short}
use Rattle.rows.specs.declared.Span.{Span}
use Rattle.rows.specs.Rows.{none, Room}
use Rattle.clock.specs.declared.Clock.{Clock}
use Rattle.clock.specs.Time.{clock_of, stored_clock}
use Rattle.cuts.specs.Steps.{front_none}
use Rattle.cuts.specs.Fronts.{with_cut, Holds}
use Rattle.cuts.proofs.Lines.{holds-one}
use Rattle.session_record.specs.Lent.{Memory, memory, held_in, Ready}
use Rattle.session_record.proofs.Fit.{Fit}
use Rattle.session_record.proofs.Ready.{open_ready}
use Rattle.judged_rest.specs.declared.Reached.{Reached}
use Rattle.judged_rest.specs.Lent.{Lines, is_output, line_in}
use Rattle.judged_rest.specs.Judged.{Reasoning, Judged, reason_in, waits, Turned, begun, judged_line, judged, turned}

-- rows with the one cut, at the fresh clock
module _ (p : Property) (good : property_refusal (meant p) ≡ 0) (c : Cut) (fits : Fits p c) (rows after : List (List ℕ)) (span : Span) (clock : Clock)
    (room : Room rows span) (there : 3 < length rows) (spans : span ≡ none) (clocks : clock ≡ stored_clock fresh_clock)
    (puts : after ≡ with_cut rows span 0 0 c) where
  abbrev one : Memory
  one = memory p after (record { span = span; clock = clock })

  holds : Holds p (begun p c).cuts.front after span 0
  holds =
      subst (λ (x : List (List ℕ)). Holds p (begun p c).cuts.front x span 0) (sym puts)
      (holds-one p rows span 0 c good room there (ap (λ (s : Span). s.count) spans) fits)

  one-cuts : held_in one ≡ (begun p c).cuts
  one-cuts = λ i. record { clock = clock_of (clocks i); front = cond (clocks i).blind (front_none p) (holds.front i) }

  begun_fit : Fit p (begun p c).cuts
  begun_fit =
      record {
        few = omega arith;
        order = ended {t = 0} {e = 0} (omega arith);
        short = record { before = fits_short p good c fits; held = done };
        limit = omega arith;
        none_blind = λ b. absurd (true≢false (sym b));
      }

  -- the judgement has begun, and a line can start
  pub judged-start : (ls : Lines) (from : Reached) → from.cut ≡ c → (v : ℕ) → v ≡ verdict_number (set_verdict p (set_of c))
      → (record { cuts = held_in one; told = record { refusal = 0; verdict = v; line = 0 } } ≡ judged p ls from 0) × Ready one
  unfolding judged
  judged-start ls from e v q = (
    (λ i. record { cuts = one-cuts i; told = record { refusal = 0; verdict = q i; line = 0 } }) ∙ ap (begun p) (sym e),
    open_ready one holds.usable (ap (λ (k : Clock). k.blind) clocks) (subst (Fit p) (sym one-cuts) begun_fit),
  )

-- a turn goes on with it,
pub judged-next : (p : Property) (ls : Lines) (from : Reached) (k : ℕ) (m : Memory) (before : Reasoning) (after : Memory) (told : Reasoning)
    → m.property ≡ p
    → record { cuts = held_in m; told = before } ≡ judged p ls from k
    → Turned from (is_output ls k) (line_in ls k) k m before after told
    → record { cuts = held_in after; told = told } ≡ judged p ls from (k + 1)
unfolding judged
judged-next p ls from k m before after told own e t =
    sym t.goes
    ∙ ap (λ (q : Property). turned q from (is_output ls k) (line_in ls k) k (record { cuts = held_in m; told = before })) own
    ∙ ap (turned p from (is_output ls k) (line_in ls k) k) e
    ∙ ap (judged p ls from) (let z : suc k ≡ k + 1 = omega arith in z)

-- and behind a refusal nothing is judged.
pub judged-stays : (p : Property) (ls : Lines) (from : Reached) (k : ℕ) → ((judged p ls from k).told.refusal ≡ 0 → ⊥)
    → (n : ℕ) → k ≤ n → judged p ls from n ≡ judged p ls from k
unfolding judged turned
judged-stays p ls from k h zero l = ap (judged p ls from) (let z : zero ≡ k = omega arith in z)
judged-stays p ls from k h (suc n) l = go (eqb k (suc n)) (eqb-true k (suc n)) (eqb-false k (suc n)) (judged-stays p ls from k h n)
  where
    j : Judged
    j = judged p ls from n

    go : (b : Bool) → (b ≡ true → k ≡ suc n) → (b ≡ false → k ≡ suc n → ⊥) → (k ≤ n → j ≡ judged p ls from k)
        → judged p ls from (suc n) ≡ judged p ls from k
    go true y d ih = ap (judged p ls from) (sym (y refl))
    go false y d ih =
        let ne : k ≡ suc n → ⊥ = d refl in
        let same : j ≡ judged p ls from k = ih (omega arith) in
        unless_kept j.told.refusal (cond (waits from n (is_output ls n)) (judged_line p (line_in ls n) n j) j) j
        (λ z. h (sym (ap (λ (x : Judged). x.told.refusal) same) ∙ z))
        ∙ same

pub judged-refused : (p : Property) (ls : Lines) (from : Reached) (k n : ℕ) → k ≤ n → (refusal : Refusal)
    → reason_in (Err refusal) ≡ (judged p ls from k).told → reason_in (Err refusal) ≡ (judged p ls from n).told
judged-refused p ls from k n h refusal e =
    e
    ∙ ap (λ (j : Judged). j.told)
    (sym (judged-stays p ls from k (λ z. refusal_not_0 refusal (ap (λ (r : Reasoning). r.refusal) e ∙ z)) n h))
