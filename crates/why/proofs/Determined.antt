-- The promise determines the whole answer and every place of every list: two results allowed by it are equal.
use Rattle.std.specs.Prelude.{Result, Ok, Err}
use Prim.Native.Nat.{ℕ, zero, suc}
use mathlib.Core.Path.{◌≡◌, refl, sym, ap, ap₂, ◌∙◌, subst}
use mathlib.Core.List.{List}
use native.Mathlib.Omega.{arith}
use Rattle.meaning.specs.Words.{Line, Run, StampsFrom}
use Rattle.meaning.specs.Words
use Rattle.meaning.specs.Node.{Verdict, verdict_number}
use Rattle.meaning.specs.Numbers.{given, property_refusal}
use Rattle.meaning.specs.Calls.{fresh}
use Rattle.meaning.proofs.Refusals.{first_of-none}
use Rattle.reasons.specs.Reasons.{Earliest, lines_refusal, line_numbers}
use Rattle.reasons.proofs.First.{first_unique}
use Rattle.reasons.proofs.Earliest.{earliest_unique}
use Rattle.reasons.proofs.Reached.{one-verdict, reached_unique}
use Rattle.outcomes.specs.declared.Refusal.{Refusal}
use Rattle.outcomes.proofs.Same.{same_refusal, refusal_not_0, same_verdict}
use Rattle.property.specs.Meant.{meant}
use Rattle.property.specs.declared.Property.{Property}
use Rattle.judged_rest.specs.declared.Reason.{Reason}
use Rattle.judged_rest.specs.Judged.{Reasoning, reason_in}
use Rattle.judged_rest.specs.Lent.{Lines, count, run_of}
use Rattle.first_order.specs.Search.{Pair, pair}
use Rattle.why.specs.Why.{uneven, why_refusal, over, Shows, ShowsBy, ReasonBy, IsReason}
use Rattle.why.proofs.Judgement.{Sofar, all_of, stopped, sofar}

-- the run of a call that is taken: stamps never fall
pub taken_parts : (p : Property) (ls : Lines) (l l2 : Pair) → why_refusal p ls l l2 ≡ 0 → (property_refusal (meant p) ≡ 0) × StampsFrom 0 (run_of ls)
taken_parts p ls l l2 e = (good, go (sofar p good ls (count ls)))
  where
    good : property_refusal (meant p) ≡ 0
    good = (first_of-none (property_refusal (meant p)) e).0

    none : lines_refusal (meant p) fresh (run_of ls) ≡ 0
    none = (first_of-none (lines_refusal (meant p) fresh (run_of ls)) (first_of-none (given 7 (uneven ls)) (first_of-none (property_refusal (meant p)) e).1).1).0

    go : Sofar p (first_of-none (property_refusal (meant p)) e).0 ls (count ls) → StampsFrom 0 (run_of ls)
    go (all_of t) = t.fit.rising
    go (stopped n q j) = let z : suc n ≡ 0 = sym q ∙ none in let w : ⊥ = omega arith in absurd w

one-shown : (p : Words.Property) (run : Run) (Sort : List Line → Type 0) (l m m' : Pair) → Shows p run Sort l m → Shows p run Sort l m' → m ≡ m'
one-shown p run Sort l m m' s s' =
    let o : s.order ≡ s'.order = first_unique s.order s'.order s.is_first s'.is_first in
    let t : s.moments ≡ s'.moments =
    earliest_unique p s'.order s.moments s'.moments (subst (λ (x : List Line). Earliest p x s.moments) o s.earliest) s'.earliest in
    ap₂ pair
    (s.shown_numbers ∙ ap (λ (x : List Line). over (line_numbers run x) l.numbers) o ∙ sym s'.shown_numbers)
    (s.shown_moments ∙ ap (λ (x : List _). over x l.moments) t ∙ sym s'.shown_moments)

one-order : (v : Verdict) (p : Words.Property) (run : Run) (l l2 m m2 m' m2' : Pair) → ShowsBy v p run l l2 m m2 → ShowsBy v p run l l2 m' m2' → (m ≡ m') × (m2 ≡ m2')
one-order Verdict.clear p run l l2 m m2 m' m2' s s' = (one-shown p run _ l m m' s.0 s'.0, s.1 ∙ sym s'.1)
one-order Verdict.suspect p run l l2 m m2 m' m2' s s' = (one-shown p run _ l m m' s.0 s'.0, one-shown p run _ l2 m2 m2' s.1 s'.1)
one-order Verdict.certain p run l l2 m m2 m' m2' s s' = (one-shown p run _ l m m' s.0 s'.0, s.1 ∙ sym s'.1)
one-order Verdict.blind p run l l2 m m2 m' m2' s s' = absurd s

-- numbers tell a reason or a refusal whole
pub same_reason : (r r' : Result Reason Refusal) → reason_in r ≡ reason_in r' → r ≡ r'
same_reason (Ok a) (Ok b) e =
    let v : a.verdict ≡ b.verdict = same_verdict a.verdict b.verdict (ap (λ (x : Reasoning). x.verdict) e) in
    λ i. Ok (record { verdict = v i; line = (e i).line })
same_reason (Ok a) (Err b) e = absurd (refusal_not_0 b (sym (ap (λ (x : Reasoning). x.refusal) e)))
same_reason (Err a) (Ok b) e = absurd (refusal_not_0 a (ap (λ (x : Reasoning). x.refusal) e))
same_reason (Err a) (Err b) e = ap Err (same_refusal a b (ap (λ (x : Reasoning). x.refusal) e))

told_determined : (p : Property) (ls : Lines) (l l2 : Pair) (r r' : Reasoning) (m m2 m' m2' : Pair) → IsReason p ls r l l2 m m2 → IsReason p ls r' l l2 m' m2'
    → (r ≡ r') × (m ≡ m') × (m2 ≡ m2')
unfolding IsReason
told_determined p ls l l2 r r' m m2 m' m2' = go (why_refusal p ls l l2) refl
  where
    go : (n : ℕ) → why_refusal p ls l l2 ≡ n → ReasonBy n (meant p) (run_of ls) r l l2 m m2 → ReasonBy n (meant p) (run_of ls) r' l l2 m' m2' → (r ≡ r') × (m ≡ m') × (m2 ≡ m2')
    go (suc n) e h h' = (h.alone ∙ sym h'.alone, h.kept ∙ sym h'.kept, h.kept2 ∙ sym h'.kept2)
    go zero e h h' =
        let q = taken_parts p ls l l2 e in
        let v : h.verdict ≡ h'.verdict = one-verdict (meant p) q.0 (run_of ls) q.1 h.verdict h'.verdict h.exact h'.exact in
        let o = one-order h'.verdict (meant p) (run_of ls) l l2 m m2 m' m2' (subst (λ (x : Verdict). ShowsBy x (meant p) (run_of ls) l l2 m m2) v h.orders) h'.orders in
        (same (h.taken ∙ sym h'.taken) (h.told ∙ ap verdict_number v ∙ sym h'.told) (reached_unique (meant p) q.0 (run_of ls) q.1 r.line r'.line h.line h'.line), o.0, o.1)
      where
        same : r.refusal ≡ r'.refusal → r.verdict ≡ r'.verdict → r.line ≡ r'.line → r ≡ r'
        same a b c = λ i. record { refusal = a i; verdict = b i; line = c i }

pub explain_determined : (p : Property) (ls : Lines) (l l2 : Pair) (r r' : Result Reason Refusal) (m m2 m' m2' : Pair)
    → IsReason p ls (reason_in r) l l2 m m2 → IsReason p ls (reason_in r') l l2 m' m2' → (r ≡ r') × (m ≡ m') × (m2 ≡ m2')
explain_determined p ls l l2 r r' m m2 m' m2' h h' =
    let t = told_determined p ls l l2 (reason_in r) (reason_in r') m m2 m' m2' h h' in (same_reason r r' t.0, t.1, t.2)
