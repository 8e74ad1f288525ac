-- Refusal 10 by its tests, and what a record says that it does not name.
use Prim.Native.Nat.{ℕ, zero, suc, ◌+◌, ◌-◌, ◌≤◌, ◌<◌}
use mathlib.Core.Path.{◌≡◌, sym, ◌∙◌, ap, subst}
use mathlib.Core.Bool.{Bool, true, false, cond, not, ◌&&◌, ◌||◌}
use native.Mathlib.Omega.{arith}
use borrow.Author.Tests.{eqb-true, not-false, ltb-false, le-ltb, lt-ltb}
use lib.Dec.{eqb, ltb}
use Rattle.laws.proofs.Tests.{or_split}
use Rattle.laws.proofs.Below.{below_none}
use Rattle.meaning.specs.Limits.{last_stamp, most_open}
use Rattle.meaning.specs.Numbers.{property_refusal}
use Rattle.meaning.proofs.Tests.{some_to_false}
use Rattle.property.specs.Meant.{meant}
use Rattle.rows.specs.Rows.{last_place, word}
use Rattle.held.specs.Held.{stamps_fall}
use Rattle.session_record.specs.declared.Session.{Session}
use Rattle.session_record.specs.Record.{rows_of, span_of, start_of, count_of, latest_of, blind_of, length_above, out_of_range}
use Rattle.session_record.specs.Lent.{Memory, memory_of, Ranged}

-- the seven tests
abbrev pub misformed : Session → Bool
misformed s = not (eqb (property_refusal (meant s.property)) 0)

abbrev pub outside : Session → Bool
outside s = ltb last_place (start_of s)

abbrev pub crowded : Session → Bool
crowded s = ltb most_open (count_of s)

abbrev pub fallen : Session → Bool
fallen s = stamps_fall (rows_of s) (span_of s) (latest_of s)

abbrev pub held-blind : Session → Bool
held-blind s = blind_of s && ltb 0 (count_of s)

abbrev pub late : Session → Bool
late s = ltb last_stamp (latest_of s)

abbrev pub too_long : Session → Bool
too_long s = not (blind_of s) && length_above (rows_of s) (span_of s) s.property.n

pub range_tests : (s : Session) (a b c d e f g : Bool) → misformed s ≡ a → outside s ≡ b → crowded s ≡ c → fallen s ≡ d → held-blind s ≡ e → late s ≡ f
    → too_long s ≡ g → out_of_range s ≡ a || b || c || d || e || f || g
unfolding out_of_range
range_tests s a b c d e f g p q r t u v w = λ i. p i || q i || r i || t i || u i || v i || w i

pub ranged : (s : Session) → out_of_range s ≡ false → Ranged (memory_of s)
unfolding out_of_range
ranged s e =
    let seven = or_split (misformed s || outside s || crowded s || fallen s || held-blind s || late s) (too_long s) e in
    let six = or_split (misformed s || outside s || crowded s || fallen s || held-blind s) (late s) seven.0 in
    let five = or_split (misformed s || outside s || crowded s || fallen s) (held-blind s) six.0 in
    let four = or_split (misformed s || outside s || crowded s) (fallen s) five.0 in
    let three = or_split (misformed s || outside s) (crowded s) four.0 in
    let two = or_split (misformed s) (outside s) three.0 in
    record {
      formed = eqb-true (property_refusal (meant s.property)) 0 (not-false _ two.0);
      within = record { begins = ltb-false last_place (start_of s) two.1; few = ltb-false most_open (count_of s) three.1 };
      rising = λ i h. falls_not four.1 i (omega arith) true (lt-ltb (suc i) (count_of s) h);
      last = λ i h. falls_not four.1 i (omega arith) false (le-ltb (suc i) (count_of s) (omega arith));
      none_blind = λ b.
          let l : count_of s ≤ 0 = ltb-false 0 (count_of s) (ap (λ (x : Bool). x && ltb 0 (count_of s)) (sym b) ∙ five.1) in
          omega arith;
      limit = ltb-false last_stamp (latest_of s) six.1;
      fits = λ b. some_to_false (count_of s) _ (ap (λ (x : Bool). not x && length_above (rows_of s) (span_of s) s.property.n) (sym b) ∙ seven.1);
    }
  where
    falls_not : fallen s ≡ false → (i : ℕ) → i < count_of s → (b : Bool) → ltb (suc i) (count_of s) ≡ b
        → word (rows_of s) (span_of s) 0 i ≤ cond b (word (rows_of s) (span_of s) 0 (suc i)) (latest_of s)
    falls_not n i h b q =
        ltb-false _ _
        (subst (λ (x : Bool). ltb (cond x (word (rows_of s) (span_of s) 0 (suc i)) (latest_of s)) (word (rows_of s) (span_of s) 0 i) ≡ false) q
        (below_none (count_of s) _ n i h))

-- No held stamp is past the latest.
pub ranged-within : (m : Memory) → Ranged m → (i : ℕ) → i < m.status.span.count → word m.rows m.status.span 0 i ≤ m.status.clock.latest
ranged-within m r i h = up (m.status.span.count - suc i) i (omega arith)
  where
    up : (d i : ℕ) → d + suc i ≡ m.status.span.count → word m.rows m.status.span 0 i ≤ m.status.clock.latest
    up zero i e = r.last i (omega arith)
    up (suc d) i e = omega (arith, r.rising i (omega arith), up d (suc i) (omega arith))
