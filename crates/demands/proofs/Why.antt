-- Document 02, CR 6, as theorems: `why::explain`.
use Prim.Native.Nat.{ℕ, zero, suc, ◌^◌, ◌<◌}
use mathlib.Core.Path.{◌≡◌, refl, sym, ap, ap₂, ◌∙◌, subst}
use mathlib.Core.Bool.{not, ◌||◌}
use mathlib.Core.List.{List, [], ◌∷◌, ◌++◌, Forall₂}
use native.Mathlib.Omega.{arith}
use lib.ListN.{length, take, drop}
use lib.Dec.{eqb, ltb}
use lib.IntN.{ℤ, pos, negsuc}
use lib.Signed.{◌≤ℤ◌}
use Rattle.meaning.specs.Words.{Line, Run}
use Rattle.meaning.specs.Words
use Rattle.meaning.specs.Node.{Given, NeverFall, Numbered, Verdict, verdict_number, IsVerdict}
use Rattle.meaning.specs.Numbers.{given, first_of, property_refusal}
use Rattle.meaning.specs.Calls.{Call, fresh_clock, Watch, fresh, watched, AllTaken, Standing}
use Rattle.meaning.proofs.Refusals.{first_of-none}
use Rattle.reasons.specs.Reasons.{Names, line_numbers, lines_refusal}
use Rattle.reasons.proofs.Reached.{one-verdict, reached_clear}
use Rattle.reasons.proofs.Numbers.{numbers-name, order-long}
use Rattle.reasons.proofs.Lines.{as_calls, takes_all, StopsAt, stops_at}
use Rattle.property.specs.Meant.{meant}
use Rattle.property.specs.declared.Property.{Property}
use Rattle.session_record.specs.Step.{stepped_of}
use Rattle.judged_rest.specs.Judged.{Reasoning}
use Rattle.judged_rest.specs.Lent.{Lines, run_of}
use Rattle.first_order.specs.Search.{Pair}
use Rattle.why.specs.Why.{uneven, why_refusal, over, Shows, ShowsBy, ReasonBy, IsReason}
use Rattle.why.proofs.Determined.{taken_parts}
use Rattle.line_text.specs.Text.{decimal}
use Rattle.reason_text.specs.Reason.{signed}
use Rattle.demands.specs.Refuses.{Refuses}
use Rattle.demands.specs.Listing.{InDecimal}
use Rattle.demands.specs.Why.{InOrder, Shown, ShownBy, FirstReached}
use Rattle.demands.proofs.Running.{running, running_number}
use Rattle.demands.proofs.Digits.{decimal-reads}
use Rattle.demands.proofs.Placed.{first-shown, names_each, none_later, numbers-in_order}

-- ==== Refusals: "the property's 1, 2, 3 and the lines' 3, 4, 5, 6 as a session gives them, then 13 .., then 9 ..; what is refused alters no
-- list". 7 is for lists of a run that are not equally long.
pub demand_1_why : (p : Property) (ls : Lines) (l l2 : Pair) (r : Reasoning) (m m2 : Pair) → IsReason p ls r l l2 m m2
    → Refuses r.refusal
    (first_of (property_refusal (meant p))
    (first_of (given 7 (not (eqb (length ls.output) (length ls.stamp)) || not (eqb (length ls.action) (length ls.stamp))))
    (first_of (lines_refusal (meant p) fresh (run_of ls))
    (first_of (given 13 (ltb 256 (length ls.stamp)))
    (given 9
    ((ltb (length l.numbers) (length ls.stamp) || ltb (length l.moments) (length ls.stamp))
    || (ltb (length l2.numbers) (length ls.stamp) || ltb (length l2.moments) (length ls.stamp))))))))
    (λ n. (r ≡ record { refusal = n; verdict = 0; line = 0 }) × (m ≡ l) × (m2 ≡ l2))
unfolding IsReason
demand_1_why p ls l l2 r m m2 h = record { first = number (why_refusal p ls l l2) h; alone = λ n e. alone (why_refusal p ls l l2) h n e }
  where
    number : (k : ℕ) → ReasonBy k (meant p) (run_of ls) r l l2 m m2 → r.refusal ≡ k
    number zero h = h.taken
    number (suc k) h = ap (λ (x : Reasoning). x.refusal) h.alone

    alone : (k : ℕ) → ReasonBy k (meant p) (run_of ls) r l l2 m m2 → (n : ℕ) → r.refusal ≡ suc n → (r ≡ record { refusal = suc n; verdict = 0; line = 0 }) × (m ≡ l) × (m2 ≡ l2)
    alone zero h n e = let z : 0 ≡ suc n = sym h.taken ∙ e in let w : ⊥ = omega arith in absurd w
    alone (suc k) h n e = (
      h.alone ∙ ap (λ (x : ℕ). record { refusal = x; verdict = 0; line = 0 }) (sym (ap (λ (x : Reasoning). x.refusal) h.alone) ∙ e),
      h.kept,
      h.kept2,
    )

module _ (p : Property) (good : property_refusal (meant p) ≡ 0) where
  -- the lines' number is the one that the call `session::line` answers to the first line that it does not take
  pub record Refused-line (run : Run) (n : ℕ) : Type 0 where
    pub before : List Line
    pub line : Line
    pub behind : List Line
    pub stands : run ≡ before ++ line ∷ behind
    pub all-taken : AllTaken (meant p) fresh (as_calls before)
    pub answered : (stepped_of (running p good (as_calls before)) (Call.line line)).answer.refusal ≡ n

  pub as_a_session : (run : Run) (n : ℕ) → lines_refusal (meant p) fresh run ≡ suc n → Refused-line run (suc n)
  as_a_session run n e =
      let s : StopsAt (meant p) fresh run (suc n) = stops_at (meant p) run fresh n e in
      record {
        before = s.before;
        line = s.line;
        behind = s.behind;
        stands = s.stands;
        all-taken = s.all-taken;
        answered = running_number p good (as_calls s.before) (Call.line s.line) ∙ s.refused;
      }

-- ==== Taken: the verdict is the one that stands on a session after these lines, the line is the one after which it was first reached,
-- and the orders are as the verdict asks.
pub record Demand-why (p : Words.Property) (run : Run) (r : Reasoning) (l l2 m m2 : Pair) : Type 0 where
  pub all-taken : AllTaken p fresh (as_calls run)
  pub is_run : (watched p fresh (as_calls run)).run ≡ run
  pub verdict : Verdict
  pub stands : Standing p (watched p fresh (as_calls run)) verdict
  pub told : r.verdict ≡ verdict_number verdict
  pub line : FirstReached p run verdict r.line
  pub orders : ShownBy verdict p run l l2 m m2

-- the front of a list that was written over, and what stays
over-front : {A : Type 0} (x before : List A) → take (length x) (over x before) ≡ x
over-front x before = go x (drop (length x) before)
  where
    go : {A : Type 0} (x y : List A) → take (length x) (x ++ y) ≡ x
    go [] y = refl
    go (a ∷ x) y = ap (λ (t : List _). a ∷ t) (go x y)

over_rest : {A : Type 0} (x before : List A) → drop (length x) (over x before) ≡ drop (length x) before
over_rest x before = go x (drop (length x) before)
  where
    go : {A : Type 0} (x y : List A) → drop (length x) (x ++ y) ≡ y
    go [] y = refl
    go (a ∷ x) y = go x y

-- as many numbers, and moments, as lines
names_long : (run : Run) (ks : List ℕ) (ls : List Line) → Names run ks ls → length ks ≡ length ls
names_long run [] [] h = refl
names_long run [] (x ∷ ls) h = absurd h
names_long run (k ∷ ks) [] h = absurd h
names_long run (k ∷ ks) (x ∷ ls) h = ap suc (names_long run ks ls h.1)

given-long : (p : Words.Property) (ls : List Line) (ms : List ℤ) → Given p ls ms → length ms ≡ length ls
given-long p [] [] h = refl
given-long p [] (m ∷ ms) h = absurd h
given-long p (x ∷ ls) [] h = absurd h
given-long p (x ∷ ls) (m ∷ ms) h = ap suc (given-long p ls ms h.1)

shown : (p : Words.Property) (run : Run) (Sort : List Line → Type 0) (l m : Pair) → Shows p run Sort l m → Shown p run Sort l m
shown p run Sort l m s =
    record {
      order = s.order;
      explains = s.is_first.fits.0;
      of_the_sort = s.is_first.fits.1;
      first = λ other e h. first-shown (s.is_first.first other (e, h));
      numbers = subst (λ (x : List ℕ). Forall₂ (Numbered run) x s.order) (sym front) (names_each run _ s.order named);
      in_order = subst (λ (x : List ℕ). InOrder x s.order) (sym front) (numbers-in_order run s.order s.is_first.fits.0.is_order);
      given = subst (Given p s.order) (sym times) s.earliest.given;
      never_fall = subst NeverFall (sym times) s.earliest.never_fall;
      earliest = λ others g n. subst (λ (x : List ℤ). Forall₂ ◌≤ℤ◌ x others) (sym times) (none_later s.moments others (s.earliest.least others g n));
      numbers_stay = ap₂ (λ (n : ℕ) (x : List ℕ). drop n x) (sym numbers-long) s.shown_numbers ∙ over_rest (line_numbers run s.order) l.numbers ∙ ap (λ (n : ℕ). drop n l.numbers) numbers-long;
      moments_stay = ap₂ (λ (n : ℕ) (x : List ℤ). drop n x) (sym moments-long) s.shown_moments ∙ over_rest s.moments l.moments ∙ ap (λ (n : ℕ). drop n l.moments) moments-long;
    }
  where
    named : Names run (line_numbers run s.order) s.order
    named = numbers-name run s.order s.is_first.fits.0.is_order

    numbers-long : length (line_numbers run s.order) ≡ length run
    numbers-long = names_long run (line_numbers run s.order) s.order named ∙ order-long run s.order s.is_first.fits.0.is_order

    moments-long : length s.moments ≡ length run
    moments-long = given-long p s.order s.moments s.earliest.given ∙ order-long run s.order s.is_first.fits.0.is_order

    front : take (length run) m.numbers ≡ line_numbers run s.order
    front = ap₂ (λ (n : ℕ) (x : List ℕ). take n x) (sym numbers-long) s.shown_numbers ∙ over-front (line_numbers run s.order) l.numbers

    times : take (length run) m.moments ≡ s.moments
    times = ap₂ (λ (n : ℕ) (x : List ℤ). take n x) (sym moments-long) s.shown_moments ∙ over-front s.moments l.moments

shown_by : (v : Verdict) (p : Words.Property) (run : Run) (l l2 m m2 : Pair) → ShowsBy v p run l l2 m m2 → ShownBy v p run l l2 m m2
shown_by Verdict.clear p run l l2 m m2 s = (shown p run _ l m s.0, s.1)
shown_by Verdict.suspect p run l l2 m m2 s = (shown p run _ l m s.0, shown p run _ l2 m2 s.1)
shown_by Verdict.certain p run l l2 m m2 s = (shown p run _ l m s.0, s.1)
shown_by Verdict.blind p run l l2 m m2 s = s

pub demand_why : (p : Property) (ls : Lines) (l l2 : Pair) (r : Reasoning) (m m2 : Pair) → IsReason p ls r l l2 m m2 → r.refusal ≡ 0
    → Demand-why (meant p) (run_of ls) r l l2 m m2
unfolding IsReason
demand_why p ls l l2 r m m2 h e = go (why_refusal p ls l l2) refl h
  where
    go : (k : ℕ) → why_refusal p ls l l2 ≡ k → ReasonBy k (meant p) (run_of ls) r l l2 m m2 → Demand-why (meant p) (run_of ls) r l l2 m m2
    go (suc k) q h = let z : suc k ≡ 0 = sym (ap (λ (x : Reasoning). x.refusal) h.alone) ∙ e in let w : ⊥ = omega arith in absurd w
    go zero q h =
        let parts = taken_parts p ls l l2 q in
        let none : lines_refusal (meant p) fresh (run_of ls) ≡ 0 =
        (first_of-none (lines_refusal (meant p) fresh (run_of ls)) (first_of-none (given 7 (uneven ls)) (first_of-none (property_refusal (meant p)) q).1).1).0 in
        let t = takes_all (meant p) [] (run_of ls) fresh_clock none in
        let v : h.line.verdict ≡ h.verdict =
        one-verdict (meant p) parts.0 (run_of ls) parts.1 h.line.verdict h.verdict h.line.whole h.exact in
        record {
          all-taken = t.0;
          is_run = ap (λ (w : Watch). w.run) t.1.1;
          verdict = h.verdict;
          stands = subst (λ (w : Watch). Standing (meant p) w h.verdict) (sym t.1.1) h.exact;
          told = h.told;
          line =
              record {
                there = subst (IsVerdict (meant p) (take r.line (run_of ls))) v h.line.there;
                not_before = λ j i k. h.line.none_before j i (subst (IsVerdict (meant p) (take j (run_of ls))) (sym v) k);
                clear_at_0 = λ c. reached_clear (meant p) parts.0 (run_of ls) parts.1 (subst (IsVerdict (meant p) (run_of ls)) c h.exact) r.line h.line;
              };
          orders = shown_by h.verdict (meant p) (run_of ls) l l2 m m2 h.orders;
        }

-- ==== `number moment`, as `reason_text::placed` writes it: a moment is shown in decimal, a negative one behind a minus sign.
pub moment_reads : (n : ℕ) → n < 2 ^ 64 → InDecimal n (signed (pos n))
unfolding signed
moment_reads n h = decimal-reads n h

pub moment_below_reads : (n : ℕ) → suc n < 2 ^ 64 → (rest : List ℕ) × (signed (negsuc n) ≡ 45 ∷ rest) × InDecimal (suc n) rest
unfolding signed
moment_below_reads n h = (decimal (suc n), refl, decimal-reads (suc n) h)
