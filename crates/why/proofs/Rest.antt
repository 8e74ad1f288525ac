-- The lines of a run that are not yet in an order, judged from the state that the order has reached: none of them is refused, and the
-- verdict is exact for what follows.
use Prim.Native.Nat.{ℕ, zero, suc, ◌+◌, ◌≤◌, ◌<◌}
use mathlib.Core.Path.{◌≡◌, refl, sym, ap, ap₂, ◌∙◌, subst}
use mathlib.Core.Logic.{◌↔◌}
use mathlib.Core.Bool.{Bool, true, false, cond}
use mathlib.Core.List.{List, [], ◌∷◌, ◌++◌, append-nil}
use native.Mathlib.Omega.{arith}
use native.Mathlib.Nat.{zero-add}
use lib.ListN.{length}
use lib.Dec.{ltb}
use borrow.Author.Tests.{le-ltb}
use Rattle.laws.specs.Places.{first}
use Rattle.laws.proofs.Places.{first_snoc}
use Rattle.meaning.specs.Limits.{last_stamp, most_open}
use Rattle.meaning.specs.Words.{Line, StampsFrom}
use Rattle.meaning.specs.Words
use Rattle.meaning.specs.Node.{ins, Breaks, Verdict, verdict_number, VerdictFor}
use Rattle.meaning.specs.Numbers.{given, first_of, action_above, property_refusal}
use Rattle.meaning.specs.Calls.{Call, Clock, fresh_clock, ticked, is_open, count_open, open_at, stamp_refusal}
use Rattle.meaning.specs.Matcher.{Lengths, State, is_broken}
use Rattle.meaning.specs.Step.{Front, lengths, last_set, front_with, front_verdict}
use Rattle.meaning.proofs.Lists.{All, done, also, all_append, ins-append, from_longer}
use Rattle.meaning.proofs.Clocks.{open_cuts}
use Rattle.meaning.proofs.Sets.{Reading, along}
use Rattle.meaning.proofs.Matching.{state_matcher}
use Rattle.meaning.proofs.Lengths.{lengths_reading}
use Rattle.reasons.proofs.Questions.{through, through_last, single, verdict_on, open_on}
use Rattle.property.specs.Meant.{meant}
use Rattle.property.specs.declared.Property.{Property}
use Rattle.matcher.specs.Sets.{set_of}
use Rattle.cuts.specs.Steps.{refusal_by}
use Rattle.judged_rest.specs.declared.Reached.{Reached}
use Rattle.judged_rest.specs.Lent.{Lines, is_output, line_in, count}
use Rattle.judged_rest.specs.Judged.{Judged, waits, judged_line, turned, judged}
use Rattle.why.proofs.Left.{left, left-next}
use Rattle.why.proofs.Whole.{AllTaken}
use Rattle.why.proofs.Judgement.{says, line_then, line_taken}

-- ---- stamps that never fall, by places

from_on : (L : ℕ → Line) (t n : ℕ) → StampsFrom t (first L n) → (j : ℕ) → j < n → t ≤ (L j).stamp
unfolding first
from_on L t zero f j h = let z : ⊥ = omega arith in absurd z
from_on L t (suc n) f zero h = f.0
from_on L t (suc n) f (suc j) h = omega (arith, from_on (λ i. L (suc i)) (L 0).stamp n f.1 j (omega arith), f.0)

pub rising : (L : ℕ → Line) (t n : ℕ) → StampsFrom t (first L n) → (i j : ℕ) → i ≤ j → j < n → (L i).stamp ≤ (L j).stamp
unfolding first
rising L t zero f i j h l = let z : ⊥ = omega arith in absurd z
rising L t (suc n) f zero zero h l = omega arith
rising L t (suc n) f zero (suc j) h l = from_on (λ i. L (suc i)) (L 0).stamp n f.1 j (omega arith)
rising L t (suc n) f (suc i) zero h l = let z : ⊥ = omega arith in absurd z
rising L t (suc n) f (suc i) (suc j) h l = rising (λ i. L (suc i)) (L 0).stamp n f.1 i j (omega arith) (omega arith)

-- ---- some of the lines

module _ (L : ℕ → Line) (w : ℕ → Bool) where
  pub some_low : (k T : ℕ) → ((i : ℕ) → i < k → (L i).stamp ≤ T) → All (λ (z : Line). z.stamp ≤ T) (left w L k)
  unfolding left
  some_low zero T h = done
  some_low (suc k) T h = all_append (some_low k T (λ i l. h i (omega arith))) (one (w k))
    where
      one : (b : Bool) → All (λ (z : Line). z.stamp ≤ T) (cond b (L k ∷ []) [])
      one true = also (h k (omega arith)) done
      one false = done

  pub some_rise : (n : ℕ) → StampsFrom 0 (first L n) → (k : ℕ) → k ≤ n → StampsFrom 0 (left w L k)
  unfolding left
  some_rise n f zero h = tt
  some_rise n f (suc k) h = one (w k) (some_rise n f k (omega arith))
    where
      one : (b : Bool) → StampsFrom 0 (left w L k) → StampsFrom 0 (left w L k ++ cond b (L k ∷ []) [])
      one true r =
          from_longer 0 (L k).stamp (left w L k) (L k) r (some_low k (L k).stamp (λ i l. rising L 0 n f i k (omega arith) (omega arith)))
          (omega arith) (omega arith)
      one false r = subst (StampsFrom 0) (sym (append-nil (left w L k))) r

  -- of some of the lines no more are open than of all
  count-append : (p : Words.Property) (T : ℕ) (u v : List Line) → count_open p T (u ++ v) ≡ count_open p T u + count_open p T v
  count-append p T [] v = sym (zero-add (count_open p T v))
  count-append p T (x ∷ u) v = go (is_open p T x) (count-append p T u v)
    where
      go : (b : Bool) → count_open p T (u ++ v) ≡ count_open p T u + count_open p T v
          → cond b (suc (count_open p T (u ++ v))) (count_open p T (u ++ v)) ≡ cond b (suc (count_open p T u)) (count_open p T u) + count_open p T v
      go true e = omega arith
      go false e = e

  open_append : (p : Words.Property) (T : ℕ) (u v : List Line) → open_at p T (u ++ v) ≡ open_at p T u + open_at p T v
  open_append p T u v = ap (count_open p T) (ins-append u v) ∙ count-append p T (ins u) (ins v)

  pub some_open : (p : Words.Property) (T k : ℕ) → open_at p T (left w L k) ≤ open_at p T (first L k)
  unfolding left first
  some_open p T zero = omega arith
  some_open p T (suc k) = go (w k) (some_open p T k)
    where
      go : (b : Bool) → open_at p T (left w L k) ≤ open_at p T (first L k) → open_at p T (left w L k ++ cond b (L k ∷ []) []) ≤ open_at p T (first L (suc k))
      go true h = omega (arith, open_append p T (left w L k) (L k ∷ []), open_append p T (first L k) (L k ∷ []), ap (open_at p T) (first_snoc L k))
      go false h = omega (arith, open_append p T (left w L k) [], open_append p T (first L k) (L k ∷ []), ap (open_at p T) (first_snoc L k))

-- no refusal of a line holds
none-holds : (a : Bool) (s : ℕ) (t : Bool) → a ≡ false → s ≡ 0 → t ≡ false → first_of (given 3 a) (first_of s (given 6 t)) ≡ 0
none-holds a s t ea es et = ap (λ (b : Bool). first_of (given 3 b) (first_of s (given 6 t))) ea ∙ ap (λ (n : ℕ). first_of n (given 6 t)) es ∙ ap (given 6) et

stamp-taken : (k : Clock) (T : ℕ) → T ≤ last_stamp → k.latest ≤ T → stamp_refusal k T ≡ 0
stamp-taken k T h l = ap₂ (λ (a b : Bool). first_of (given 4 a) (given 5 b)) (le-ltb last_stamp T h) (le-ltb T k.latest l)

module _ (p : Property) (good : property_refusal (meant p) ≡ 0) (ls : Lines) (known : AllTaken (meant p) (line_in ls) (count ls))
    (rise : StampsFrom 0 (first (line_in ls) (count ls))) (from : Reached) (q : State)
    (one : (s : State) → (lengths_reading (meant p) good).laws.Member (set_of from.cut) s ↔ (s ≡ q)) where
  abbrev R : Reading (meant p) (Breaks (meant p))
  R = lengths_reading (meant p) good

  -- line i waits
  abbrev waits-at : ℕ → Bool
  waits-at i = waits from i (is_output ls i)

  -- the lines that wait, of the first k
  abbrev pub waiting : ℕ → List Line
  waiting k = left waits-at (line_in ls) k

  abbrev after : List Line → Front Lengths
  after = through (meant p) (lengths (meant p)) (single (set_of from.cut))

  abbrev fronts : ℕ → Front Lengths
  fronts k = after (waiting k)

  abbrev verdict : Front Lengths → ℕ
  verdict f = verdict_number (front_verdict (meant p) (lengths (meant p)) f)

  record Sub (k : ℕ) : Type 0 where
    clock : Clock
    line : ℕ
    is : judged p ls from k ≡ record { cuts = open_cuts (fronts k) clock; told = says (verdict (fronts k)) line }
    low : (j : ℕ) → k ≤ j → j < count ls → clock.latest ≤ (line_in ls j).stamp

  sub-start : Sub 0
  unfolding judged left through last_set
  sub-start = record { clock = fresh_clock; line = 0; is = refl; low = λ j h l. omega arith }

  rises : (k : ℕ) → k ≤ count ls → StampsFrom 0 (waiting k)
  rises k h = some_rise (line_in ls) waits-at (count ls) rise k h

  lows : (k j : ℕ) → k ≤ j → j < count ls → All (λ (z : Line). z.stamp ≤ (line_in ls j).stamp) (waiting k)
  lows k j h l =
      some_low (line_in ls) waits-at k (line_in ls j).stamp (λ i m. rising (line_in ls) 0 (count ls) rise i j (omega arith) l)

  module _ (k : ℕ) (h : k < count ls) (s : Sub k) where
    abbrev l : Line
    l = line_in ls k

    abbrev here : Judged
    here = record { cuts = open_cuts (fronts k) s.clock; told = says (verdict (fronts k)) s.line }

    stepped : {b : Bool} → waits-at k ≡ b → judged p ls from (suc k) ≡ cond b (judged_line p l k here) here
    unfolding judged turned
    stepped e = ap (turned p from (is_output ls k) l k) s.is ∙ ap (λ (b : Bool). cond b (judged_line p l k here) here) e

    on : {b : Bool} → waits-at k ≡ b → waiting (suc k) ≡ waiting k ++ cond b (l ∷ []) []
    on e = left-next waits-at (line_in ls) k ∙ ap (λ (b : Bool). waiting k ++ cond b (l ∷ []) []) e

    not_waiting : waits-at k ≡ false → Sub (suc k)
    not_waiting e =
        record {
          clock = s.clock;
          line = s.line;
          is =
              stepped e
              ∙ ap (λ (u : List Line). record { cuts = open_cuts (after u) s.clock; told = says (verdict (after u)) s.line })
              (sym (on e ∙ append-nil (waiting k)));
          low = λ j a b. s.low j (omega arith) b;
        }

    module _ (e : waits-at k ≡ true) where
      abbrev longer : Front Lengths
      longer = front_with (meant p) (lengths (meant p)) (fronts k) l

      abbrev later : Clock
      later = ticked s.clock l false

      grown : fronts (suc k) ≡ longer
      grown = ap after (on e) ∙ through_last (meant p) (lengths (meant p)) (single (set_of from.cut)) (waiting k) l

      few : length longer.held ≤ most_open
      few =
          omega (
            arith,
            open_on R q (set_of from.cut) one (waiting k) l (rises k (omega arith)) (lows k k (omega arith) h),
            some_open (line_in ls) waits-at (meant p) l.stamp (suc k),
            ap (open_at (meant p) l.stamp) (on e),
            known.room k h,
          )

      no_refusal : refusal_by p (open_cuts (fronts k) s.clock) (Call.line l) ≡ 0
      no_refusal =
          none-holds (action_above l.action) (stamp_refusal s.clock l.stamp) (ltb most_open (length longer.held))
          (known.acts k h) (stamp-taken s.clock l.stamp (known.low k h) (s.low k (omega arith) h)) (le-ltb most_open _ few)

      now_waiting : Sub (suc k)
      now_waiting =
          record {
            clock = later;
            line = line_then (verdict (fronts k)) (verdict (fronts (suc k))) s.line k;
            is =
                stepped e
                ∙ line_taken p (fronts k) s.clock (verdict (fronts k)) s.line l k no_refusal
                ∙ ap
                (λ (f : Front Lengths). record { cuts = open_cuts f later; told = says (verdict f) (line_then (verdict (fronts k)) (verdict f) s.line k) })
                (sym grown);
            low = λ j a b. rising (line_in ls) 0 (count ls) rise k j (omega arith) b;
          }

    sub-next : (b : Bool) → waits-at k ≡ b → Sub (suc k)
    sub-next true e = now_waiting e
    sub-next false e = not_waiting e

  sub : (k : ℕ) → k ≤ count ls → Sub k
  sub zero h = sub-start
  sub (suc k) h = sub-next k (omega arith) (sub k (omega arith)) _ refl

  -- An order leads on to broken from the state.
  abbrev pub Ends : List Line → Type 0
  Ends order = is_broken (along (state_matcher (meant p)) q order) ≡ true

  -- What the judgement says is the exact verdict on what follows.
  pub judged_rest : (v : Verdict) × ((judged p ls from (count ls)).told.verdict ≡ verdict_number v) × VerdictFor Ends (meant p) (waiting (count ls)) v
  judged_rest =
      let s : Sub (count ls) = sub (count ls) (omega arith) in (
        front_verdict (meant p) (lengths (meant p)) (fronts (count ls)),
        ap (λ (j : Judged). j.told.verdict) s.is,
        verdict_on R q (set_of from.cut) one (waiting (count ls)) last_stamp (rises (count ls) (omega arith))
            (some_low (line_in ls) waits-at (count ls) last_stamp (λ i h. known.low i h)),
      )

  pub waiting_rises : StampsFrom 0 (waiting (count ls))
  waiting_rises = rises (count ls) (omega arith)
