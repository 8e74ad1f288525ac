-- What a line comes to over cuts: refused, skipped, the first line of a run, one more line of the run.
use Prim.Native.Nat.{ℕ, ◌≤◌, ◌<◌}
use mathlib.Core.Path.{◌≡◌, refl, sym, ◌∙◌, ap}
use mathlib.Core.Bool.{Bool, true, false, not, ◌&&◌}
use borrow.Author.Tests.{lt-ltb, le-ltb, ltb-false}
use lib.ListN.{length}
use lib.Dec.{ltb}
use Rattle.meaning.specs.Limits.{last_action, last_stamp, most_open}
use Rattle.meaning.specs.Words.{Line}
use Rattle.meaning.specs.Numbers.{given, first_of}
use Rattle.meaning.specs.Calls.{Call, ticked, stamp_refusal, beyond}
use Rattle.meaning.specs.Matcher.{Lengths}
use Rattle.meaning.specs.Step.{Cuts}
use Rattle.meaning.proofs.Refusals.{first_of-given, first_of-first, none_first}
use Rattle.meaning.proofs.Clocks.{by_time_is}
use Rattle.property.specs.Meant.{meant}
use Rattle.property.specs.declared.Property.{Property}
use Rattle.property.proofs.Sequence.{above_of}
use Rattle.cuts.specs.Steps.{line_of, front_after, front_fresh, front_none, refusal_by, taken_by}

-- The session over cuts after a call that is taken.
pub record Comes (p : Property) (c : Cuts Lengths) (k : Call) (after : Cuts Lengths) : Type 0 where
  pub none : refusal_by p c k ≡ 0
  pub taken : taken_by p c k ≡ after

module _ (p : Property) (c : Cuts Lengths) (output : Bool) (action stamp n : ℕ)
    (number : n ≡ first_of (given 3 (ltb last_action action)) (stamp_refusal c.clock stamp)) where
  abbrev l : Line
  l = line_of output action stamp

  -- refusals 3, 4 and 5 of a line, then 6
  line-number : refusal_by p c (Call.line l) ≡ first_of n (given 6 (not c.clock.is_blind && ltb most_open (length (taken_by p c (Call.line l)).front.held)))
  line-number =
      let last : ℕ = given 6 (not c.clock.is_blind && ltb most_open (length (taken_by p c (Call.line l)).front.held)) in
      ap (λ (b : Bool). first_of (given 3 b) (first_of (stamp_refusal c.clock stamp) last)) (above_of output action)
      ∙ first_of-first (given 3 (ltb last_action action)) (stamp_refusal c.clock stamp) last
      ∙ ap (λ (m : ℕ). first_of m last) (sym number)

  pub line_refused : (n ≡ 0 → ⊥) → refusal_by p c (Call.line l) ≡ n
  line_refused h = line-number ∙ first_of-given n _ h

  module _ (none : n ≡ 0) where
    -- a line that no refusal but 6 could stop is not past the limit
    pub line-limit : stamp ≤ last_stamp
    line-limit = ltb-false last_stamp stamp (none_first 3 (ltb last_stamp stamp) (none_first 2 (ltb last_action action) (sym number ∙ none)).1).0

    six : (b : Bool) → c.clock.is_blind ≡ b → (after : Cuts Lengths) → taken_by p c (Call.line l) ≡ after
        → refusal_by p c (Call.line l) ≡ given 6 (not b && ltb most_open (length after.front.held))
    six b e after w =
        line-number
        ∙ ap (λ (m : ℕ). first_of m (given 6 (not c.clock.is_blind && ltb most_open (length (taken_by p c (Call.line l)).front.held)))) none
        ∙ (λ i. given 6 (not (e i) && ltb most_open (length (w i).front.held)))

    -- "taken while blind is skipped",
    pub line_skipped : c.clock.is_blind ≡ true → beyond (meant p) c.clock stamp ≡ false
        → Comes p c (Call.line l) (record { clock = ticked c.clock l true; front = front_none p })
    line_skipped e far = let w = by_time_is (meant p) c.clock stamp _ _ _ e far in record { none = six true e _ w; taken = w }

    -- "unless T exceeds the latest stamp by more than 2·UB",
    pub line_first : c.clock.is_blind ≡ true → beyond (meant p) c.clock stamp ≡ true
        → Comes p c (Call.line l) (record { clock = ticked c.clock l false; front = front_after p (front_fresh p) l })
    line_first e far = let w = by_time_is (meant p) c.clock stamp _ _ _ e far in record { none = six true e _ w; taken = w }

    -- a line of the run, for which there is room,
    pub line-next : c.clock.is_blind ≡ false → length (front_after p c.front l).held ≤ most_open
        → Comes p c (Call.line l) (record { clock = ticked c.clock l false; front = front_after p c.front l })
    line-next e room =
        let w = by_time_is (meant p) c.clock stamp _ _ _ e refl in
        record { none = six false e _ w ∙ ap (given 6) (le-ltb most_open (length (front_after p c.front l).held) room); taken = w }

    -- or not.
    pub line_crowded : c.clock.is_blind ≡ false → most_open < length (front_after p c.front l).held → refusal_by p c (Call.line l) ≡ 6
    line_crowded e crowd =
        let w = by_time_is (meant p) c.clock stamp _ _ _ e refl in
        six false e _ w ∙ ap (given 6) (lt-ltb most_open (length (front_after p c.front l).held) crowd)
