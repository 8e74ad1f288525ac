-- What refusals 1, 2 and 3 say of a property given as plain data.
use Prim.Native.Nat.{ℕ, ◌≤◌, ◌<◌}
use mathlib.Core.Path.{◌≡◌, sym, ap, ◌∙◌}
use mathlib.Core.Bool.{Bool, true, false, ◌||◌}
use borrow.Author.Tests.{ltb-false}
use lib.ListN.{get_or}
use lib.Dec.{ltb}
use Rattle.meaning.specs.Numbers.{given, first_of, length_outside, bounds_outside, any_action_above, property_refusal}
use Rattle.meaning.proofs.Refusals.{none_first, given-none}
use Rattle.laws.proofs.Tests.{or_split}
use Rattle.laws.proofs.Places.{length-first}
use Rattle.property.specs.declared.Property.{Property}
use Rattle.property.specs.Meant.{action_of, meant, sequence_of}
use Rattle.property.proofs.Sequence.{not-above, above_of}

-- The refusal of a sequence of n actions, with the bounds, where b says whether an action number is above 63.
abbrev pub refusal_from : ℕ → ℕ → ℕ → Bool → ℕ
refusal_from n lb ub b = first_of (given 1 (length_outside n)) (first_of (given 2 (bounds_outside lb ub)) (given 3 b))

pub refusal_is : (p : Property) → property_refusal (meant p) ≡ refusal_from p.n p.lb p.ub (any_action_above (sequence_of p))
refusal_is p =
    ap (λ (n : ℕ). refusal_from n p.lb p.ub (any_action_above (sequence_of p)))
    (length-first (λ i. action_of (get_or p.output i false) (get_or p.number i 0)) p.n)

-- What holds of a property that none of the three refuses.
pub record InLimits (n lb ub : ℕ) : Type 0 where
  pub some : 1 ≤ n
  pub most : n ≤ 32
  pub low : 1 ≤ lb
  pub order : lb ≤ ub
  pub high : ub ≤ 60_000_000

pub taken : (n lb ub : ℕ) (b : Bool) → refusal_from n lb ub b ≡ 0 → InLimits n lb ub
taken n lb ub b e =
    let one = none_first 0 (length_outside n) e in
    let two = none_first 1 (bounds_outside lb ub) one.1 in
    let length = or_split (ltb n 1) (ltb 32 n) one.0 in
    let bounds = or_split (ltb lb 1 || ltb ub lb) (ltb 60_000_000 ub) two.0 in
    let order = or_split (ltb lb 1) (ltb ub lb) bounds.0 in
    record {
      some = ltb-false n 1 length.0;
      most = ltb-false 32 n length.1;
      low = ltb-false lb 1 order.0;
      order = ltb-false ub lb order.1;
      high = ltb-false 60_000_000 ub bounds.1;
    }

-- No number of the sequence is above 63 where none of the three refuses.
pub no_number_above : (n lb ub : ℕ) (b : Bool) → refusal_from n lb ub b ≡ 0 → b ≡ false
no_number_above n lb ub b e = given-none 2 b (none_first 1 (bounds_outside lb ub) (none_first 0 (length_outside n) e).1).1

module _ (p : Property) (e : property_refusal (meant p) ≡ 0) where
  pub taken_bounds : InLimits p.n p.lb p.ub
  taken_bounds = taken p.n p.lb p.ub (any_action_above (sequence_of p)) (sym (refusal_is p) ∙ e)

  pub taken-number : (i : ℕ) → i < p.n → get_or p.number i 0 ≤ 63
  taken-number i h =
      ltb-false 63 (get_or p.number i 0)
      (sym (above_of (get_or p.output i false) (get_or p.number i 0))
      ∙ not-above (λ j. action_of (get_or p.output j false) (get_or p.number j 0)) p.n
      (no_number_above p.n p.lb p.ub (any_action_above (sequence_of p)) (sym (refusal_is p) ∙ e)) i h)

-- The length is judged first.
pub length-refused : (p : Property) → length_outside p.n ≡ true → property_refusal (meant p) ≡ 1
length-refused p e =
    refusal_is p
    ∙ ap
    (λ (b : Bool).
    first_of (given 1 b) (first_of (given 2 (bounds_outside p.lb p.ub)) (given 3 (any_action_above (sequence_of p)))))
    e
