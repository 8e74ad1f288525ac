-- The loop that writes an order's numbers: where it starts, and a turn of it.
use Prim.Native.Nat.{ℕ, suc, ◌+◌, ◌≤◌, ◌<◌}
use mathlib.Core.Path.{◌≡◌, sym, ap, ◌∙◌, subst}
use mathlib.Core.Bool.{Bool, true, false}
use mathlib.Core.List.{List}
use native.Mathlib.Omega.{arith}
use lib.ListN.{length, get_or, set}
use Rattle.laws.specs.Filled.{Filled}
use Rattle.laws.proofs.Filled.{filled_none, filled_more}
use Rattle.meaning.specs.Matcher.{at_start}
use Rattle.meaning.specs.Numbers.{property_refusal}
use Rattle.property.specs.Meant.{meant}
use Rattle.property.specs.declared.Property.{Property}
use Rattle.matcher.specs.declared.Cut.{Cut}
use Rattle.matcher.specs.Sets.{cut_of, Fits}
use Rattle.matcher.proofs.Words.{short_fits, start_short}
use Rattle.judged_rest.specs.declared.Reached.{Reached}
use Rattle.judged_rest.specs.Lent.{Lines, is_output, count}
use Rattle.first_order.specs.Search.{with_line, placed_next, Within, start, choice, placed, place, number_at, Found}

pub start_fits : (p : Property) → property_refusal (meant p) ≡ 0 → Fits p (cut_of at_start)
start_fits p good = short_fits p good at_start (start_short (meant p))

-- What the first j lines of the order have reached, and their numbers.
pub record Going (p : Property) (ls : Lines) (breaking : Bool) (j : ℕ) (before numbers : List ℕ) (here : Reached) : Type 0 where
  pub at : here ≡ placed p ls breaking start j
  pub within : Within p ls here
  pub filled : Filled 0 0 j (number_at p ls breaking) before numbers

module _ (p : Property) (good : property_refusal (meant p) ≡ 0) (ls : Lines) (breaking : Bool) (found : Found p ls breaking) where
  pub going_start : (numbers : List ℕ) (c : Cut) → c ≡ cut_of at_start → Going p ls breaking 0 numbers numbers (record { input = 0; output = 0; cut = c })
  unfolding placed
  going_start numbers c e =
      record {
        at = ap (λ (x : Cut). record { input = 0; output = 0; cut = x }) e;
        within = record { sized = found.sized; fits = subst (Fits p) (sym e) (start_fits p good); input_within = omega arith; output_within = omega arith };
        filled = filled_none 0 0 (number_at p ls breaking) numbers;
      }

  module _ {j : ℕ} {before numbers : List ℕ} {here : Reached} (g : Going p ls breaking j before numbers here) (h : j < count ls) (k : ℕ) (chosen : k ≡ choice p ls breaking here) where
    is_place : k ≡ place p ls breaking j
    is_place = chosen ∙ ap (choice p ls breaking) g.at

    pub going_below : k < count ls
    going_below = subst (λ (i : ℕ). i < count ls) (sym is_place) (found.below j h)

    pub going_next : (next : Reached) → next ≡ with_line p here (is_output ls k) (get_or ls.action k 0) k → Fits p next.cut → count ls ≤ length before
        → Going p ls breaking (j + 1) before (set numbers j (k + 1)) next
    unfolding placed
    going_next next e fits long =
        record {
          at =
              e ∙ ap (λ (x : Reached). placed_next p ls x k) g.at ∙ ap (placed_next p ls (placed p ls breaking start j)) is_place
              ∙ ap (placed p ls breaking start) (let z : suc j ≡ j + 1 = omega arith in z);
          within =
              record {
                sized = found.sized;
                fits = fits;
                input_within = subst (λ (x : Reached). x.input ≤ count ls) (sym e) (in_bound (is_output ls k));
                output_within = subst (λ (x : Reached). x.output ≤ count ls) (sym e) (out_bound (is_output ls k));
              };
          filled = filled_more 0 0 (number_at p ls breaking) before j numbers (k + 1) (omega arith) (omega arith) g.filled (let z : k + 1 ≡ suc k = omega arith in z ∙ ap suc is_place);
        }
      where
        low : k < count ls
        low = going_below

        in_bound : (b : Bool) → (with_line p here b (get_or ls.action k 0) k).input ≤ count ls
        in_bound true = g.within.input_within
        in_bound false = let l : k < count ls = low in omega arith

        out_bound : (b : Bool) → (with_line p here b (get_or ls.action k 0) k).output ≤ count ls
        out_bound true = let l : k < count ls = low in omega arith
        out_bound false = g.within.output_within
