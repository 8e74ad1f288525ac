-- How the first order with a wanted end is found: words for the contracts, which theorems tie to the definitions of `reasons`.
use Rattle.std.specs.Prelude.{ℕ, zero, suc, ◌+◌, ◌*◌, ◌-◌, ◌≤◌, ◌<◌, ◌≡◌, Bool, true, false, cond, not, List, length, get_or, leb, ltb, ℤ, pos}
use Rattle.laws.specs.Filled.{Filled}
use Rattle.meaning.specs.Limits.{last_stamp}
use Rattle.meaning.specs.Matcher.{at_start, moved}
use Rattle.property.specs.Meant.{meant}
use Rattle.property.specs.declared.Property.{Property}
use Rattle.matcher.specs.declared.Cut.{Cut}
use Rattle.matcher.specs.Sets.{set_of, cut_of, Fits}
use Rattle.cuts.specs.Steps.{line_of}
use Rattle.judged_rest.specs.declared.Reached.{Reached}
use Rattle.judged_rest.specs.Lent.{Lines, is_output, stamp_at, count}
use Rattle.judged_rest.specs.Judged.{judged}
use Rattle.order_moments.specs.Moments.{moment_at}

-- A pair of lists, "numbers and moments".
pub record Pair : Type 0 where
  pub numbers : List ℕ
  pub moments : List ℤ

abbrev pub pair : List ℕ → List ℤ → Pair
pair numbers moments = record { numbers = numbers; moments = moments }

-- ---- the order

-- The first place from k on, among the next m, at which f holds, or the one behind them.
unfoldable pub next_from : (ℕ → Bool) → ℕ → ℕ → ℕ
next_from f k zero = k
next_from f k (suc m) = cond (f k) k (next_from f (suc k) m)

abbrev pub kind_in : List Bool → Bool → ℕ → Bool
kind_in output wanted k = cond wanted (get_or output k false) (not (get_or output k false))

abbrev pub next_place : Lines → Bool → ℕ → ℕ
next_place ls wanted k = next_from (kind_in ls.output wanted) k (count ls - k)

-- By the verdict on what follows: some explanation breaks, or some does not.
abbrev pub reaches : Bool → ℕ → Bool
reaches breaking v = cond breaking (leb 1 v) (leb v 1)

-- The order with the line at place k behind it.
abbrev pub with_line : Property → Reached → Bool → ℕ → ℕ → Reached
with_line p from output act k =
    let c : Cut = cut_of (moved (meant p) (set_of from.cut) (line_of output act 0)) in
    cond output (record { input = from.input; output = suc k; cut = c }) (record { input = suc k; output = from.output; cut = c })

abbrev pub placed_next : Property → Lines → Reached → ℕ → Reached
placed_next p ls from k = with_line p from (is_output ls k) (get_or ls.action k 0) k

-- The place of the next line of the order: x of the next input, y of the next output.
abbrev pub choice_of : Property → Lines → Bool → Reached → ℕ → ℕ → ℕ
choice_of p ls breaking from x y =
    cond (leb (count ls) y) x
    (cond (leb (count ls) x) y
    (cond (ltb (stamp_at ls x + 2 * p.ub) (stamp_at ls y)) x
    (cond (reaches breaking (judged p ls (with_line p from true (get_or ls.action y 0) y) (count ls)).told.verdict) y x)))

unfoldable pub choice : Property → Lines → Bool → Reached → ℕ
choice p ls breaking from = choice_of p ls breaking from (next_place ls false from.input) (next_place ls true from.output)

-- The lists are equally long, stamps have their range, and an order has come no further than the run.
pub record Sized (ls : Lines) : Type 0 where
  pub output_long : length ls.output ≡ count ls
  pub action_long : length ls.action ≡ count ls
  pub stamps_low : (i : ℕ) → stamp_at ls i ≤ last_stamp

pub record Within (p : Property) (ls : Lines) (from : Reached) : Type 0 where
  pub sized : Sized ls
  pub fits : Fits p from.cut
  pub input_within : from.input ≤ count ls
  pub output_within : from.output ≤ count ls

abbrev pub start : Reached
start = record { input = 0; output = 0; cut = cut_of at_start }

-- What the first j lines of the order have reached, from somewhere.
unfoldable pub placed : Property → Lines → Bool → Reached → ℕ → Reached
placed p ls breaking from zero = from
placed p ls breaking from (suc j) = placed_next p ls (placed p ls breaking from j) (choice p ls breaking (placed p ls breaking from j))

-- The place of line j of the order.
abbrev pub place : Property → Lines → Bool → ℕ → ℕ
place p ls breaking j = choice p ls breaking (placed p ls breaking start j)

abbrev pub number_at : Property → Lines → Bool → ℕ → ℕ
number_at p ls breaking j = suc (place p ls breaking j)

-- Each place is one of the run's.
pub record Found (p : Property) (ls : Lines) (breaking : Bool) : Type 0 where
  pub sized : Sized ls
  pub below : (j : ℕ) → j < count ls → place p ls breaking j < count ls

-- ---- what is written

-- Numbers and moments stand in a pair of lists.
pub record Written (p : Property) (ls : Lines) (breaking : Bool) (before after : Pair) : Type 0 where
  pub numbers : Filled 0 0 (count ls) (number_at p ls breaking) before.numbers after.numbers
  pub moments : Filled (pos 0) 0 (count ls) (moment_at p ls (place p ls breaking)) before.moments after.moments
