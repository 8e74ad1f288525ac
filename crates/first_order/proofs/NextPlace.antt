-- The next place of a kind.
use Prim.Native.Nat.{ℕ, zero, suc, ◌+◌, ◌-◌, ◌≤◌, ◌<◌}
use mathlib.Core.Path.{◌≡◌, refl, sym, ap, ◌∙◌}
use mathlib.Core.Bool.{Bool, true, false, cond, not}
use mathlib.Core.List.{List}
use native.Mathlib.Omega.{arith}
use native.Mathlib.Nat.{add-zero}
use lib.Dec.{eqb, ltb}
use lib.ListN.{length, get_or, drop, length-drop}
use borrow.Author.Tests.{eqb-true, eqb-false, ltb-false}
use Rattle.std.proofs.Common.{Option, Some, None, get_or-drop}
use Rattle.std.specs.List.{position_or_len}
use Rattle.std.proofs.lemmas.List.Sums.{position_or_len_is}
use Rattle.first_order.specs.Search.{next_from, kind_in}

module _ (f : ℕ → Bool) where
  -- what is known of it
  pub record IsNext (k n x : ℕ) : Type 0 where
    pub from : k ≤ x
    pub within : k ≤ n → x ≤ n
    pub none : (i : ℕ) → k ≤ i → i < x → f i ≡ false
    pub found : x < n → f x ≡ true

  pub is_next : (m k n : ℕ) → k + m ≡ n → IsNext k n (next_from f k m)
  unfolding next_from
  is_next zero k n e =
      record { from = omega arith; within = λ h. h; none = λ i a b. let z : ⊥ = omega arith in absurd z; found = λ h. let z : ⊥ = omega (arith, add-zero k) in absurd z }
  is_next (suc m) k n e = go (f k) refl (is_next m (suc k) n (omega arith))
    where
      go : (t : Bool) → f k ≡ t → IsNext (suc k) n (next_from f (suc k) m) → IsNext k n (cond t k (next_from f (suc k) m))
      go true h r = record { from = omega arith; within = λ l. l; none = λ i a b. let z : ⊥ = omega arith in absurd z; found = λ l. h }
      go false h r =
          record {
            from = let l : suc k ≤ next_from f (suc k) m = r.from in omega arith;
            within = λ l. r.within (omega arith);
            none = λ i a b. pick i a b (eqb i k) (eqb-true i k) (eqb-false i k);
            found = r.found;
          }
        where
          pick : (i : ℕ) → k ≤ i → i < next_from f (suc k) m → (t : Bool) → (t ≡ true → i ≡ k) → (t ≡ false → i ≡ k → ⊥) → f i ≡ false
          pick i a b true y n' = ap f (y refl) ∙ h
          pick i a b false y n' = let d : i ≡ k → ⊥ = n' refl in r.none i (omega arith) b

-- the library's search behind the front finds it
module _ (output : List Bool) (wanted : Bool) (from : ℕ) (within : from ≤ length output) where
  abbrev next : ℕ
  next = next_from (kind_in output wanted) from (length output - from)

  abbrev passes : Bool → Bool
  passes kind = cond wanted kind (not kind)

  abbrev behind : ℕ
  behind = position_or_len passes (drop from output)

  known : IsNext (kind_in output wanted) from (length output) next
  known = is_next (kind_in output wanted) (length output - from) from (length output) (omega arith)

  same : (i : ℕ) → passes (get_or (drop from output) i false) ≡ kind_in output wanted (from + i)
  same i = ap passes (get_or-drop from output i false)

  place : from + behind ≡ next
  place =
      let low : from ≤ next = known.from in
      let high : next ≤ length output = known.within within in
      let e : behind ≡ next - from =
      position_or_len_is passes (drop from output) (next - from) false (omega (arith, length-drop from output))
      (λ i l. same i ∙ known.none (from + i) (omega arith) (omega arith))
      (λ l.
      same (next - from)
      ∙ ap (kind_in output wanted) (let z : from + (next - from) ≡ next = omega arith in z)
      ∙ known.found (omega (arith, length-drop from output))) in
      omega arith

  module _ (r : Option ℕ) (found : r ≡ cond (ltb behind (length (drop from output))) (Some behind) None) where
    pub found_next : (n : ℕ) → r ≡ Some n → (from + n ≡ next) × (from + n ≤ length output)
    found_next n e = go (ltb behind (length (drop from output))) (sym found ∙ e)
      where
        go : (b : Bool) → cond b (Some behind) None ≡ Some n → (from + n ≡ next) × (from + n ≤ length output)
        go true q = let s : behind ≡ n = cc in (omega (arith, place), omega (arith, place, known.within within))
        go false q = let z : ⊥ = cc in absurd z

    pub found_none : r ≡ None → length output ≡ next
    found_none e = go (ltb behind (length (drop from output))) (ltb-false behind (length (drop from output))) (sym found ∙ e)
      where
        go : (b : Bool) → (b ≡ false → length (drop from output) ≤ behind) → cond b (Some behind) None ≡ None → length output ≡ next
        go true n q = let z : ⊥ = cc in absurd z
        go false n q = let l = n refl in omega (arith, place, known.within within, length-drop from output, l)
