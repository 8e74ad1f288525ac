-- Falling back goes by the longest shorter beginning: what `Shorter` says, that the recursive search finds it, and that a row's
-- entry is the entry of the shorter length wherever the sequence does not go on.
use Prim.Native.Nat.{ℕ, zero, suc, ◌+◌, ◌-◌, ◌≤◌, ◌<◌}
use mathlib.Core.Path.{◌≡◌, refl, sym, ap, ap₂, ◌∙◌, subst}
use mathlib.Core.Bool.{Bool, true, false, cond, ◌&&◌, and-true, and-false}
use mathlib.Core.List.{List}
use native.Mathlib.Omega.{arith}
use lib.ListN.{length, get_or, set}
use lib.Seq.{get_or-set_same, get_or-set_other}
use lib.Dec.{eqb, ltb}
use borrow.Author.Tests.{lt-ltb, eqb-true, eqb-false}
use Rattle.meaning.specs.Words.{Action}
use Rattle.meaning.specs.Matcher.{same, ends, goes_on, fall_back}
use Rattle.meaning.proofs.Tests.{both, same_eq, same_refl}
use Rattle.table.specs.Table.{Shorter}
use Rattle.table.proofs.Recursion.{fall_back-none, fall_back_down}

module _ (s : ℕ → Action) where
  ends_self : (k : ℕ) → ends s k k ≡ true
  unfolding ends
  ends_self zero = refl
  ends_self (suc k) = ap₂ (λ (a b : Bool). a && b) (same_refl (s k)) (ends_self k)

  -- If the first f end the first k, what ends those f ends these k, and nothing else of that length does.
  ends_through : (j f k : ℕ) → j ≤ f → f ≤ k → ends s f k ≡ true → ends s j k ≡ ends s j f
  unfolding ends
  ends_through zero f k h l e = refl
  ends_through (suc j) zero k h l e = let w : ⊥ = omega arith in absurd w
  ends_through (suc j) (suc f) zero h l e = let w : ⊥ = omega arith in absurd w
  ends_through (suc j) (suc f) (suc k) h l e =
      let q = both (same (s f) (s k)) (ends s f k) e in
      ap₂ (λ (a b : Bool). a && b)
      (ap (same (s j)) (sym (same_eq (s f) (s k) q.0)))
      (ends_through j f k (omega arith) (omega arith) q.1)

  module _ (n : ℕ) where
    -- After the first k the action behind them: what goes on there is what ends one more.
    goes_on-ends : (k j : ℕ) → j < n → goes_on s n k j (s k) ≡ ends s (suc j) (suc k)
    unfolding ends
    goes_on-ends k j h = ap (λ (b : Bool). b && same (s j) (s k) && ends s j k) (lt-ltb j n h)

    -- The search finds the longest beginning, not above suc j, that ends one more.
    search_ends : (k j : ℕ) → j < n → ends s (fall_back s n k (s k) j) (suc k) ≡ true
    unfolding fall_back ends
    search_ends k zero h = go (goes_on s n k zero (s k)) (goes_on-ends k zero h)
      where
        go : (b : Bool) → b ≡ ends s 1 (suc k) → ends s (cond b 1 0) (suc k) ≡ true
        go true e = sym e
        go false e = refl
    search_ends k (suc j) h = go (goes_on s n k (suc j) (s k)) (goes_on-ends k (suc j) h) (search_ends k j (omega arith))
      where
        go : (b : Bool) → b ≡ ends s (suc (suc j)) (suc k) → ends s (fall_back s n k (s k) j) (suc k) ≡ true
            → ends s (cond b (suc (suc j)) (fall_back s n k (s k) j)) (suc k) ≡ true
        go true e ih = sym e
        go false e ih = ih

    search_le : (k j : ℕ) → fall_back s n k (s k) j ≤ suc j
    unfolding fall_back
    search_le k zero = go (goes_on s n k zero (s k))
      where
        go : (b : Bool) → cond b 1 0 ≤ 1
        go true = omega arith
        go false = omega arith
    search_le k (suc j) = go (goes_on s n k (suc j) (s k)) (search_le k j)
      where
        go : (b : Bool) → fall_back s n k (s k) j ≤ suc j → cond b (suc (suc j)) (fall_back s n k (s k) j) ≤ suc (suc j)
        go true l = omega arith
        go false l = omega arith

    search_longest : (k j : ℕ) → j < n → (i : ℕ) → fall_back s n k (s k) j < i → i ≤ suc j → ends s i (suc k) ≡ false
    unfolding fall_back
    search_longest k zero h i l m = go (goes_on s n k zero (s k)) (goes_on-ends k zero h) l
      where
        go : (b : Bool) → b ≡ ends s 1 (suc k) → cond b 1 0 < i → ends s i (suc k) ≡ false
        go true e l = let w : ⊥ = omega arith in absurd w
        go false e l = ap (λ (x : ℕ). ends s x (suc k)) (let q : i ≡ 1 = omega arith in q) ∙ sym e
    search_longest k (suc j) h i l m =
        go (goes_on s n k (suc j) (s k)) (goes_on-ends k (suc j) h) l (λ l m. search_longest k j (omega arith) i l m)
      where
        go : (b : Bool) → b ≡ ends s (suc (suc j)) (suc k) → cond b (suc (suc j)) (fall_back s n k (s k) j) < i
            → (fall_back s n k (s k) j < i → i ≤ suc j → ends s i (suc k) ≡ false) → ends s i (suc k) ≡ false
        go true e l ih = let w : ⊥ = omega arith in absurd w
        go false e l ih = last (eqb i (suc (suc j))) (eqb-true i (suc (suc j))) (eqb-false i (suc (suc j)))
          where
            last : (x : Bool) → (x ≡ true → i ≡ suc (suc j)) → (x ≡ false → i ≡ suc (suc j) → ⊥) → ends s i (suc k) ≡ false
            last true y d = ap (λ (x : ℕ). ends s x (suc k)) (y refl) ∙ sym e
            last false y d = let q : i ≡ suc (suc j) → ⊥ = d refl in ih l (omega arith)

    pub shorter_found : (k : ℕ) → 0 < k → k < n → Shorter s (k + 1) (fall_back s n k (s k) (k - 1))
    shorter_found zero h l = let w : ⊥ = omega arith in absurd w
    shorter_found (suc k) h l =
        subst (λ (x : ℕ). Shorter s x (fall_back s n (suc k) (s (suc k)) (suc k - 1))) (let q : suc (suc k) ≡ suc k + 1 = omega arith in q)
        (subst (λ (x : ℕ). Shorter s (suc (suc k)) (fall_back s n (suc k) (s (suc k)) x)) (let q : k ≡ suc k - 1 = omega arith in q)
        (record {
          less = let m : fall_back s n (suc k) (s (suc k)) k ≤ suc k = search_le (suc k) k in omega arith;
          ends_there = search_ends (suc k) k (omega arith);
          longest = λ j a b. search_longest (suc k) k (omega arith) j a (omega arith);
        }))

    pub shorter-one : Shorter s 1 0
    unfolding ends
    shorter-one = record { less = omega arith; ends_there = refl; longest = λ j a b. let w : ⊥ = omega arith in absurd w }

    module _ (a : Action) where
      -- Nothing between the shorter beginning and j goes on.
      descend : (k f j : ℕ) → Shorter s k f → f ≤ j → j < k → fall_back s n k a j ≡ fall_back s n k a f
      unfolding fall_back
      descend k f zero sh h l = ap (fall_back s n k a) (let q : 0 ≡ f = omega arith in q)
      descend k f (suc j) sh h l = go (eqb f (suc j)) (eqb-true f (suc j)) (eqb-false f (suc j)) (λ m. descend k f j sh m (omega arith))
        where
          go : (x : Bool) → (x ≡ true → f ≡ suc j) → (x ≡ false → f ≡ suc j → ⊥)
              → (f ≤ j → fall_back s n k a j ≡ fall_back s n k a f) → fall_back s n k a (suc j) ≡ fall_back s n k a f
          go true y d ih = ap (fall_back s n k a) (sym (y refl))
          go false y d ih =
              let q : f ≡ suc j → ⊥ = d refl in
              ap (λ (b : Bool). cond b (suc (suc j)) (fall_back s n k a j))
              (ap (λ (b : Bool). (ltb (suc j) n && same (s (suc j)) a) && b) (sh.longest (suc j) (omega arith) l)
              ∙ and-false (ltb (suc j) n && same (s (suc j)) a))
              ∙ ih (omega arith)

      through : (k f j : ℕ) → f ≤ k → ends s f k ≡ true → j ≤ f → fall_back s n k a j ≡ fall_back s n f a j
      unfolding fall_back
      through k f zero l e h = ap (λ (b : Bool). cond ((ltb zero n && same (s zero) a) && b) 1 0) (ends_through zero f k h l e)
      through k f (suc j) l e h =
          ap₂ (λ (b : Bool) (x : ℕ). cond ((ltb (suc j) n && same (s (suc j)) a) && b) (suc (suc j)) x)
          (ends_through (suc j) f k h l e)
          (through k f j l e (omega arith))

      pub entry-none : (k : ℕ) → goes_on s n k k a ≡ false → k ≡ 0 → 0 ≡ fall_back s n k a k
      entry-none k e z = fall_back-none s n k k a e z

      pub entry-shorter : (k f : ℕ) → goes_on s n k k a ≡ false → (k ≡ 0 → ⊥) → Shorter s k f
          → fall_back s n f a f ≡ fall_back s n k a k
      entry-shorter k f e z sh =
          sym (through k f f (let l : f < k = sh.less in omega arith) sh.ends_there (omega arith))
          ∙ sym (descend k f (k - 1) sh (let l : f < k = sh.less in omega arith) (omega arith))
          ∙ fall_back_down s n k k a e z

      pub next-there : (k : ℕ) → k < n → (r : Bool) → r ≡ same (s k) a → r ≡ goes_on s n k k a
      next-there k h r e =
          e
          ∙ sym (and-true (same (s k) a))
          ∙ ap₂ (λ (x y : Bool). x && same (s k) a && y) (sym (lt-ltb k n h)) (sym (ends_self k))

-- A list of shorter lengths, one longer.
pub shorter_more : (s : ℕ → Action) (l : List ℕ) (k v : ℕ) → k + 1 < length l → ((j : ℕ) → 0 < j → j ≤ k → Shorter s j (get_or l j 0))
    → Shorter s (k + 1) v → (j : ℕ) → 0 < j → j ≤ k + 1 → Shorter s j (get_or (set l (k + 1) v) j 0)
shorter_more s l k v h all here j p q = go (eqb j (k + 1)) (eqb-true j (k + 1)) (eqb-false j (k + 1))
  where
    go : (x : Bool) → (x ≡ true → j ≡ k + 1) → (x ≡ false → j ≡ k + 1 → ⊥) → Shorter s j (get_or (set l (k + 1) v) j 0)
    go true y n =
        subst (λ (i : ℕ). Shorter s i (get_or (set l (k + 1) v) i 0)) (sym (y refl))
        (subst (λ (x : ℕ). Shorter s (k + 1) x) (sym (get_or-set_same l (k + 1) v 0 h)) here)
    go false y n =
        let d : j ≡ k + 1 → ⊥ = n refl in
        subst (λ (x : ℕ). Shorter s j x) (sym (get_or-set_other l (k + 1) j v 0 d)) (all j p (omega arith))
