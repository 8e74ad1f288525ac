-- Those of the first n places of which a test holds, in their order: which is first, and what is left behind it.
use Prim.Native.Nat.{ℕ, zero, suc, ◌+◌, ◌≤◌, ◌<◌}
use mathlib.Core.Path.{◌≡◌, refl, sym, ap, ap₂, ◌∙◌}
use mathlib.Core.Bool.{Bool, true, false, cond, not, true≢false, ◌&&◌, and-true, and-false}
use mathlib.Core.List.{List, [], ◌∷◌, ◌++◌}
use native.Mathlib.Omega.{arith}
use lib.ListN.{length, length-append}
use lib.Dec.{eqb, leb, ltb}
use borrow.Author.Tests.{eqb-true, eqb-false, ltb-true, ltb-false, le-leb, lt-leb, lt-ltb, le-ltb, leb-true}

unfoldable pub left : {A : Type 0} → (ℕ → Bool) → (ℕ → A) → ℕ → List A
left f g zero = []
left f g (suc k) = left f g k ++ cond (f k) (g k ∷ []) []

pub left-next : {A : Type 0} (f : ℕ → Bool) (g : ℕ → A) (k : ℕ) → left f g (suc k) ≡ left f g k ++ cond (f k) (g k ∷ []) []
unfolding left
left-next f g k = refl

module _ {A : Type 0} (g : ℕ → A) where
  pub left-same : (f f' : ℕ → Bool) (n : ℕ) → ((i : ℕ) → i < n → f i ≡ f' i) → left f g n ≡ left f' g n
  unfolding left
  left-same f f' zero h = refl
  left-same f f' (suc n) h = ap₂ (λ (l : List A) (b : Bool). l ++ cond b (g n ∷ []) []) (left-same f f' n (λ i l. h i (omega arith))) (h n (omega arith))

  pub left-none : (f : ℕ → Bool) (n : ℕ) → ((i : ℕ) → i < n → f i ≡ false) → left f g n ≡ []
  unfolding left
  left-none f zero h = refl
  left-none f (suc n) h = ap₂ (λ (l : List A) (b : Bool). l ++ cond b (g n ∷ []) []) (left-none f n (λ i l. h i (omega arith))) (h n (omega arith))

  -- the first of them, and the others
  pub left-first : (f : ℕ → Bool) (x n : ℕ) → x < n → f x ≡ true → ((i : ℕ) → i < x → f i ≡ false) → left f g n ≡ g x ∷ left (λ i. f i && ltb x i) g n
  unfolding left
  left-first f x zero h t none = let z : ⊥ = omega arith in absurd z
  left-first f x (suc m) h t none = go (eqb x m) (eqb-true x m) (eqb-false x m) (λ l. left-first f x m l t none)
    where
      go : (b : Bool) → (b ≡ true → x ≡ m) → (b ≡ false → x ≡ m → ⊥) → (x < m → left f g m ≡ g x ∷ left (λ i. f i && ltb x i) g m)
          → left f g m ++ cond (f m) (g m ∷ []) [] ≡ g x ∷ (left (λ i. f i && ltb x i) g m ++ cond (f m && ltb x m) (g m ∷ []) [])
      go true y n ih =
          let e : x ≡ m = y refl in
          ap₂ (λ (l : List A) (b : Bool). l ++ cond b (g m ∷ []) []) (left-none f m (λ i l. none i (omega arith))) (ap f (sym e) ∙ t)
          ∙ ap (λ (i : ℕ). g i ∷ []) (sym e)
          ∙ sym
          (ap₂ (λ (l : List A) (b : Bool). g x ∷ (l ++ cond b (g m ∷ []) []))
          (left-none (λ i. f i && ltb x i) m (λ i l. ap (λ (t : Bool). f i && t) (le-ltb x i (omega arith)) ∙ and-false (f i)))
          (ap (λ (t : Bool). f m && t) (le-ltb x m (omega arith)) ∙ and-false (f m)))
      go false y n ih =
          let d : x ≡ m → ⊥ = n refl in
          let l : x < m = omega arith in
          ap₂ (λ (u : List A) (b : Bool). u ++ cond b (g m ∷ []) []) (ih l) (sym (ap (λ (t : Bool). f m && t) (lt-ltb x m l) ∙ and-true (f m)))

-- a kind, from a place on
abbrev pub on : (ℕ → Bool) → ℕ → ℕ → Bool
on f a k = f k && leb a k

-- behind x, which is not before a
on_behind : (f : ℕ → Bool) (a x i : ℕ) → a ≤ x → on f a i && ltb x i ≡ on f (suc x) i
on_behind f a x i h = go (f i) (ltb x i) refl
  where
    go : (b c : Bool) → ltb x i ≡ c → (b && leb a i) && c ≡ b && leb (suc x) i
    go false c e = refl
    go true true e =
        let l : x < i = ltb-true x i e in
        ap (λ (t : Bool). t && true) (le-leb a i (omega arith)) ∙ sym (le-leb (suc x) i (omega arith))
    go true false e = let l : i ≤ x = ltb-false x i e in and-false (leb a i) ∙ sym (lt-leb (suc x) i (omega arith))

module _ {A : Type 0} (g : ℕ → A) (f : ℕ → Bool) (a n x : ℕ) (from : a ≤ x) (none : (i : ℕ) → a ≤ i → i < x → f i ≡ false) where
  before : (i : ℕ) → i < x → on f a i ≡ false
  before i h = go (leb a i) refl
    where
      go : (t : Bool) → leb a i ≡ t → f i && t ≡ false
      go true e = ap (λ (b : Bool). b && true) (none i (leb-true a i e) h)
      go false e = and-false (f i)

  -- nothing is left,
  pub on_none : n ≤ x → left (on f a) g n ≡ []
  on_none h = left-none g (on f a) n (λ i l. before i (omega arith))

  -- or x is next.
  pub on_next : x < n → f x ≡ true → left (on f a) g n ≡ g x ∷ left (on f (suc x)) g n
  on_next h t =
      left-first g (on f a) x n h (ap₂ ◌&&◌ t (le-leb a x from)) before
      ∙ ap (λ (l : List A). g x ∷ l) (left-same g (λ i. on f a i && ltb x i) (on f (suc x)) n (λ i l. on_behind f a x i from))

-- Two kinds: each place is of the one or of the other.
pub both_kinds : {A : Type 0} (g : ℕ → A) (f : ℕ → Bool) (n : ℕ) → length (left (on f 0) g n) + length (left (on (λ k. not (f k)) 0) g n) ≡ n
unfolding left
both_kinds g f zero = omega arith
both_kinds g f (suc n) = go (f n) (leb 0 n) (le-leb 0 n (omega arith)) (both_kinds g f n)
  where
    go : (b t : Bool) → t ≡ true → length (left (on f 0) g n) + length (left (on (λ k. not (f k)) 0) g n) ≡ n
        → length (left (on f 0) g n ++ cond (b && t) (g n ∷ []) []) + length (left (on (λ k. not (f k)) 0) g n ++ cond (not b && t) (g n ∷ []) []) ≡ suc n
    go b false e h = absurd (true≢false (sym e))
    go true true e h =
        omega
        (arith, length-append (left (on f 0) g n) (g n ∷ []), length-append (left (on (λ k. not (f k)) 0) g n) [])
    go false true e h =
        omega
        (arith, length-append (left (on f 0) g n) [], length-append (left (on (λ k. not (f k)) 0) g n) (g n ∷ []))

pub no_length : {A : Type 0} (l : List A) → length l ≡ 0 → l ≡ []
no_length [] e = refl
no_length (x ∷ l) e = let z : ⊥ = omega arith in absurd z

-- one test by two ways
pub either_way : (o : Bool) {t : Bool} → t ≡ true → cond o t t ≡ true
either_way true q = q
either_way false q = q
