-- One turn of a set's step: the lowest length is taken out of the set and its goal put in.
use Prim.Native.Nat.{ℕ, zero, suc, ◌*◌, ◌-◌, ◌%◌, ◌^◌, ◌≤◌, ◌<◌}
use mathlib.Core.Path.{◌≡◌, refl, sym, ap, ap₂, ◌∙◌, subst}
use mathlib.Core.Bool.{Bool, true, false, not, ◌&&◌, ◌||◌, or_assoc, or_comm, or-false, and-true, and-false}
use native.Mathlib.Omega.{arith}
use native.Mathlib.Nat.{one-mul}
use lib.Dec.{eqb}
use lib.Pow.{shl_exact, pow_mono, pow-lt}
use lib.Bits.{bit_and, bit_or, or_lt}
use lib.Count.{count_trailing_zeros}
use borrow.Author.Tests.{eq-eqb, ne_eqb, eqb-true, eqb-false}
use Rattle.meaning.specs.Matcher.{some_to}
use Rattle.meaning.proofs.Tests.{some_to_agree, some_to-none}
use Rattle.laws.specs.Bits.{bit}
use Rattle.matcher.specs.Sets.{stepped}
use Rattle.laws.proofs.Bits.{bit-or, bit-one, bit-none, bit_rest, bit_width, lowest_in}

-- One length apart from the others.
apart : (s g : ℕ → Bool) (k i : ℕ) → Bool
apart s g k i = (s i && not (eqb i k)) && g i

apart_other : (s g : ℕ → Bool) (k i : ℕ) → (i ≡ k → ⊥) → s i && g i ≡ apart s g k i
unfolding apart
apart_other s g k i h = ap (λ (b : Bool). b && g i) (sym (and-true (s i)) ∙ ap (λ (b : Bool). s i && not b) (sym (ne_eqb i k h)))

apart_same : (s g : ℕ → Bool) (k : ℕ) → apart s g k k ≡ false
unfolding apart
apart_same s g k = ap (λ (b : Bool). (s k && not b) && g k) (eq-eqb k k refl) ∙ ap (λ (b : Bool). b && g k) (and-false (s k))

past : (a b c : Bool) → a || (b || c) ≡ b || (a || c)
past a b c = sym (or_assoc a b c) ∙ ap (λ (x : Bool). x || c) (or_comm a b) ∙ or_assoc b a c

some_to_apart : (n : ℕ) (s g : ℕ → Bool) (k : ℕ) → k ≤ n → s k ≡ true → some_to n (λ i. s i && g i) ≡ g k || some_to n (apart s g k)
unfolding some_to
some_to_apart zero s g zero h e = ap (λ (b : Bool). b && g zero) e ∙ sym (or-false (g zero)) ∙ ap (λ (b : Bool). g zero || b) (sym (apart_same s g zero))
some_to_apart zero s g (suc k) h e = let w : ⊥ = omega arith in absurd w
some_to_apart (suc n) s g k h e =
    go (eqb k (suc n)) (eqb-true k (suc n)) (eqb-false k (suc n)) (λ l. some_to_apart n s g k l e)
  where
    go : (b : Bool) → (b ≡ true → k ≡ suc n) → (b ≡ false → k ≡ suc n → ⊥)
        → (k ≤ n → some_to n (λ i. s i && g i) ≡ g k || some_to n (apart s g k))
        → (s (suc n) && g (suc n)) || some_to n (λ i. s i && g i) ≡ g k || (apart s g k (suc n) || some_to n (apart s g k))
    go true t f ih =
        let q : k ≡ suc n = t refl in
        ap₂ (λ (a b : Bool). a || b)
        (ap (λ (i : ℕ). s i && g i) (sym q) ∙ ap (λ (b : Bool). b && g k) e)
        (some_to_agree n (λ i. s i && g i) (apart s g k) (λ i l. apart_other s g k i (λ (w : i ≡ k). omega arith))
        ∙ ap (λ (b : Bool). b || some_to n (apart s g k)) (sym (ap (apart s g k) (sym q) ∙ apart_same s g k)))
    go false t f ih =
        let d : k ≡ suc n → ⊥ = f refl in
        ap₂ (λ (a b : Bool). a || b)
        (apart_other s g k (suc n) (λ (w : suc n ≡ k). omega arith))
        (ih (omega arith))
        ∙ past (apart s g k (suc n)) (g k) (some_to n (apart s g k))

-- The lowest length of a set of lengths up to n.
below : (n rest : ℕ) → rest < 2 ^ suc n → n ≤ 32 → rest < 2 ^ 64
below n rest low few = let wide : 2 ^ suc n ≤ 2 ^ 64 = pow_mono {i = suc n} {j = 64} (omega arith) in omega arith

pub lowest_le : (n rest : ℕ) → 0 < rest → rest < 2 ^ suc n → n ≤ 32 → count_trailing_zeros 64 rest ≤ n
lowest_le n rest pos low few =
    let h : count_trailing_zeros 64 rest < suc n = bit_width (suc n) rest (count_trailing_zeros 64 rest) low (lowest_in 64 rest pos (below n rest low few)) in
    omega arith

-- One turn.
module _ (n : ℕ) (f : ℕ → ℕ) (rest r : ℕ) (pos : 0 < rest) (low : rest < 2 ^ suc n) (few : n ≤ 32) where
  one_bit : f (count_trailing_zeros 64 rest) ≤ n → (1 * 2 ^ f (count_trailing_zeros 64 rest)) % 2 ^ 64 ≡ 2 ^ f (count_trailing_zeros 64 rest)
  one_bit h = shl_exact {a = 1} 1 (f (count_trailing_zeros 64 rest)) 64 (omega arith) (omega arith) ∙ one-mul (2 ^ f (count_trailing_zeros 64 rest))

  pub turn : f (count_trailing_zeros 64 rest) ≤ n → (j : ℕ)
      → bit r j || stepped n f (bit rest) j
      ≡ bit (bit_or r ((1 * 2 ^ f (count_trailing_zeros 64 rest)) % 2 ^ 64)) j || stepped n f (bit (bit_and rest (rest - 1))) j
  unfolding apart
  turn h j =
      ap (λ (b : Bool). bit r j || b)
      (some_to_apart n (bit rest) (λ k. eqb (f k) j) (count_trailing_zeros 64 rest) (lowest_le n rest pos low few) (lowest_in 64 rest pos (below n rest low few)))
      ∙ sym (or_assoc (bit r j) (eqb (f (count_trailing_zeros 64 rest)) j) (some_to n (apart (bit rest) (λ k. eqb (f k) j) (count_trailing_zeros 64 rest))))
      ∙ ap₂ (λ (a b : Bool). a || b)
      (ap (λ (b : Bool). bit r j || b) (sym (bit-one (f (count_trailing_zeros 64 rest)) j))
      ∙ sym (bit-or r (2 ^ f (count_trailing_zeros 64 rest)) j)
      ∙ ap (λ (x : ℕ). bit (bit_or r x) j) (sym (one_bit h)))
      (some_to_agree n
      (apart (bit rest) (λ k. eqb (f k) j) (count_trailing_zeros 64 rest))
      (λ k. bit (bit_and rest (rest - 1)) k && eqb (f k) j)
      (λ k l. ap (λ (b : Bool). b && eqb (f k) j) (sym (bit_rest 64 rest k pos (below n rest low few)))))

  pub turn_lt : f (count_trailing_zeros 64 rest) ≤ n → r < 2 ^ suc n → bit_or r ((1 * 2 ^ f (count_trailing_zeros 64 rest)) % 2 ^ 64) < 2 ^ suc n
  turn_lt h l =
      or_lt (suc n) r ((1 * 2 ^ f (count_trailing_zeros 64 rest)) % 2 ^ 64) l
      (subst (λ (x : ℕ). x < 2 ^ suc n) (sym (one_bit h)) (pow-lt (omega arith)))

-- After the last turn.
pub stepped_done : (n : ℕ) (f : ℕ → ℕ) (s : Bool) (j : ℕ) → s || stepped n f (bit 0) j ≡ s
stepped_done n f s j =
    ap (λ (b : Bool). s || b) (some_to-none n (λ k. bit 0 k && eqb (f k) j) (λ k l. ap (λ (b : Bool). b && eqb (f k) j) (bit-none k)))
    ∙ or-false s
