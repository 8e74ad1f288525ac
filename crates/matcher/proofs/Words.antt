-- The laws by which crates above know what a cut stores: the set of two words and the way back, and that the meaning's sets keep
-- to the lengths of the sequence.
use Prim.Native.Nat.{ℕ, zero, suc, ◌+◌, ◌*◌, ◌-◌, ◌/◌, ◌%◌, ◌^◌, ◌≤◌, ◌<◌}
use mathlib.Core.Path.{◌≡◌, refl, sym, ap, ap₂, ◌∙◌, fun_ext}
use mathlib.Core.Bool.{Bool, true, false, cond, not, ◌&&◌, ◌||◌, and-true}
use native.Mathlib.Nat.{pow-suc, le-div_iff_mul-le, div-lt_iff_lt-mul, mod-le}
use native.Mathlib.Omega.{arith}
use lib.ListN.{length}
use lib.Dec.{eqb, leb, ltb}
use lib.Pow.{pow_mono, pow_pos}
use lib.Bits.{bit_or, or_lt}
use lib.Count.{count_trailing_zeros}
use borrow.Author.Tests.{eqb-true, eqb-false, lt-leb, ltb-true, ltb-false, leb-true, leb-false, lt-ltb, le-ltb}
use Rattle.property.proofs.Refusal.{taken_bounds}
use Rattle.meaning.specs.Words.{Line}
use Rattle.meaning.specs.Words
use Rattle.meaning.specs.Matcher.{State, state_next, is_matched, Lengths, some_to, some_length, none_of, at_start, either, moved}
use Rattle.meaning.specs.Step.{lengths, verdict_of}
use Rattle.meaning.specs.Numbers.{property_refusal}
use Rattle.meaning.proofs.Tests.{not_true, some_to_here, some_to-none, some_to_agree}
use Rattle.meaning.proofs.Lengths.{some_matched_found, is_matched_eq, next_le}
use Rattle.laws.specs.Bits.{bit, mask_to}
use Rattle.laws.proofs.Tests.{or_split, neither}
use Rattle.laws.proofs.Bits.{bit-zero, bit-suc, bit-none, bit-or, bit_mask, bit-above, bit_width, mask_ext, mask-bit, mask_lt, lowest_in}
use Rattle.laws.proofs.Places.{length-first}
use Rattle.property.specs.Meant.{meant}
use Rattle.property.specs.declared.Property.{Property}
use Rattle.matcher.specs.declared.Cut.{Cut}
use Rattle.table.specs.Table.{said, action_of_place}
use Rattle.matcher.specs.Sets.{set_of, armed_bits, cut_of, stray, Fits, set_verdict, Short, arranged, Arranged}
use Rattle.matcher.proofs.Moves.{below-whole, whole-alone}

-- ---- words in their range

pub fits_parts : (p : Property) (c : Cut) → Fits p c → (c.mask < 2 ^ suc p.n) × (c.armed < 2 ^ suc (suc p.n))
unfolding stray
fits_parts p c e =
    let r = or_split (leb (2 ^ suc p.n) c.mask) (leb (2 ^ suc (suc p.n)) c.armed) e in
    (leb-false (2 ^ suc p.n) c.mask r.0, leb-false (2 ^ suc (suc p.n)) c.armed r.1)

pub parts_fit : (p : Property) (c : Cut) → c.mask < 2 ^ suc p.n → c.armed < 2 ^ suc (suc p.n) → Fits p c
unfolding stray
parts_fit p c h m = neither (lt-leb (2 ^ suc p.n) c.mask h) (lt-leb (2 ^ suc (suc p.n)) c.armed m)

-- the armed lengths, as a mask of their own
pub armed-lt : (n m : ℕ) → m < 2 ^ suc (suc n) → m / 2 < 2 ^ suc n
armed-lt n m h = let e : 2 ^ suc (suc n) ≡ 2 ^ suc n * 2 = pow-suc 2 (suc n) in omega arith

-- ---- the set of two words

-- A set with no length from n on has a mask below 2 ^ n.
low_mask : (n w : ℕ) (f : ℕ → Bool) → n ≤ w → ((k : ℕ) → n ≤ k → f k ≡ false) → mask_to w f < 2 ^ n
unfolding mask_to
low_mask zero zero f l none = omega arith
low_mask zero (suc w) f l none =
    let m : mask_to w (λ k. f (suc k)) < 2 ^ 0 = low_mask zero w (λ k. f (suc k)) (omega arith) (λ k i. none (suc k) (omega arith)) in
    rw (none zero (omega arith)) (omega arith)
low_mask (suc n) zero f l none = let z : ⊥ = omega arith in absurd z
low_mask (suc n) (suc w) f l none = go (f zero) (low_mask n w (λ k. f (suc k)) (omega arith) (λ k i. none (suc k) (omega arith)))
  where
    go : (b : Bool) → mask_to w (λ k. f (suc k)) < 2 ^ n → mask_to w (λ k. f (suc k)) * 2 + cond b 1 0 < 2 ^ suc n
    go true m = let e : 2 ^ suc n ≡ 2 ^ n * 2 = pow-suc 2 n in omega arith
    go false m = let e : 2 ^ suc n ≡ 2 ^ n * 2 = pow-suc 2 n in omega arith

module _ (p : Property) (formed : property_refusal (meant p) ≡ 0) where
  few : p.n ≤ 32
  few = (taken_bounds p formed).most

  wide : 2 ^ suc p.n ≤ 2 ^ 64
  wide = pow_mono {i = suc p.n} {j = 64} (omega (arith, few))

  long : length (meant p).sequence ≡ p.n
  long = length-first (λ i. said (action_of_place p i)) p.n

  wider : 2 ^ suc (suc p.n) ≤ 2 ^ 64
  wider = pow_mono {i = suc (suc p.n)} {j = 64} (omega (arith, few))

  -- from words to the set and back
  pub cut_back : (c : Cut) → Fits p c → cut_of (set_of c) ≡ c
  unfolding set_of cut_of
  cut_back c e =
      let r = fits_parts p c e in
      ap₂ (λ (x y : ℕ). record { mask = x; armed = y })
      (mask-bit 64 c.mask (omega (arith, wide, r.0)))
      (mask_ext 64 (armed_bits (set_of c)) (bit c.armed) same ∙ mask-bit 64 c.armed (omega (arith, wider, r.1)))
    where
      same : (k : ℕ) → k < 64 → armed_bits (set_of c) k ≡ bit c.armed k
      same zero h = refl
      same (suc k) h = refl

  -- from a set to its words and back
  pub set_back : (s : Lengths) → Short (meant p) s → set_of (cut_of s) ≡ s
  unfolding set_of cut_of
  set_back s h = λ i. record { at = fun_ext (λ armed. fun_ext (same armed)) i; with_broken = bit_mask 64 (armed_bits s) 0 (omega arith) i }
    where
      stored : (g : ℕ → Bool) (k : ℕ) → (64 ≤ k → g k ≡ false) → bit (mask_to 64 g) k ≡ g k
      stored g k none = go (ltb k 64) (ltb-true k 64) (ltb-false k 64)
        where
          go : (t : Bool) → (t ≡ true → k < 64) → (t ≡ false → 64 ≤ k) → bit (mask_to 64 g) k ≡ g k
          go true y n = bit_mask 64 g k (y refl)
          go false y n = bit-above 64 (mask_to 64 g) k (mask_lt 64 g) (n refl) ∙ sym (none (n refl))

      same : (armed : Bool) (k : ℕ) → cond armed (bit (mask_to 64 (armed_bits s)) (suc k)) (bit (mask_to 64 (s.at false)) k) ≡ s.at armed k
      same true k = stored (armed_bits s) (suc k) (λ far. h.none_above true k (omega (arith, few, long)))
      same false k = stored (s.at false) k (λ far. h.none_above false k (omega (arith, few, long)))

  pub short_fits : (s : Lengths) → Short (meant p) s → Fits p (cut_of s)
  unfolding cut_of
  short_fits s h =
      parts_fit p (cut_of s)
      (low_mask (suc p.n) 64 (s.at false) (omega (arith, few)) (λ k l. h.none_above false k (omega (arith, long))))
      (low_mask (suc (suc p.n)) 64 (armed_bits s) (omega (arith, few)) none)
    where
      none : (k : ℕ) → suc (suc p.n) ≤ k → armed_bits s k ≡ false
      none zero l = let z : ⊥ = omega arith in absurd z
      none (suc k) l = h.none_above true k (omega (arith, long))

  pub fits_short : (c : Cut) → Fits p c → Short (meant p) (set_of c)
  unfolding set_of
  fits_short c e = record { none_above = none }
    where
      none : (armed : Bool) (k : ℕ) → length (meant p).sequence < k → cond armed (bit c.armed (suc k)) (bit c.mask k) ≡ false
      none true k h = bit-above (suc (suc p.n)) c.armed (suc k) (fits_parts p c e).1 (omega (arith, long))
      none false k h = bit-above (suc p.n) c.mask k (fits_parts p c e).0 (omega (arith, long))

-- ---- sets of the meaning keep to the lengths of the sequence

module _ (p : Words.Property) where
  pub none_short : Short p none_of
  none_short = record { none_above = λ armed k h. refl }

  pub start_short : Short p at_start
  start_short = record { none_above = none }
    where
      none : (armed : Bool) (k : ℕ) → length p.sequence < k → not armed && eqb k 0 ≡ false
      none true k h = refl
      none false k h = not_true (eqb k 0) (λ e. let q : k ≡ 0 = eqb-true k 0 e in let z : ⊥ = omega arith in z)

  pub either_short : (s t : Lengths) → Short p s → Short p t → Short p (either s t)
  either_short s t hs ht = record { none_above = λ armed k h. neither (hs.none_above armed k h) (ht.none_above armed k h) }

  pub moved_short : (s : Lengths) (l : Line) → Short p (moved p s l)
  moved_short s l = record { none_above = none }
    where
      none : (armed : Bool) (j : ℕ) → length p.sequence < j → (moved p s l).at armed j ≡ false
      none armed j h =
          not_true ((moved p s l).at armed j)
          (λ e.
          let t = some_matched_found p s (λ q. is_matched armed j (state_next p q l)) e in
          let le : j ≤ length p.sequence =
          next_le p t.0 armed t.1 j l (is_matched_eq p armed j (state_next p (State.matched t.0 t.1) l) t.4) in
          let z : ⊥ = omega arith in
          z)

-- ---- the verdict

-- A mask that is not 0 has a length in it.
pub some_in_mask : (n m : ℕ) → m < 2 ^ suc n → some_to n (bit m) ≡ not (eqb m 0)
some_in_mask n m low = go (eqb m 0) (eqb-true m 0) (eqb-false m 0)
  where
    go : (b : Bool) → (b ≡ true → m ≡ 0) → (b ≡ false → m ≡ 0 → ⊥) → some_to n (bit m) ≡ not b
    go true t d = some_to-none n (bit m) (λ k h. ap (λ (x : ℕ). bit x k) (t refl) ∙ bit-none k)
    go false t d =
        let q : m ≡ 0 → ⊥ = d refl in
        let pos : 0 < m = omega arith in
        let in-it : bit m (count_trailing_zeros (suc n) m) ≡ true = lowest_in (suc n) m pos low in
        let k : count_trailing_zeros (suc n) m < suc n = bit_width (suc n) m (count_trailing_zeros (suc n) m) low in-it in
        some_to_here n (bit m) (count_trailing_zeros (suc n) m) (omega arith) in-it

-- the lengths that are armed
pub armed_is : (m : ℕ) → (λ (k : ℕ). bit m (suc k)) ≡ bit (m / 2)
armed_is m = fun_ext (λ k. bit-suc m k)

unbroken_read : (p : Property) (c : Cut) → Fits p c → some_length (meant p) (set_of c) ≡ not (eqb c.mask 0) || not (eqb (c.armed / 2) 0)
unfolding set_of
unbroken_read p c e =
    ap₂ (λ (x y : Bool). x || y) (plain (bit c.mask)) (plain (λ k. bit c.armed (suc k)) ∙ ap (some_to p.n) (armed_is c.armed))
    ∙ ap₂ (λ (x y : Bool). x || y)
    (some_in_mask p.n c.mask (fits_parts p c e).0)
    (some_in_mask p.n (c.armed / 2) (armed-lt p.n c.armed (fits_parts p c e).1))
  where
    plain : (f : ℕ → Bool) → some_to (length (meant p).sequence) (λ k. f k && true) ≡ some_to p.n f
    plain f =
        ap (λ (n : ℕ). some_to n (λ k. f k && true)) (length-first (λ i. said (action_of_place p i)) p.n)
        ∙ some_to_agree p.n (λ k. f k && true) f (λ k h. and-true (f k))

pub verdict-read : (p : Property) (c : Cut) → Fits p c → (b u : Bool) → b ≡ bit c.armed 0 → u ≡ not (eqb c.mask 0) || not (eqb (c.armed / 2) 0)
    → verdict_of (meant p) (lengths (meant p)) b u ≡ set_verdict p (set_of c)
unfolding set_of
verdict-read p c e b u x y = ap₂ (verdict_of (meant p) (lengths (meant p))) x (y ∙ sym (unbroken_read p c e))

-- ---- two sets joined

pub joined_set : (a b : Cut) → set_of (record { mask = bit_or a.mask b.mask; armed = bit_or a.armed b.armed }) ≡ either (set_of a) (set_of b)
unfolding set_of
joined_set a b =
    ap₂ (λ (f : Bool → ℕ → Bool) (x : Bool). record { at = f; with_broken = x }) (fun_ext (λ armed. fun_ext (same armed))) (bit-or a.armed b.armed 0)
  where
    same : (armed : Bool) (k : ℕ) → cond armed (bit (bit_or a.armed b.armed) (suc k)) (bit (bit_or a.mask b.mask) k)
        ≡ cond armed (bit a.armed (suc k)) (bit a.mask k) || cond armed (bit b.armed (suc k)) (bit b.mask k)
    same true k = bit-or a.armed b.armed (suc k)
    same false k = bit-or a.mask b.mask k

pub joined_fits : (p : Property) (a b : Cut) → Fits p a → Fits p b → Fits p (record { mask = bit_or a.mask b.mask; armed = bit_or a.armed b.armed })
joined_fits p a b h k =
    parts_fit p (record { mask = bit_or a.mask b.mask; armed = bit_or a.armed b.armed })
    (or_lt (suc p.n) a.mask b.mask (fits_parts p a h).0 (fits_parts p b k).0)
    (or_lt (suc (suc p.n)) a.armed b.armed (fits_parts p a h).1 (fits_parts p b k).1)

-- ---- the words that the code puts together

-- broken, put into bit 0
pub put_bit : (b : Bool) → bit (cond b 1 0) 0 ≡ b
put_bit true = refl
put_bit false = refl

pub put_lt : (b : Bool) → cond b 1 0 < 2
put_lt true = omega arith
put_lt false = omega arith

-- and told from the last digit
pub broken_told : (m : ℕ) → bit (cond (eqb (m % 2) 1) 1 0) 0 ≡ bit m 0
broken_told m = put_bit (eqb (m % 2) 1) ∙ sym (bit-zero m)

module _ (n free still broken : ℕ) (f : free < 2 ^ suc n) (s : still < 2 ^ suc n) (b : broken < 2) where
  up_lt : bit_or (free - free % 2 ^ n) still < 2 ^ suc n
  up_lt = or_lt (suc n) (free - free % 2 ^ n) still (omega arith) s

  pub arranged_words : Arranged n free still broken (record { mask = free % 2 ^ n; armed = bit_or (free - free % 2 ^ n) still * 2 + broken })
  unfolding set_of
  arranged_words =
      record {
        set = ap₂ (λ (g : Bool → ℕ → Bool) (x : Bool). record { at = g; with_broken = x }) (fun_ext (λ armed. fun_ext (at armed))) low_bit;
        low_mask = let l : free % 2 ^ n ≤ free = mod-le free (2 ^ n) in omega arith;
        low_armed = let e : 2 ^ suc (suc n) ≡ 2 ^ suc n * 2 = pow-suc 2 (suc n) in omega (arith, up_lt);
      }
    where
      half : (u : ℕ) → (u * 2 + broken) / 2 ≡ u
      half u = omega arith

      at : (armed : Bool) (j : ℕ) → cond armed (bit (bit_or (free - free % 2 ^ n) still * 2 + broken) (suc j)) (bit (free % 2 ^ n) j)
          ≡ (arranged n (bit free) (bit still) (bit broken 0)).at armed j
      at true j =
          bit-suc (bit_or (free - free % 2 ^ n) still * 2 + broken) j
          ∙ ap (λ (x : ℕ). bit x j) (half (bit_or (free - free % 2 ^ n) still))
          ∙ bit-or (free - free % 2 ^ n) still j
          ∙ ap (λ (x : Bool). x || bit still j) (whole-alone n free f j)
      at false j = below-whole n free f j

      low_bit : bit (bit_or (free - free % 2 ^ n) still * 2 + broken) 0 ≡ bit broken 0
      low_bit =
          bit-zero (bit_or (free - free % 2 ^ n) still * 2 + broken)
          ∙ ap (λ (x : ℕ). eqb x 1) (let e : (bit_or (free - free % 2 ^ n) still * 2 + broken) % 2 ≡ broken % 2 = omega arith in e)
          ∙ sym (bit-zero broken)

-- a mask of lengths fits 33 bits
pub few-lengths : (n : ℕ) → n ≤ 32 → 2 ^ suc n ≤ 2 ^ 33
few-lengths n few = pow_mono {i = suc n} {j = 33} (omega arith)

-- ---- the code's test of the range

pub shifted : (v w m : ℕ) → v ≡ w → ltb 0 (m / 2 ^ v) ≡ leb (2 ^ w) m
shifted v w m e = ap (λ (k : ℕ). ltb 0 (m / 2 ^ k)) e ∙ go (leb (2 ^ w) m) (leb-true (2 ^ w) m) (leb-false (2 ^ w) m)
  where
    go : (b : Bool) → (b ≡ true → 2 ^ w ≤ m) → (b ≡ false → m < 2 ^ w) → ltb 0 (m / 2 ^ w) ≡ b
    go true y z =
        let h : 1 * 2 ^ w ≤ m = let l : 2 ^ w ≤ m = y refl in omega arith in
        lt-ltb 0 (m / 2 ^ w) ((le-div_iff_mul-le (pow_pos w)).1 h)
    go false y z =
        let h : m < 1 * 2 ^ w = let l : m < 2 ^ w = z refl in omega arith in
        let d : m / 2 ^ w < 1 = (div-lt_iff_lt-mul (pow_pos w)).1 h in
        le-ltb 0 (m / 2 ^ w) (omega arith)
