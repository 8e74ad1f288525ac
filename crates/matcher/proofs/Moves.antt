-- A set's step by the table is the meaning's: `moved`, read off masks.
use Prim.Native.Nat.{ℕ, zero, suc, ◌+◌, ◌*◌, ◌-◌, ◌/◌, ◌%◌, ◌^◌, ◌≤◌, ◌<◌}
use mathlib.Core.Path.{◌≡◌, refl, sym, ap, ap₂, ◌∙◌, subst, fun_ext}
use mathlib.Core.Bool.{Bool, true, false, cond, not, ◌&&◌, ◌||◌, or-false, and-true, and-false, and-or_distrib_right}
use mathlib.Core.List.{List}
use native.Mathlib.Nat.{pow-suc, one-mul, div-lt_iff_lt-mul}
use native.Mathlib.Omega.{arith}
use lib.ListN.{length, get_or}
use lib.Dec.{eqb, ltb}
use lib.Pow.{pow_pos, shl_exact, split}
use lib.Bits.{bit_and, and_mask, and_le_l}
use borrow.Author.Tests.{eq-eqb, ne_eqb, eqb-true, eqb-false, ltb-false, le-ltb}
use Rattle.meaning.specs.Words.{Action, Line}
use Rattle.meaning.specs.Matcher.{Lengths, State, some_to, is_input, is_matched, is_broken, matched_on, matched_next, outside, moved}
use Rattle.laws.specs.Bits.{bit}
use Rattle.property.specs.Meant.{action_of, meant}
use Rattle.property.specs.declared.Property.{Property}
use Rattle.matcher.specs.Sets.{stepped, arranged}
use Rattle.table.specs.Table.{said, action_of_place, row_of, IsTable}
use Rattle.laws.proofs.Bits.{bit_low, bit-above, bit-none, bit-one}
use Rattle.meaning.proofs.Tests.{some_to_agree, some_to-none}
use Rattle.meaning.proofs.Lengths.{fall_back-le}
use Rattle.laws.proofs.Places.{length-first}

-- The mask of all lengths below n.
pub ones_below : (n : ℕ) → n ≤ 32 → (1 * 2 ^ n) % 2 ^ 64 ≡ 2 ^ n
ones_below n few = shl_exact {a = 1} 1 n 64 (omega arith) (omega arith) ∙ one-mul (2 ^ n)

pub ones_pos : (n : ℕ) → n ≤ 32 → 1 ≤ (1 * 2 ^ n) % 2 ^ 64
ones_pos n few = subst (λ (x : ℕ). 1 ≤ x) (sym (ones_below n few)) (pow_pos n)

pub kept-le : (m n : ℕ) → bit_and m ((1 * 2 ^ n) % 2 ^ 64 - 1) ≤ m
kept-le m n = and_le_l m ((1 * 2 ^ n) % 2 ^ 64 - 1)

pub kept_is : (m n : ℕ) → n ≤ 32 → bit_and m ((1 * 2 ^ n) % 2 ^ 64 - 1) ≡ m % 2 ^ n
kept_is m n few = ap (λ (x : ℕ). bit_and m (x - 1)) (ones_below n few) ∙ and_mask m n

-- A mask of lengths up to n, without the whole match, and the whole match alone.
module _ (n m : ℕ) (low : m < 2 ^ suc n) where
  top_lt : m / 2 ^ n < 2
  top_lt = (div-lt_iff_lt-mul (pow_pos n)).1 (let e : 2 ^ suc n ≡ 2 ^ n * 2 = pow-suc 2 n in let h : m < 2 * 2 ^ n = omega arith in h)

  pub below-whole : (j : ℕ) → bit (m % 2 ^ n) j ≡ bit m j && not (eqb j n)
  below-whole j = bit_low n m j ∙ go (eqb j n) (eqb-true j n) (eqb-false j n) (ltb j n) refl
    where
      go : (b : Bool) → (b ≡ true → j ≡ n) → (b ≡ false → j ≡ n → ⊥) → (t : Bool) → ltb j n ≡ t → bit m j && t ≡ bit m j && not b
      go true y z t e = let q : j ≡ n = y refl in ap (λ (x : Bool). bit m j && x) (sym e ∙ le-ltb j n (omega arith))
      go false y z true e = refl
      go false y z false e =
          let q : j ≡ n → ⊥ = z refl in
          let l : n ≤ j = ltb-false j n e in
          and-false (bit m j) ∙ sym (ap (λ (x : Bool). x && true) (bit-above (suc n) m j low (omega arith)))

  pub whole-alone : (j : ℕ) → bit (m - m % 2 ^ n) j ≡ bit m j && eqb j n
  whole-alone j = go (m / 2 ^ n) refl top_lt (split m n) (eqb j n) (eqb-true j n) (eqb-false j n)
    where
      go : (q : ℕ) → m / 2 ^ n ≡ q → q < 2 → q * 2 ^ n + m % 2 ^ n ≡ m → (b : Bool) → (b ≡ true → j ≡ n) → (b ≡ false → j ≡ n → ⊥)
          → bit (m - m % 2 ^ n) j ≡ bit m j && b
      go zero d h e true y z =
          let r : m - m % 2 ^ n ≡ 0 = omega arith in
          let k : j ≡ n = y refl in
          ap (λ (x : ℕ). bit x j) r ∙ bit-none j
          ∙ sym (and-true (bit m j) ∙ ap (bit m) k ∙ ap (λ (x : ℕ). eqb (x % 2) 1) d)
      go zero d h e false y z =
          let r : m - m % 2 ^ n ≡ 0 = omega arith in
          ap (λ (x : ℕ). bit x j) r ∙ bit-none j ∙ sym (and-false (bit m j))
      go (suc zero) d h e true y z =
          let r : m - m % 2 ^ n ≡ 2 ^ n = omega arith in
          let k : j ≡ n = y refl in
          ap (λ (x : ℕ). bit x j) r ∙ bit-one n j ∙ eq-eqb n j (sym k)
          ∙ sym (and-true (bit m j) ∙ ap (bit m) k ∙ ap (λ (x : ℕ). eqb (x % 2) 1) d)
      go (suc zero) d h e false y z =
          let r : m - m % 2 ^ n ≡ 2 ^ n = omega arith in
          let k : j ≡ n → ⊥ = z refl in
          ap (λ (x : ℕ). bit x j) r ∙ bit-one n j ∙ ne_eqb n j (λ (w : n ≡ j). k (sym w)) ∙ sym (and-false (bit m j))
      go (suc (suc q)) d h e b y z = let w : ⊥ = omega arith in absurd w

-- ---- the meaning's step of a set, as sets of lengths

-- Is the goal v of a length, armed or not, the length j, armed or not?
goal : (armed c : Bool) (n v j : ℕ)
    → is_matched armed j (State.matched (eqb v n || c) v) ≡ eqb v j && cond armed (eqb j n || c) (not (eqb j n || c))
goal armed c n v j = go (eqb v j) (eqb-true v j)
  where
    go : (b : Bool) → (b ≡ true → v ≡ j)
        → cond armed (eqb v n || c) (not (eqb v n || c)) && b ≡ b && cond armed (eqb j n || c) (not (eqb j n || c))
    go true y = and-true (cond armed (eqb v n || c) (not (eqb v n || c))) ∙ ap (λ (x : ℕ). cond armed (eqb x n || c) (not (eqb x n || c))) (y refl)
    go false y = and-false (cond armed (eqb v n || c) (not (eqb v n || c)))

-- A test that is the same for all lengths, and two sets stepped together.
stepped-and : (n : ℕ) (f : ℕ → ℕ) (s : ℕ → Bool) (j : ℕ) (d : Bool) → some_to n (λ k. s k && (eqb (f k) j && d)) ≡ stepped n f s j && d
stepped-and n f s j true =
    some_to_agree n (λ k. s k && (eqb (f k) j && true)) (λ k. s k && eqb (f k) j) (λ k h. ap (λ (x : Bool). s k && x) (and-true (eqb (f k) j)))
    ∙ sym (and-true (stepped n f s j))
stepped-and n f s j false =
    some_to-none n (λ k. s k && (eqb (f k) j && false)) (λ k h. ap (λ (x : Bool). s k && x) (and-false (eqb (f k) j)) ∙ and-false (s k))
    ∙ sym (and-false (stepped n f s j))

some_to-or : (n : ℕ) (f g : ℕ → Bool) → some_to n (λ k. f k || g k) ≡ some_to n f || some_to n g
unfolding some_to
some_to-or zero f g = refl
some_to-or (suc n) f g = ap (λ (x : Bool). (f (suc n) || g (suc n)) || x) (some_to-or n f g) ∙ four (f (suc n)) (g (suc n)) (some_to n f) (some_to n g)
  where
    four : (a b c d : Bool) → (a || b) || (c || d) ≡ (a || c) || (b || d)
    four true b c d = refl
    four false true true d = refl
    four false true false d = refl
    four false false c d = refl

stepped-or : (n : ℕ) (f : ℕ → ℕ) (s t : ℕ → Bool) (j : ℕ) → stepped n f (λ k. s k || t k) j ≡ stepped n f s j || stepped n f t j
stepped-or n f s t j =
    some_to_agree n (λ k. (s k || t k) && eqb (f k) j) (λ k. (s k && eqb (f k) j) || (t k && eqb (f k) j)) (λ k h. and-or_distrib_right (s k) (t k) (eqb (f k) j))
    ∙ some_to-or n (λ k. s k && eqb (f k) j) (λ k. t k && eqb (f k) j)

module _ (p : Property) (table : List ℕ) (is : IsTable p table) (output : Bool) (action at : ℕ)
    (row : at ≡ row_of output action) where
  entry_is : (k : ℕ) → k ≤ p.n → get_or table (at + k) 0 ≡ matched_next (meant p).sequence k (action_of output action)
  entry_is k h = ap (λ (x : ℕ). get_or table (x + k) 0) row ∙ is.looked_up output action k h

  long : length (meant p).sequence ≡ p.n
  long = length-first (λ i. said (action_of_place p i)) p.n

  pub entry-le : (k : ℕ) → k ≤ p.n → get_or table (at + k) 0 ≤ p.n
  entry-le k h =
      subst (λ (x : ℕ). x ≤ p.n) (sym (entry_is k h))
      (subst (λ (x : ℕ). matched_next (meant p).sequence k (action_of output action) ≤ x) long
      (fall_back-le (λ i. get_or (meant p).sequence i (Action.input 0)) (length (meant p).sequence) k (action_of output action) k))

  abbrev a : Action
  a = action_of output action

  abbrev f : ℕ → ℕ
  f k = get_or table (at + k) 0

  abbrev next : ℕ → ℕ
  next k = matched_next (meant p).sequence k a

  -- the lengths of a set that an action leads to, from those that are armed or from the others
  part : (ℕ → Bool) → Bool → Bool → ℕ → Bool
  part s b armed j =
      some_to (length (meant p).sequence)
      (λ k. s k && is_matched armed j (cond (b && outside (meant p) a) State.broken (matched_on (meant p) b a (next k))))

  part_on : (s : ℕ → Bool) (b c armed : Bool) (j : ℕ) → b && outside (meant p) a ≡ false → b && is_input a ≡ c
      → part s b armed j ≡ stepped p.n f s j && cond armed (eqb j p.n || c) (not (eqb j p.n || c))
  unfolding part
  part_on s b c armed j o i =
      ap
      (λ (n : ℕ).
      some_to n (λ k. s k && is_matched armed j (cond (b && outside (meant p) a) State.broken (State.matched (eqb (next k) n || (b && is_input a)) (next k)))))
      long
      ∙ some_to_agree p.n
      (λ k. s k && is_matched armed j (cond (b && outside (meant p) a) State.broken (State.matched (eqb (next k) p.n || (b && is_input a)) (next k))))
      (λ k. s k && (eqb (f k) j && cond armed (eqb j p.n || c) (not (eqb j p.n || c))))
      (λ k h.
      ap (λ (x : Bool). s k && x)
      (ap₂ (λ (x y : Bool). is_matched armed j (cond x State.broken (State.matched (eqb (next k) p.n || y) (next k)))) o i
      ∙ goal armed c p.n (next k) j
      ∙ ap (λ (v : ℕ). eqb v j && cond armed (eqb j p.n || c) (not (eqb j p.n || c))) (sym (entry_is k h))))
      ∙ stepped-and p.n f s j (cond armed (eqb j p.n || c) (not (eqb j p.n || c)))

  part-broken : (s : ℕ → Bool) (armed : Bool) (j : ℕ) → outside (meant p) a ≡ true → part s true armed j ≡ false
  unfolding part
  part-broken s armed j o =
      some_to-none (length (meant p).sequence) _
      (λ k h. ap (λ (x : Bool). s k && is_matched armed j (cond x State.broken (matched_on (meant p) true a (next k)))) o ∙ and-false (s k))

  -- those that break
  lost : (ℕ → Bool) → Bool → Bool
  lost s b = some_to (length (meant p).sequence) (λ k. s k && is_broken (cond (b && outside (meant p) a) State.broken (matched_on (meant p) b a (next k))))

  lost-none : (s : ℕ → Bool) (b : Bool) → b && outside (meant p) a ≡ false → lost s b ≡ false
  unfolding lost
  lost-none s b o =
      some_to-none (length (meant p).sequence) _
      (λ k h. ap (λ (x : Bool). s k && is_broken (cond x State.broken (matched_on (meant p) b a (next k)))) o ∙ and-false (s k))

  lost-all : (s : ℕ → Bool) → outside (meant p) a ≡ true → lost s true ≡ some_to p.n s
  unfolding lost
  lost-all s o =
      some_to_agree (length (meant p).sequence) _ s
      (λ k h. ap (λ (x : Bool). s k && is_broken (cond x State.broken (matched_on (meant p) true a (next k)))) o ∙ and-true (s k))
      ∙ ap (λ (n : ℕ). some_to n s) long

  module _ (s : Lengths) (t : ℕ) where
    abbrev l : Line
    l = record { action = a; stamp = t }

    -- a set with these lengths and this test of broken is the one moved to
    same_set : (free still : ℕ → Bool) (broken : Bool)
        → ((armed : Bool) (j : ℕ) → (arranged p.n free still broken).at armed j ≡ part (s.at false) false armed j || part (s.at true) true armed j)
        → broken ≡ s.with_broken || (lost (s.at false) false || lost (s.at true) true)
        → arranged p.n free still broken ≡ moved (meant p) s l
    unfolding part lost
    same_set free still broken e d =
        ap₂ (λ (g : Bool → ℕ → Bool) (x : Bool). record { at = g; with_broken = x }) (fun_ext (λ armed. fun_ext (e armed))) d

    or_none : (x y z : Bool) → y ≡ false → z ≡ false → x ≡ x || (y || z)
    or_none x y z h k = sym (or-false x) ∙ ap₂ (λ (u v : Bool). x || (u || v)) (sym h) (sym k)

    -- An input.
    pub moved-input : is_input a ≡ true → outside (meant p) a ≡ false
        → arranged p.n (stepped p.n f (s.at false)) (stepped p.n f (s.at true)) s.with_broken ≡ moved (meant p) s l
    moved-input i o =
        same_set (stepped p.n f (s.at false)) (stepped p.n f (s.at true)) s.with_broken same
        (or_none s.with_broken (lost (s.at false) false) (lost (s.at true) true) (lost-none (s.at false) false refl) (lost-none (s.at true) true o))
      where
        whole : (x y : Bool) → x && (y || true) ≡ x
        whole x true = and-true x
        whole x false = and-true x

        none : (x y : Bool) → x && not (y || true) ≡ false
        none x true = and-false x
        none x false = and-false x

        same : (armed : Bool) (j : ℕ) → (arranged p.n (stepped p.n f (s.at false)) (stepped p.n f (s.at true)) s.with_broken).at armed j
            ≡ part (s.at false) false armed j || part (s.at true) true armed j
        same true j =
            ap₂ (λ (x y : Bool). x || y)
            (ap (λ (x : Bool). stepped p.n f (s.at false) j && x) (sym (or-false (eqb j p.n)))
            ∙ sym (part_on (s.at false) false false true j refl refl))
            (sym (part_on (s.at true) true true true j o i ∙ whole (stepped p.n f (s.at true) j) (eqb j p.n)))
        same false j =
            sym (or-false (stepped p.n f (s.at false) j && not (eqb j p.n)))
            ∙ ap₂ (λ (x y : Bool). x || y)
            (ap (λ (x : Bool). stepped p.n f (s.at false) j && not x) (sym (or-false (eqb j p.n)))
            ∙ sym (part_on (s.at false) false false false j refl refl))
            (sym (part_on (s.at true) true true false j o i ∙ none (stepped p.n f (s.at true) j) (eqb j p.n)))

    -- An output: nothing stays armed but whole matches.
    flag : Bool → ℕ → Bool
    flag armed j = cond armed (eqb j p.n || false) (not (eqb j p.n || false))

    by_flag : (free : ℕ → Bool) (broken armed : Bool) (j : ℕ) → (arranged p.n free (λ k. false) broken).at armed j ≡ free j && flag armed j
    unfolding flag
    by_flag free broken true j = or-false (free j && eqb j p.n) ∙ ap (λ (x : Bool). free j && x) (sym (or-false (eqb j p.n)))
    by_flag free broken false j = ap (λ (x : Bool). free j && not x) (sym (or-false (eqb j p.n)))

    -- An output that is allowed.
    pub moved-allowed : is_input a ≡ false → outside (meant p) a ≡ false
        → arranged p.n (stepped p.n f (λ k. s.at false k || s.at true k)) (λ k. false) s.with_broken ≡ moved (meant p) s l
    unfolding flag
    moved-allowed i o =
        same_set (stepped p.n f (λ k. s.at false k || s.at true k)) (λ k. false) s.with_broken
        (λ armed j.
        by_flag (stepped p.n f (λ k. s.at false k || s.at true k)) s.with_broken armed j
        ∙ ap (λ (x : Bool). x && flag armed j) (stepped-or p.n f (s.at false) (s.at true) j)
        ∙ and-or_distrib_right (stepped p.n f (s.at false) j) (stepped p.n f (s.at true) j) (flag armed j)
        ∙ ap₂ (λ (x y : Bool). x || y)
        (sym (part_on (s.at false) false false armed j refl refl))
        (sym (part_on (s.at true) true false armed j o i)))
        (or_none s.with_broken (lost (s.at false) false) (lost (s.at true) true) (lost-none (s.at false) false refl) (lost-none (s.at true) true o))

    -- An output outside the allowed set.
    pub moved-outside : outside (meant p) a ≡ true
        → arranged p.n (stepped p.n f (s.at false)) (λ k. false) (s.with_broken || some_to p.n (s.at true)) ≡ moved (meant p) s l
    unfolding flag
    moved-outside o =
        same_set (stepped p.n f (s.at false)) (λ k. false) (s.with_broken || some_to p.n (s.at true))
        (λ armed j.
        by_flag (stepped p.n f (s.at false)) (s.with_broken || some_to p.n (s.at true)) armed j
        ∙ sym (or-false (stepped p.n f (s.at false) j && flag armed j))
        ∙ ap₂ (λ (x y : Bool). x || y) (sym (part_on (s.at false) false false armed j refl refl)) (sym (part-broken (s.at true) armed j o)))
        (ap₂ (λ (x y : Bool). s.with_broken || (x || y)) (sym (lost-none (s.at false) false refl)) (sym (lost-all (s.at true) o)))

-- "an output outside the allowed set", told from the mask of allowed outputs.
module _ (p : Property) (allowed action : ℕ) (output : Bool) (q : p.allowed ≡ allowed) where
  pub output-outside : output ≡ true → not (bit allowed action) ≡ outside (meant p) (action_of output action)
  output-outside e = ap (λ (x : ℕ). not (bit x action)) (sym q) ∙ ap (λ (o : Bool). outside (meant p) (action_of o action)) (sym e)

  pub unnamed_outside : output ≡ true → allowed < 2 ^ 64 → 64 ≤ action → true ≡ outside (meant p) (action_of output action)
  unnamed_outside e h l = ap not (sym (bit-above 64 allowed action h l)) ∙ output-outside e

  pub input-inside : output ≡ false → false ≡ outside (meant p) (action_of output action)
  input-inside e = ap (λ (o : Bool). outside (meant p) (action_of o action)) (sym e)
