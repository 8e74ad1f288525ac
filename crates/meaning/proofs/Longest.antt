-- The longest beginning of the sequence that ends a history: after one more action it is the one that the definition falls back to.
use Prim.Native.Nat.{ℕ, zero, suc, ◌≤◌, ◌<◌}
use mathlib.Core.Path.{◌≡◌, refl, sym, ◌∙◌, ap}
use mathlib.Core.Bool.{Bool, true, false, cond, not, true≢false, ◌&&◌}
use mathlib.Core.List.{List, [], ◌∷◌, ◌++◌, reverse, reverse-append}
use native.Mathlib.Omega.{arith}
use lib.ListN.{length, take}
use lib.Seq.{take-suc, take-length}
use lib.Dec.{T, leb, leb→le, nleb→lt}
use borrow.Author.Tests.{lt-ltb, le-ltb}
use Rattle.meaning.specs.Words.{Action}
use Rattle.meaning.specs.Matcher.{same, place, ends, goes_on, fall_back}
use Rattle.meaning.proofs.Tests.{not_true, both, and_true, same_eq, same_refl}

-- A history is a list of actions with the latest first. The first j actions of the sequence end it:
unfoldable pub ended : (ℕ → Action) → ℕ → List Action → Bool
ended s zero r = true
ended s (suc j) [] = false
ended s (suc j) (a ∷ r) = same (s j) a && ended s j r

-- the greatest j up to n of which that holds
unfoldable pub longest : (ℕ → Action) → ℕ → List Action → ℕ
longest s zero r = zero
longest s (suc j) r = cond (ended s (suc j) r) (suc j) (longest s j r)

module _ (s : ℕ → Action) where
  pub longest-le : (n : ℕ) (r : List Action) → longest s n r ≤ n
  unfolding longest
  longest-le zero r = omega arith
  longest-le (suc j) r = go (ended s (suc j) r) (longest-le j r)
    where
      go : (t : Bool) → longest s j r ≤ j → cond t (suc j) (longest s j r) ≤ suc j
      go true h = omega arith
      go false h = omega arith

  pub longest-ends : (n : ℕ) (r : List Action) → ended s (longest s n r) r ≡ true
  unfolding longest ended
  longest-ends zero r = refl
  longest-ends (suc j) r = go (ended s (suc j) r) refl (longest-ends j r)
    where
      go : (t : Bool) → ended s (suc j) r ≡ t → ended s (longest s j r) r ≡ true → ended s (cond t (suc j) (longest s j r)) r ≡ true
      go true e h = e
      go false e h = h

  pub longest-most : (n : ℕ) (r : List Action) (j : ℕ) → j ≤ n → ended s j r ≡ true → j ≤ longest s n r
  unfolding longest
  longest-most zero r j h e = h
  longest-most (suc n) r j h e = go (ended s (suc n) r) refl (longest-most n r j)
    where
      go : (t : Bool) → ended s (suc n) r ≡ t → (j ≤ n → ended s j r ≡ true → j ≤ longest s n r) → j ≤ cond t (suc n) (longest s n r)
      go true q ih = h
      go false q ih = pick (leb j n) (leb→le j n) (nleb→lt j n)
        where
          pick : (c : Bool) → (T c → j ≤ n) → (T (not c) → n < j) → j ≤ longest s n r
          pick true y z = ih (y tt) e
          pick false y z =
              let l : n < j = z tt in
              let w : j ≡ suc n = omega arith in
              absurd (true≢false (sym e ∙ ap (λ (i : ℕ). ended s i r) w ∙ q))

  -- what ends a history that the first m end, and is no longer, ends the first m
  ended_by : (m : ℕ) (r : List Action) → ended s m r ≡ true → (j : ℕ) → j ≤ m → ended s j r ≡ ends s j m
  unfolding ended ends
  ended_by m r e zero h = refl
  ended_by zero r e (suc j) h = let z : ⊥ = omega arith in absurd z
  ended_by (suc m) [] e (suc j) h = absurd (true≢false (sym e))
  ended_by (suc m) (a ∷ r) e (suc j) h =
      let q : (same (s m) a ≡ true) × (ended s m r ≡ true) = both (same (s m) a) (ended s m r) e in
      let w : s m ≡ a = same_eq (s m) a q.0 in
      let ih : ended s j r ≡ ends s j m = ended_by m r q.1 j (omega arith) in
      ap (λ (x : Action). same (s j) x && ended s j r) (sym w) ∙ ap (λ (t : Bool). same (s j) (s m) && t) ih

  module _ (n : ℕ) (r : List Action) (a : Action) where
    -- the test of the search, and that of the definition
    test : (j : ℕ) → j ≤ longest s n r → suc j ≤ n → same (s j) a && ended s j r ≡ goes_on s n (longest s n r) j a
    test j h k =
        ap (λ (t : Bool). same (s j) a && t) (ended_by (longest s n r) r (longest-ends n r) j h)
        ∙ ap (λ (t : Bool). t && same (s j) a && ends s j (longest s n r)) (sym (lt-ltb j n k))

    -- from the matched length downwards the search is the recursion of the definition
    search : (j : ℕ) → j ≤ longest s n r → suc j ≤ n → longest s (suc j) (a ∷ r) ≡ fall_back s n (longest s n r) a j
    unfolding longest ended fall_back
    search zero h k = ap (λ (t : Bool). cond t 1 0) (test zero h k)
    search (suc j) h k =
        ap (λ (t : Bool). cond t (suc (suc j)) (longest s (suc j) (a ∷ r))) (test (suc j) h k)
        ∙ ap (λ (i : ℕ). cond (goes_on s n (longest s n r) (suc j) a) (suc (suc j)) i) (search j (omega arith) (omega arith))

    -- above it nothing ends the history
    short : (j : ℕ) → longest s n r < j → j ≤ n → ended s j r ≡ false
    short j l k = not_true (ended s j r) (λ e. let q : j ≤ longest s n r = longest-most n r j k e in let z : ⊥ = omega arith in absurd z)

    and_false : (x y : Bool) → y ≡ false → x && y ≡ false
    and_false true y e = e
    and_false false y e = refl

    above : (j : ℕ) → longest s n r ≤ j → suc j ≤ n → longest s (suc j) (a ∷ r) ≡ longest s (suc (longest s n r)) (a ∷ r)
    unfolding longest ended
    above zero h k = ap (λ (i : ℕ). longest s (suc i) (a ∷ r)) (omega arith)
    above (suc j) h k = pick (leb (longest s n r) j) (leb→le _ _) (nleb→lt _ _) (λ l. above j l (omega arith))
      where
        pick : (c : Bool) → (T c → longest s n r ≤ j) → (T (not c) → j < longest s n r)
            → (longest s n r ≤ j → longest s (suc j) (a ∷ r) ≡ longest s (suc (longest s n r)) (a ∷ r))
            → cond (same (s (suc j)) a && ended s (suc j) r) (suc (suc j)) (longest s (suc j) (a ∷ r)) ≡ longest s (suc (longest s n r)) (a ∷ r)
        pick true y z ih =
            let l : longest s n r ≤ j = y tt in
            ap (λ (t : Bool). cond t (suc (suc j)) (longest s (suc j) (a ∷ r)))
            (and_false (same (s (suc j)) a) (ended s (suc j) r) (short (suc j) (omega arith) (omega arith)))
            ∙ ih l
        pick false y z ih = let l : j < longest s n r = z tt in ap (λ (i : ℕ). longest s (suc i) (a ∷ r)) (omega arith)

  no_sequence : (m : ℕ) (r : List Action) (a : Action) → m ≤ 0 → fall_back s 0 m a m ≡ longest s zero (a ∷ r)
  unfolding fall_back longest
  no_sequence zero r a h = refl
  no_sequence (suc m) r a h = let z : ⊥ = omega arith in absurd z

  -- the whole sequence goes on with nothing
  whole : (n : ℕ) (a : Action) → fall_back s (suc n) (suc n) a (suc n) ≡ fall_back s (suc n) (suc n) a n
  unfolding fall_back
  whole n a =
      ap (λ (t : Bool). cond (t && same (s (suc n)) a && ends s (suc n) (suc n)) (suc (suc n)) (fall_back s (suc n) (suc n) a n)) (le-ltb (suc n) (suc n) (omega arith))

  -- the law of the matcher
  pub longest-next : (n : ℕ) (r : List Action) (a : Action) → longest s n (a ∷ r) ≡ fall_back s n (longest s n r) a (longest s n r)
  longest-next zero r a = sym (no_sequence (longest s zero r) r a (longest-le zero r))
  longest-next (suc n) r a = pick (leb (longest s (suc n) r) n) (leb→le _ _) (nleb→lt _ _)
    where
      pick : (c : Bool) → (T c → longest s (suc n) r ≤ n) → (T (not c) → n < longest s (suc n) r)
          → longest s (suc n) (a ∷ r) ≡ fall_back s (suc n) (longest s (suc n) r) a (longest s (suc n) r)
      pick true y z =
          let h : longest s (suc n) r ≤ n = y tt in
          above (suc n) r a n h (omega arith) ∙ search (suc n) r a (longest s (suc n) r) (omega arith) (omega arith)
      pick false y z =
          let l : n < longest s (suc n) r = z tt in
          let k : longest s (suc n) r ≡ suc n = omega (arith, longest-le (suc n) r) in
          search (suc n) r a n (omega arith) (omega arith)
          ∙ ap (λ (m : ℕ). fall_back s (suc n) m a n) k
          ∙ sym (whole n a)
          ∙ ap (λ (m : ℕ). fall_back s (suc n) m a m) (sym k)

-- ---- the whole sequence ends a history

-- the first k actions, as a history
unfoldable pub beginning : (ℕ → Action) → ℕ → List Action
beginning s zero = []
beginning s (suc k) = s k ∷ beginning s k

module _ (s : ℕ → Action) where
  pub ended_split : (k : ℕ) (r : List Action) → ended s k r ≡ true → (rest : List Action) × (r ≡ beginning s k ++ rest)
  unfolding ended beginning
  ended_split zero r e = (r, refl)
  ended_split (suc k) [] e = absurd (true≢false (sym e))
  ended_split (suc k) (a ∷ r) e =
      let q : (same (s k) a ≡ true) × (ended s k r ≡ true) = both (same (s k) a) (ended s k r) e in
      let t : ((rest : List Action) × (r ≡ beginning s k ++ rest)) = ended_split k r q.1 in
      let w : s k ≡ a = same_eq (s k) a q.0 in
      (t.0, cc (w, t.1))

  pub ended-join : (k : ℕ) (rest : List Action) → ended s k (beginning s k ++ rest) ≡ true
  unfolding ended beginning
  ended-join zero rest = refl
  ended-join (suc k) rest = and_true (same_refl (s k)) (ended-join k rest)

-- the whole sequence as a history is the sequence turned round
beginning_take : (q : List Action) (k : ℕ) → k ≤ length q → beginning (place q) k ≡ reverse (take k q)
unfolding beginning
beginning_take q zero h = refl
beginning_take q (suc k) h =
    ap (λ (r : List Action). place q k ∷ r) (beginning_take q k (omega arith))
    ∙ sym (reverse-append (take k q) (place q k ∷ []))
    ∙ ap reverse (sym (take-suc q k (Action.input 0) (omega arith)))

pub beginning_whole : (q : List Action) → beginning (place q) (length q) ≡ reverse q
beginning_whole q = beginning_take q (length q) (omega arith) ∙ ap reverse (take-length q)
