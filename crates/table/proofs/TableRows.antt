-- Laws of the table: where rows stand, what a row says, and that a table with every row right is the property's.
use Prim.Native.Nat.{ℕ, zero, suc, ◌+◌, ◌*◌, ◌-◌, ◌≤◌, ◌<◌}
use mathlib.Core.Path.{◌≡◌, refl, sym, ap, ap₂, ◌∙◌, subst}
use mathlib.Core.Logic.{◌⊎◌, inl, inr}
use mathlib.Core.Bool.{Bool, true, false, cond, false≢true}
use mathlib.Core.List.{List}
use native.Mathlib.Omega.{arith}
use lib.ListN.{length, get_or}
use lib.Dec.{leb, eqb}
use borrow.Author.Tests.{leb-true, leb-false, le-leb, eqb-true, eqb-false}
use Rattle.meaning.specs.Words.{Action}
use Rattle.meaning.specs.Matcher.{same, fall_back}
use Rattle.property.specs.Meant.{action_of}
use Rattle.table.specs.Table.{no_action, at_place, row_of, row_entry, RowRight, RowFilled, Made}
use Rattle.table.specs.declared.Action as declared
use Rattle.table.proofs.Recursion.{fall_back_unnamed}

pub row_le : (output : Bool) (action : ℕ) → row_of output action ≤ 4224
row_le output action = go (leb action 63) (leb-true action 63) output
  where
    go : (b : Bool) → (b ≡ true → action ≤ 63) → (output : Bool) → cond b (cond output (2112 + action * 33) (action * 33)) 4224 ≤ 4224
    go true t true = let h : action ≤ 63 = t refl in omega arith
    go true t false = let h : action ≤ 63 = t refl in omega arith
    go false t output = omega arith

pub row_entry-at : (s : ℕ → Action) (n : ℕ) (output : Bool) (action at k : ℕ) → at ≡ row_of output action
    → row_entry s n output action (at + k) ≡ fall_back s n k (action_of output action) k
row_entry-at s n output action at k e =
    ap (λ (j : ℕ). fall_back s n j (action_of output action) j) (let q : at + k - row_of output action ≡ k = omega arith in q)

-- Rows of different actions are apart, where one of the two is an action that a property may name.
abbrev Beside : ℕ → ℕ → Type 0
Beside a b = (a + 33 ≤ b) ⊎ (b + 33 ≤ a)

pub Apart : Bool → ℕ → Bool → ℕ → Type 0
Apart output action output2 action2 = ((output ≡ output2) × (action ≡ action2)) ⊎ Beside (row_of output action) (row_of output2 action2)

apart_numbers : (b c : ℕ) → (b ≡ c) ⊎ Beside (b * 33) (c * 33)
apart_numbers b c = go (leb b c) (leb-true b c) (leb-false b c) (leb c b) (leb-true c b) (leb-false c b)
  where
    go : (x : Bool) → (x ≡ true → b ≤ c) → (x ≡ false → c < b) → (y : Bool) → (y ≡ true → c ≤ b) → (y ≡ false → b < c)
        → (b ≡ c) ⊎ Beside (b * 33) (c * 33)
    go true t f true u g = inl (let h : b ≤ c = t refl in let k : c ≤ b = u refl in omega arith)
    go true t f false u g = inr (inl (let h : b < c = g refl in omega arith))
    go false t f y u g = inr (inr (let h : c < b = f refl in omega arith))

pub rows_apart : (output : Bool) (action : ℕ) (output2 : Bool) (action2 : ℕ) → action2 ≤ 63 → Apart output action output2 action2
unfolding Apart
rows_apart output action output2 action2 h =
    let at = cond output2 (2112 + action2 * 33) (action2 * 33) in
    subst (λ (x : Bool). ((output ≡ output2) × (action ≡ action2)) ⊎ Beside (row_of output action) (cond x at 4224))
    (sym (le-leb action2 63 h))
    (go (leb action 63) (leb-true action 63) (leb-false action 63) output output2 (apart_numbers action action2))
  where
    go : (x : Bool) → (x ≡ true → action ≤ 63) → (x ≡ false → 63 < action) → (output output2 : Bool)
        → (action ≡ action2) ⊎ Beside (action * 33) (action2 * 33)
        → ((output ≡ output2) × (action ≡ action2))
        ⊎ Beside (cond x (cond output (2112 + action * 33) (action * 33)) 4224) (cond output2 (2112 + action2 * 33) (action2 * 33))
    go false t f output true d = inr (inr (omega arith))
    go false t f output false d = inr (inr (omega arith))
    go true t f true true (inl e) = inl (refl, e)
    go true t f true true (inr (inl e)) = inr (inl (omega arith))
    go true t f true true (inr (inr e)) = inr (inr (omega arith))
    go true t f false false (inl e) = inl (refl, e)
    go true t f false false (inr (inl e)) = inr (inl (omega arith))
    go true t f false false (inr (inr e)) = inr (inr (omega arith))
    go true t f true false d = inr (inr (omega arith))
    go true t f false true d = inr (inl (let k : action ≤ 63 = t refl in omega arith))

-- The row of an action that no place has had yet.
pub RowEmpty : ℕ → Bool → ℕ → List ℕ → Type 0
RowEmpty n output action t = (k : ℕ) → k ≤ n → get_or t (row_of output action + k) 0 ≡ 0

-- The row of the action at place j of a sequence, and that it is right.
abbrev row_at : List declared.Action → ℕ → ℕ
row_at acts j = row_of (get_or acts j no_action).output (get_or acts j no_action).number

abbrev RightAt : List declared.Action → ℕ → ℕ → List ℕ → Type 0
RightAt acts n j t = RowRight (at_place acts) n (get_or acts j no_action).output (get_or acts j no_action).number t

-- The table while it is made: the rows of the first i places are right, and every row is right or empty.
pub record Making (acts : List declared.Action) (n i : ℕ) (t : List ℕ) : Type 0 where
  pub long : length t ≡ 4257
  pub named : (j : ℕ) → j < i → RightAt acts n j t
  pub each : (output : Bool) (action : ℕ) → RowRight (at_place acts) n output action t ⊎ RowEmpty n output action t

module _ (acts : List declared.Action) (n : ℕ) (few : n ≤ 32) where
  abbrev Right : Bool → ℕ → List ℕ → Type 0
  Right output action t = RowRight (at_place acts) n output action t

  pub making_none : (t : List ℕ) → length t ≡ 4257 → ((i : ℕ) → get_or t i 0 ≡ 0) → Making acts n 0 t
  unfolding RowEmpty
  making_none t l z =
      record {
        long = l;
        named = λ j h. let w : ⊥ = omega arith in absurd w;
        each = λ output action. inr (λ k h. z (row_of output action + k));
      }

  -- One more place has its row.
  one_more : (i : ℕ) (t : List ℕ) → ((j : ℕ) → j < i → RightAt acts n j t) → RightAt acts n i t
      → (j : ℕ) → j < i + 1 → RightAt acts n j t
  one_more i t named here j h = go (eqb j i) (eqb-true j i) (eqb-false j i)
    where
      go : (b : Bool) → (b ≡ true → j ≡ i) → (b ≡ false → j ≡ i → ⊥) → RightAt acts n j t
      go true e d = subst (λ (x : ℕ). RightAt acts n x t) (sym (e refl)) here
      go false e d = let q : j ≡ i → ⊥ = d refl in named j (omega arith)

  -- A row that is not right yet is filled.
  module _ (i : ℕ) (t u : List ℕ) (m : Making acts n i t) (number-le : (get_or acts i no_action).number ≤ 63)
      (f : RowFilled (at_place acts) n (get_or acts i no_action).output (get_or acts i no_action).number t u) where
    right_now : RightAt acts n i u
    right_now k h =
        f.inside (row_at acts i + k) (omega arith) (omega arith)
        ∙ row_entry-at (at_place acts) n (get_or acts i no_action).output (get_or acts i no_action).number (row_at acts i) k refl

    kept : (output : Bool) (action k : ℕ) → k ≤ n → Beside (row_of output action) (row_at acts i)
        → get_or u (row_of output action + k) 0 ≡ get_or t (row_of output action + k) 0
    kept output action k h (inl e) = f.below (row_of output action + k) (omega arith)
    kept output action k h (inr e) = f.above (row_of output action + k) (omega arith)

    -- the row just made
    right_there : (output : Bool) (action : ℕ) → output ≡ (get_or acts i no_action).output → action ≡ (get_or acts i no_action).number → Right output action u
    right_there output action e f = λ k h.
        ap₂ (λ (o : Bool) (a : ℕ). get_or u (row_of o a + k) 0) e f
        ∙ right_now k h
        ∙ ap₂ (λ (o : Bool) (a : ℕ). fall_back (at_place acts) n k (action_of o a) k) (sym e) (sym f)

    still_right : (output : Bool) (action : ℕ) → Right output action t → Right output action u
    unfolding Apart
    still_right output action r = go (rows_apart output action (get_or acts i no_action).output (get_or acts i no_action).number number-le)
      where
        go : Apart output action (get_or acts i no_action).output (get_or acts i no_action).number → Right output action u
        go (inl e) = right_there output action e.0 e.1
        go (inr e) = λ k h. kept output action k h e ∙ r k h

    still_empty : (output : Bool) (action : ℕ) → RowEmpty n output action t → Right output action u ⊎ RowEmpty n output action u
    unfolding Apart RowEmpty
    still_empty output action r = go (rows_apart output action (get_or acts i no_action).output (get_or acts i no_action).number number-le)
      where
        go : Apart output action (get_or acts i no_action).output (get_or acts i no_action).number → Right output action u ⊎ RowEmpty n output action u
        go (inl e) = inl (right_there output action e.0 e.1)
        go (inr e) = inr (λ k h. kept output action k h e ∙ r k h)

    pub making_filled : Making acts n (i + 1) u
    making_filled =
        record {
          long = f.long ∙ m.long;
          named = one_more i u (λ j h. still_right (get_or acts j no_action).output (get_or acts j no_action).number (m.named j h)) right_now;
          each = λ output action. each output action (m.each output action);
        }
      where
        each : (output : Bool) (action : ℕ) → Right output action t ⊎ RowEmpty n output action t → Right output action u ⊎ RowEmpty n output action u
        each output action (inl r) = inl (still_right output action r)
        each output action (inr r) = still_empty output action r

  -- A row that is right already is left.
  module _ (i : ℕ) (t : List ℕ) (m : Making acts n i t) (h : i < n) (e : get_or t (row_at acts i + i) 0 ≡ 0 → ⊥) where
    right_already : RightAt acts n i t ⊎ RowEmpty n (get_or acts i no_action).output (get_or acts i no_action).number t → RightAt acts n i t
    unfolding RowEmpty
    right_already (inl r) = r
    right_already (inr r) = absurd (e (r i (omega arith)))

    pub making_left : Making acts n (i + 1) t
    making_left =
        record {
          long = m.long;
          named = one_more i t m.named (right_already (m.each (get_or acts i no_action).output (get_or acts i no_action).number));
          each = m.each;
        }

same_parts : (o : Bool) (m : ℕ) (output : Bool) (action : ℕ) → same (action_of o m) (action_of output action) ≡ true → (o ≡ output) × (m ≡ action)
same_parts true m true action e = (refl, eqb-true m action e)
same_parts false m false action e = (refl, eqb-true m action e)
same_parts true m false action e = absurd (false≢true e)
same_parts false m true action e = absurd (false≢true e)

-- Is an action among the first i of a sequence?
Named : (ℕ → Action) → Action → ℕ → Type 0
Named s a i = ((j : ℕ) × ((j < i) × (same (s j) a ≡ true))) ⊎ ((j : ℕ) → j < i → same (s j) a ≡ false)

named? : (s : ℕ → Action) (a : Action) (i : ℕ) → Named s a i
unfolding Named
named? s a zero = inr (λ j h. let w : ⊥ = omega arith in absurd w)
named? s a (suc i) = go (same (s i) a) refl (named? s a i)
  where
    go : (b : Bool) → same (s i) a ≡ b
        → ((j : ℕ) × ((j < i) × (same (s j) a ≡ true))) ⊎ ((j : ℕ) → j < i → same (s j) a ≡ false)
        → ((j : ℕ) × ((j < suc i) × (same (s j) a ≡ true))) ⊎ ((j : ℕ) → j < suc i → same (s j) a ≡ false)
    go true e d = inl (i, (omega arith, e))
    go false e (inl d) = inl (d.0, (let h : d.0 < i = d.1.0 in omega arith, d.1.1))
    go false e (inr d) = inr (λ j h. last j h (eqb j i) (eqb-true j i) (eqb-false j i))
      where
        last : (j : ℕ) → j < suc i → (b : Bool) → (b ≡ true → j ≡ i) → (b ≡ false → j ≡ i → ⊥) → same (s j) a ≡ false
        last j h true y n = ap (λ (x : ℕ). same (s x) a) (y refl) ∙ e
        last j h false y n = let q : j ≡ i → ⊥ = n refl in d j (omega arith)

-- When all places have had their row, every row is right.
pub made : (acts : List declared.Action) (n i : ℕ) (t : List ℕ) → n ≤ i → Making acts n i t → Made (at_place acts) n t
unfolding Named RowEmpty
made acts n i t l m =
    record { right = λ output action. go output action (m.each output action) (named? s (action_of output action) n) }
  where
    s : ℕ → Action
    s = at_place acts

    go : (output : Bool) (action : ℕ) → RowRight s n output action t ⊎ RowEmpty n output action t → Named s (action_of output action) n
        → RowRight s n output action t
    go output action (inl r) d = r
    go output action (inr r) (inl d) =
        let q = same_parts (get_or acts d.0 no_action).output (get_or acts d.0 no_action).number output action d.1.1 in
        let h : d.0 < n = d.1.0 in
        subst (λ (o : Bool). RowRight s n o action t) q.0
        (subst (λ (x : ℕ). RowRight s n (get_or acts d.0 no_action).output x t) q.1 (m.named d.0 (omega arith)))
    go output action (inr r) (inr d) = λ k h. r k h ∙ sym (fall_back_unnamed s n k (action_of output action) d k)
