-- What the tests of the code say: `==` on actions is `same`, and that a beginning of the sequence ends another is `ends`.
use Prim.Native.Nat.{ℕ, zero, suc, ◌+◌, ◌-◌, ◌≤◌}
use mathlib.Core.Path.{◌≡◌, refl, ap, ap₂, ◌∙◌}
use mathlib.Core.Bool.{Bool, true, false, beq, ◌&&◌}
use mathlib.Core.List.{List, [], ◌∷◌, ◌++◌}
use native.Mathlib.Omega.{arith}
use lib.ListN.{length, get_or, take, drop, drop_of_length-le}
use lib.Seq.{take-suc}
use lib.Dec.{eqb}
use Rattle.std.specs.List.{ends_with}
use Rattle.std.specs.Cmp.Lexicographic.{pointwise}
use Rattle.std.proofs.lemmas.List.{drop-append-le, length-take-le, length-drop}
use Rattle.meaning.specs.Matcher.{same, ends}
use Rattle.property.specs.Meant.{action_of}
use Rattle.table.specs.declared.Action as declared
use Rattle.table.specs.Table.{said, no_action, at_place}

parts_same : (o : Bool) (m : ℕ) (output : Bool) (action : ℕ) → beq o output && eqb m action ≡ same (action_of o m) (action_of output action)
parts_same true m true action = refl
parts_same true m false action = refl
parts_same false m true action = refl
parts_same false m false action = refl

pub said_same : (a b : declared.Action) → beq a.output b.output && eqb a.number b.number ≡ same (said a) (said b)
said_same a b = parts_same a.output a.number b.output b.number

-- Two lists of one length are compared with their last elements first.
swapped : (a b c : Bool) → a && (b && c) ≡ b && (a && c)
swapped true true c = refl
swapped true false c = refl
swapped false true c = refl
swapped false false c = refl

last_first : {A : Type 0} (E : A → A → Bool) (xs ys : List A) (x y : A) → length xs ≡ length ys
    → pointwise E (xs ++ (x ∷ [])) (ys ++ (y ∷ [])) ≡ E x y && pointwise E xs ys
last_first E [] [] x y h = refl
last_first E [] (b ∷ ys) x y h = let w : ⊥ = omega arith in absurd w
last_first E (a ∷ xs) [] x y h = let w : ⊥ = omega arith in absurd w
last_first E (a ∷ xs) (b ∷ ys) x y h =
    ap (λ (t : Bool). E a b && t) (last_first E xs ys x y (omega arith)) ∙ swapped (E a b) (E x y) (pointwise E xs ys)

module _ (E : declared.Action → declared.Action → Bool) (tests : (a b : declared.Action) → E a b ≡ same (said a) (said b))
    (s : List declared.Action) where
  -- The first j, against the last j of the first k.
  compared : (d j k : ℕ) → k ≡ d + j → k ≤ length s → pointwise E (take j s) (drop d (take k s)) ≡ ends (at_place s) j k
  unfolding ends
  compared d zero k e h =
      ap (pointwise E []) (drop_of_length-le (take k s) (let l = length-take-le k s h in omega arith))
  compared d (suc j) zero e h = let w : ⊥ = omega arith in absurd w
  compared d (suc j) (suc k) e h =
      let long : length (take k s) ≡ k = length-take-le k s (omega arith) in
      let left : length (take j s) ≡ j = length-take-le j s (omega arith) in
      let right : length (drop d (take k s)) ≡ length (take k s) - d = length-drop d (take k s) in
      ap₂ (pointwise E)
      (take-suc s j no_action (omega arith))
      (ap (drop d) (take-suc s k no_action (omega arith)) ∙ drop-append-le d (take k s) (get_or s k no_action ∷ []) (omega arith))
      ∙ last_first E (take j s) (drop d (take k s)) (get_or s j no_action) (get_or s k no_action) (omega arith)
      ∙ ap₂ (λ (a b : Bool). a && b) (tests (get_or s j no_action) (get_or s k no_action)) (compared d j k (omega arith) (omega arith))

  pub ends_tested : (j k : ℕ) → j ≤ k → k ≤ length s → ends_with E (take k s) (take j s) ≡ ends (at_place s) j k
  ends_tested j k h l =
      let long : length (take k s) ≡ k = length-take-le k s l in
      let short : length (take j s) ≡ j = length-take-le j s (omega arith) in
      compared (length (take k s) - length (take j s)) j k (omega arith) l
