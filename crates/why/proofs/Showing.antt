-- What is written into the lists is the first order of a sort, with its numbers and its earliest moments.
use Prim.Native.Nat.{ℕ, zero, suc, ◌+◌, ◌-◌, ◌≤◌, ◌<◌, max}
use mathlib.Core.Path.{◌≡◌, refl, sym, ap, ap₂, ◌∙◌}
use mathlib.Core.Bool.{Bool, true, false, cond, not, ◌&&◌, and-true, not-not}
use mathlib.Core.List.{List, [], ◌∷◌, ◌++◌}
use native.Mathlib.Omega.{arith}
use lib.ListN.{length, get_or, drop, length-append, length-drop, get_or-append}
use lib.Seq.{ext_get_or, get_or-append-add, get_or-drop}
use lib.Dec.{ltb}
use lib.IntN.{ℤ, pos, ◌-ℤ◌}
use borrow.Author.Tests.{ltb-true, ltb-false, le-leb}
use Rattle.laws.specs.Places.{first}
use Rattle.laws.specs.Filled.{Filled}
use Rattle.laws.proofs.Places.{length-first, first_snoc, getD_first}
use Rattle.meaning.specs.Words.{Line}
use Rattle.meaning.specs.Words
use Rattle.meaning.proofs.Pairs.{low, earliest}
use Rattle.reasons.specs.Reasons.{gets_in, goes_out, numbers_of, numbered}
use Rattle.meaning.specs.Matcher.{is_input}
use Rattle.property.specs.Meant.{meant, action_of}
use Rattle.property.specs.declared.Property.{Property}
use Rattle.judged_rest.specs.Lent.{Lines, is_output, stamp_at, line_in}
use Rattle.why.specs.Why.{over}
use Rattle.first_order.specs.Search.{kind_in}
use Rattle.order_moments.specs.Moments.{late, moment_at}
use Rattle.why.proofs.Left.{left}
use Rattle.why.proofs.Channel.{channel}

-- ---- a list whose front was filled

pub filled_over : {A : Type 0} (z : A) (n : ℕ) (g : ℕ → A) (before after : List A) → n ≤ length before → Filled z 0 n g before after → after ≡ over (first g n) before
filled_over z n g before after h f =
    ext_get_or z after (over (first g n) before) (f.long ∙ sym longer) (λ i l. go i (ltb i n) (ltb-true i n) (ltb-false i n))
  where
    len : length (first g n) ≡ n
    len = length-first g n

    longer : length (over (first g n) before) ≡ length before
    longer =
        length-append (first g n) (drop (length (first g n)) before)
        ∙ (let e : length (first g n) + length (drop (length (first g n)) before) ≡ length before = omega (arith, length-drop (length (first g n)) before, len) in e)

    go : (i : ℕ) (b : Bool) → (b ≡ true → i < n) → (b ≡ false → n ≤ i) → get_or after i z ≡ get_or (over (first g n) before) i z
    go i true y d =
        let l : i < n = y refl in
        f.inside i (omega arith) l
        ∙ sym (get_or-append (first g n) (drop (length (first g n)) before) z i (omega (arith, len)) ∙ getD_first g n i z l)
    go i false y d =
        let l : n ≤ i = d refl in
        f.above i l
        ∙ sym
        (ap (λ (j : ℕ). get_or (over (first g n) before) j z) (let e : i ≡ length (first g n) + (i - n) = omega (arith, len) in e)
        ∙ get_or-append-add (first g n) (drop (length (first g n)) before) (i - n) z
        ∙ get_or-drop (length (first g n)) before (i - n) z
        ∙ ap (λ (j : ℕ). get_or before j z) (let e : length (first g n) + (i - n) ≡ i = omega (arith, len) in e))

-- ---- numbers of the lines of a channel

numbers_snoc : (f : Line → Bool) (k : ℕ) (u : List Line) (l : Line) → numbers_of f k (u ++ l ∷ []) ≡ numbers_of f k u ++ cond (f l) ((k + length u) ∷ []) []
unfolding numbers_of
numbers_snoc f k [] l = ap (λ (n : ℕ). cond (f l) (n ∷ []) []) (let e : k ≡ k + 0 = omega arith in e)
numbers_snoc f k (x ∷ u) l =
    go (f x) (numbers_snoc f (suc k) u l ∙ ap (λ (n : ℕ). numbers_of f (suc k) u ++ cond (f l) (n ∷ []) []) (let e : suc k + length u ≡ k + suc (length u) = omega arith in e))
  where
    go : (b : Bool) → numbers_of f (suc k) (u ++ l ∷ []) ≡ numbers_of f (suc k) u ++ cond (f l) ((k + suc (length u)) ∷ []) []
        → cond b (k ∷ numbers_of f (suc k) (u ++ l ∷ [])) (numbers_of f (suc k) (u ++ l ∷ []))
        ≡ cond b (k ∷ numbers_of f (suc k) u) (numbers_of f (suc k) u) ++ cond (f l) ((k + suc (length u)) ∷ []) []
    go true e = ap (λ (r : List ℕ). k ∷ r) e
    go false e = e

module _ (ls : Lines) (wanted : Bool) (f : Line → Bool) (kind : (k : ℕ) → f (line_in ls k) ≡ kind_in ls.output wanted k) where
  pub channel_numbers : (n : ℕ) → numbers_of f 1 (first (line_in ls) n) ≡ channel ls wanted suc 0 n
  unfolding left first numbers_of
  channel_numbers zero = refl
  channel_numbers (suc n) =
      ap (numbers_of f 1) (first_snoc (line_in ls) n)
      ∙ numbers_snoc f 1 (first (line_in ls) n) (line_in ls n)
      ∙ ap₂ ◌++◌ (channel_numbers n)
      (ap₂ (λ (b : Bool) (k : ℕ). cond b (k ∷ []) []) (kind n ∙ sym (ap (λ (t : Bool). kind_in ls.output wanted n && t) (le-leb 0 n (omega arith)) ∙ and-true (kind_in ls.output wanted n)))
      (let e : 1 + length (first (line_in ls) n) ≡ suc n = omega (arith, length-first (line_in ls) n) in e))

pub kind_of : (b : Bool) (act : ℕ) → is_input (action_of b act) ≡ not b
kind_of true act = refl
kind_of false act = refl

pub in_numbers : (ls : Lines) (n : ℕ) → numbers_of gets_in 1 (first (line_in ls) n) ≡ channel ls false suc 0 n
in_numbers ls n = channel_numbers ls false gets_in (λ k. kind_of (is_output ls k) (get_or ls.action k 0)) n

pub out-numbers : (ls : Lines) (n : ℕ) → numbers_of goes_out 1 (first (line_in ls) n) ≡ channel ls true suc 0 n
out-numbers ls n = channel_numbers ls true goes_out (λ k. ap not (kind_of (is_output ls k) (get_or ls.action k 0)) ∙ not-not (is_output ls k)) n

-- an input's number comes from the inputs', an output's from the outputs'
pub numbered_in : (k : ℕ) (ins outs : List ℕ) (l : Line) (rest : List Line) → gets_in l ≡ true → numbered (k ∷ ins) outs (l ∷ rest) ≡ k ∷ numbered ins outs rest
unfolding numbered
numbered_in k ins outs l rest e = ap (λ (b : Bool). cond b (k ∷ numbered ins outs rest) (get_or outs 0 0 ∷ numbered (k ∷ ins) (drop 1 outs) rest)) e

pub numbered-out : (k : ℕ) (ins outs : List ℕ) (l : Line) (rest : List Line) → gets_in l ≡ false → numbered ins (k ∷ outs) (l ∷ rest) ≡ k ∷ numbered ins outs rest
unfolding numbered
numbered-out k ins outs l rest e = ap (λ (b : Bool). cond b (get_or ins 0 0 ∷ numbered (drop 1 ins) (k ∷ outs) rest) (k ∷ numbered ins outs rest)) e

pub numbered-none : (ins outs : List ℕ) → numbered ins outs [] ≡ []
unfolding numbered
numbered-none ins outs = refl

-- ---- earliest moments, place by place

earliest_by : (P : Words.Property) (l : ℕ → Line) (m : ℕ → ℕ) (n : ℕ) → ((j : ℕ) → m (suc j) ≡ max (m j) (low P (l j).action (l j).stamp))
    → earliest P (m 0) (first l n) ≡ first (λ (j : ℕ). pos (m (suc j)) -ℤ pos P.UB) n
unfolding earliest first
earliest_by P l m zero h = refl
earliest_by P l m (suc n) h =
    ap (λ (k : ℕ). (pos k -ℤ pos P.UB) ∷ earliest P k (first (λ (i : ℕ). l (suc i)) n)) (sym (h 0))
    ∙ ap (λ (r : List ℤ). (pos (m 1) -ℤ pos P.UB) ∷ r) (earliest_by P (λ (i : ℕ). l (suc i)) (λ (i : ℕ). m (suc i)) n (λ j. h (suc j)))

pub earliest-places : (p : Property) (ls : Lines) (at : ℕ → ℕ) (n : ℕ) → earliest (meant p) 0 (first (λ (j : ℕ). line_in ls (at j)) n) ≡ first (moment_at p ls at) n
unfolding late
earliest-places p ls at n =
    earliest_by (meant p) (λ (j : ℕ). line_in ls (at j)) (late p ls at) n
    (λ j. ap (max (late p ls at j)) (lower (is_output ls (at j)) (get_or ls.action (at j) 0) (stamp_at ls (at j))))
  where
    lower : (o : Bool) (act t : ℕ) → cond o t (t + p.lb + p.ub) ≡ low (meant p) (action_of o act) t
    lower true act t = refl
    lower false act t = refl
