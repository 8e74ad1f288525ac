-- Lists of lines: what holds of all, the two channels of a joined list, lists taken apart at their end.
use Prim.Native.Nat.{ℕ, ◌≤◌}
use native.Mathlib.Nat.{le_trans}
use mathlib.Core.Path.{Path, ◌≡◌, refl, sym, ap}
use mathlib.Core.Logic.{◌⊎◌, inl, inr}
use mathlib.Core.List.{List, [], ◌∷◌, ◌++◌, map, head-eq_of_cons-eq, tail-eq_of_cons-eq, nil≢cons}
pub use lib.Seq.{append_snoc as snoc_append}
use Rattle.meaning.specs.Words.{Action, Line, StampsFrom}
use Rattle.meaning.specs.Node.{keep_input, keep_output, ins, outs}

-- P holds of every element
pub data All {A : Type 0} (P : A → Type 0) : List A → Type 0 where
  done : All P []
  also : {x : A} {xs : List A} → P x → All P xs → All P (x ∷ xs)

module _ {A : Type 0} where
  pub all_head : {P : A → Type 0} {x : A} {xs : List A} → All P (x ∷ xs) → P x
  all_head (also h k) = h

  pub all_tail : {P : A → Type 0} {x : A} {xs : List A} → All P (x ∷ xs) → All P xs
  all_tail (also h k) = k

  pub all_append : {P : A → Type 0} {xs ys : List A} → All P xs → All P ys → All P (xs ++ ys)
  all_append done k = k
  all_append (also h r) k = also h (all_append r k)

  pub all_left : {P : A → Type 0} (xs ys : List A) → All P (xs ++ ys) → All P xs
  all_left [] ys h = done
  all_left (x ∷ xs) ys (also h k) = also h (all_left xs ys k)

  pub all_right : {P : A → Type 0} (xs ys : List A) → All P (xs ++ ys) → All P ys
  all_right [] ys h = h
  all_right (x ∷ xs) ys (also h k) = all_right xs ys k

  pub all_map : {P Q : A → Type 0} {xs : List A} → ((x : A) → P x → Q x) → All P xs → All Q xs
  all_map f done = done
  all_map f (also {x} h k) = also (f x h) (all_map f k)

  pub all_both : {P Q : A → Type 0} {xs : List A} → All P xs → All Q xs → All (λ x. P x × Q x) xs
  all_both done k = done
  all_both (also h r) k = also (h, all_head k) (all_both r (all_tail k))

  pub all_of : {P : A → Type 0} → ((x : A) → P x) → (xs : List A) → All P xs
  all_of f [] = done
  all_of f (x ∷ xs) = also (f x) (all_of f xs)

  -- a list is empty or has a last element
  pub data Ended : List A → Type 0 where
    empty : Ended []
    ended : (xs : List A) (x : A) → Ended (xs ++ x ∷ [])

  more : {ys : List A} (x : A) → Ended ys → Ended (x ∷ ys)
  more x empty = ended [] x
  more x (ended zs z) = ended (x ∷ zs) z

  pub end_of : (xs : List A) → Ended xs
  end_of [] = empty
  end_of (x ∷ xs) = more x (end_of xs)

  pub not_empty : (xs : List A) (x : A) → Path (List A) [] (xs ++ x ∷ []) → ⊥
  not_empty [] x e = nil≢cons e
  not_empty (y ∷ xs) x e = nil≢cons e

  -- two lists that end alike
  pub same_end : (xs ys : List A) (x y : A) → xs ++ x ∷ [] ≡ ys ++ y ∷ [] → (xs ≡ ys) × (x ≡ y)
  same_end [] [] x y e = (refl, head-eq_of_cons-eq e)
  same_end [] (z ∷ ys) x y e = absurd (not_empty ys y (tail-eq_of_cons-eq e))
  same_end (z ∷ xs) [] x y e = absurd (not_empty xs x (sym (tail-eq_of_cons-eq e)))
  same_end (z ∷ xs) (w ∷ ys) x y e =
      let r : (xs ≡ ys) × (x ≡ y) = same_end xs ys x y (tail-eq_of_cons-eq e) in
      let h : z ≡ w = head-eq_of_cons-eq e in
      (cc r.0, r.1)

-- a list of images taken apart
pub map_split : {A B : Type 0} (f : A → B) (xs : List A) (cs ds : List B) → map f xs ≡ cs ++ ds
    → (us : List A) × (vs : List A) × (xs ≡ us ++ vs) × (map f us ≡ cs) × (map f vs ≡ ds)
map_split f xs [] ds e = ([], xs, refl, refl, e)
map_split f [] (c ∷ cs) ds e = absurd (nil≢cons e)
map_split {A} f (x ∷ xs) (c ∷ cs) ds e = go (map_split f xs cs ds (tail-eq_of_cons-eq e))
  where
    go : ((us : List A) × (vs : List A) × (xs ≡ us ++ vs) × (map f us ≡ cs) × (map f vs ≡ ds))
        → (us : List A) × (vs : List A) × (x ∷ xs ≡ us ++ vs) × (map f us ≡ c ∷ cs) × (map f vs ≡ ds)
    go r =
        let h : f x ≡ c = head-eq_of_cons-eq e in
        (x ∷ r.0, r.1, ap (λ l. x ∷ l) r.2, cc (h, r.3), r.4)

-- two ways to split one list
pub two_splits : {A : Type 0} (u f v w : List A) → u ++ f ≡ v ++ w
    → ((m : List A) × (v ≡ u ++ m) × (f ≡ m ++ w)) ⊎ ((y : A) × (m : List A) × (u ≡ v ++ y ∷ m) × (w ≡ y ∷ (m ++ f)))
two_splits [] f v w e = inl (v, refl, e)
two_splits (x ∷ u) f [] w e = inr (x, u, refl, sym e)
two_splits {A} (x ∷ u) f (z ∷ v) w e = go (two_splits u f v w (tail-eq_of_cons-eq e))
  where
    same : x ≡ z
    same = head-eq_of_cons-eq e

    go : ((m : List A) × (v ≡ u ++ m) × (f ≡ m ++ w)) ⊎ ((y : A) × (m : List A) × (u ≡ v ++ y ∷ m) × (w ≡ y ∷ (m ++ f)))
        → ((m : List A) × (z ∷ v ≡ x ∷ u ++ m) × (f ≡ m ++ w)) ⊎ ((y : A) × (m : List A) × (x ∷ u ≡ z ∷ v ++ y ∷ m) × (w ≡ y ∷ (m ++ f)))
    go (inl r) = inl (r.0, cc (same, r.1), r.2)
    go (inr r) = inr (r.0, r.1, cc (same, r.2), r.3)

-- the two channels of joined lists
pub ins-append : (u v : List Line) → ins (u ++ v) ≡ ins u ++ ins v
ins-append [] v = refl
ins-append (l ∷ u) v = go l.action (ins-append u v)
  where
    go : (a : Action) → ins (u ++ v) ≡ ins u ++ ins v → keep_input a l (ins (u ++ v)) ≡ keep_input a l (ins u) ++ ins v
    go (Action.input k) e = ap (λ (r : List Line). l ∷ r) e
    go (Action.output k) e = e

pub outs-append : (u v : List Line) → outs (u ++ v) ≡ outs u ++ outs v
outs-append [] v = refl
outs-append (l ∷ u) v = go l.action (outs-append u v)
  where
    go : (a : Action) → outs (u ++ v) ≡ outs u ++ outs v → keep_output a l (outs (u ++ v)) ≡ keep_output a l (outs u) ++ outs v
    go (Action.input k) e = e
    go (Action.output k) e = ap (λ (r : List Line). l ∷ r) e

-- what holds of all lines holds of each channel, and the other way round
keep_in : {P : Line → Type 0} {u : List Line} (l : Line) (a : Action) → P l → All P u → All P (keep_input a l u)
keep_in l (Action.input k) h r = also h r
keep_in l (Action.output k) h r = r

keep_out : {P : Line → Type 0} {u : List Line} (l : Line) (a : Action) → P l → All P u → All P (keep_output a l u)
keep_out l (Action.input k) h r = r
keep_out l (Action.output k) h r = also h r

pub all-ins : {P : Line → Type 0} {u : List Line} → All P u → All P (ins u)
all-ins done = done
all-ins (also {x} h r) = keep_in x x.action h (all-ins r)

pub all-outs : {P : Line → Type 0} {u : List Line} → All P u → All P (outs u)
all-outs done = done
all-outs (also {x} h r) = keep_out x x.action h (all-outs r)

one_channel : {P : Line → Type 0} (a : Action) (l : Line) (i o : List Line) → All P (keep_input a l i) → All P (keep_output a l o)
    → P l × All P i × All P o
one_channel (Action.input j) l i o (also h r) k = (h, r, k)
one_channel (Action.output j) l i o h (also k r) = (k, h, r)

pub all_channels : {P : Line → Type 0} (u : List Line) → All P (ins u) → All P (outs u) → All P u
all_channels [] h k = done
all_channels {P} (l ∷ u) h k =
    let r : P l × All P (ins u) × All P (outs u) = one_channel l.action l (ins u) (outs u) h k in
    also r.0 (all_channels u r.1 r.2)

-- stamps that never fall
pub from_weaker : {s t : ℕ} (ls : List Line) → s ≤ t → StampsFrom t ls → StampsFrom s ls
from_weaker [] h f = tt
from_weaker (l ∷ ls) h f = (le_trans h f.0, f.1)

pub from_all : {t : ℕ} (ls : List Line) → StampsFrom t ls → All (λ (l : Line). t ≤ l.stamp) ls
from_all [] f = done
from_all (l ∷ ls) f = also f.0 (from_all ls (from_weaker ls f.0 f.1))

pub from_ins : (t : ℕ) (ls : List Line) → StampsFrom t ls → StampsFrom t (ins ls)
from_ins t [] f = tt
from_ins t (l ∷ ls) f = go l.action (from_ins l.stamp ls f.1)
  where
    go : (a : Action) → StampsFrom l.stamp (ins ls) → StampsFrom t (keep_input a l (ins ls))
    go (Action.input k) r = (f.0, r)
    go (Action.output k) r = from_weaker (ins ls) f.0 r

pub from_outs : (t : ℕ) (ls : List Line) → StampsFrom t ls → StampsFrom t (outs ls)
from_outs t [] f = tt
from_outs t (l ∷ ls) f = go l.action (from_outs l.stamp ls f.1)
  where
    go : (a : Action) → StampsFrom l.stamp (outs ls) → StampsFrom t (keep_output a l (outs ls))
    go (Action.input k) r = from_weaker (outs ls) f.0 r
    go (Action.output k) r = (f.0, r)

-- stamps that never fall, one line longer
pub from_longer : (t T' : ℕ) (ls : List Line) (l : Line) → StampsFrom t ls → All (λ (z : Line). z.stamp ≤ T') ls → t ≤ l.stamp → T' ≤ l.stamp
    → StampsFrom t (ls ++ l ∷ [])
from_longer t T' [] l f w h k = (h, tt)
from_longer t T' (x ∷ ls) l f (also q w) h k = (f.0, from_longer x.stamp T' ls l f.1 w (le_trans q k) k)
