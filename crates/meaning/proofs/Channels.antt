-- Lines of one channel, stamps along a channel, and an order made of two channels: merged by the moments a + LB and b − LB.
use Prim.Native.Nat.{ℕ, ◌+◌, ◌*◌, ◌≤◌, ◌<◌}
use mathlib.Core.Path.{◌≡◌, refl, sym, ◌∙◌, ap, subst}
use mathlib.Core.Logic.{◌⊎◌, inl, inr}
use mathlib.Core.Bool.{Bool, true, false, cond, not}
use mathlib.Core.List.{List, [], ◌∷◌, ◌++◌}
use native.Mathlib.Omega.{arith}
use native.Mathlib.Nat.{le_refl, le_trans}
use lib.Dec.{T, leb, leb→le, nleb→lt}
use Rattle.meaning.specs.Words.{Action, Property, Line, StampsFrom}
use Rattle.meaning.specs.Node.{keep_input, keep_output, ins, outs}
use Rattle.meaning.proofs.Lists.{All, done, also, all_head, all_append, all_right, all_map, all_both}
use Rattle.meaning.proofs.Lists.{all_of, all_channels, from_all, from_weaker, Ended, empty, ended, end_of}
use Rattle.meaning.proofs.Pairs.{Bounds, Stand, May, Pairs, none, first}

abbrev pub IsIn : Action → Type 0
IsIn (Action.input k) = Unit {0}
IsIn (Action.output k) = ⊥

abbrev pub IsOut : Action → Type 0
IsOut (Action.input k) = ⊥
IsOut (Action.output k) = Unit {0}

abbrev pub In : Line → Type 0
In l = IsIn l.action

abbrev pub Out : Line → Type 0
Out l = IsOut l.action

-- an input or an output, as a view
pub in_or_out : (a : Action) → IsIn a ⊎ IsOut a
in_or_out (Action.input k) = inl tt
in_or_out (Action.output k) = inr tt

kept_in : (a : Action) (t : ℕ) {u : List Line} → All In u → All In (keep_input a (record { action = a; stamp = t }) u)
kept_in (Action.input k) t h = also tt h
kept_in (Action.output k) t h = h

kept_out : (a : Action) (t : ℕ) {u : List Line} → All Out u → All Out (keep_output a (record { action = a; stamp = t }) u)
kept_out (Action.input k) t h = h
kept_out (Action.output k) t h = also tt h

pub ins_in : (u : List Line) → All In (ins u)
ins_in [] = done
ins_in (l ∷ u) = kept_in l.action l.stamp (ins_in u)

pub outs-out : (u : List Line) → All Out (outs u)
outs-out [] = done
outs-out (l ∷ u) = kept_out l.action l.stamp (outs-out u)

-- a list of one channel
in_cons : (a : Action) (t : ℕ) (u : List Line) → IsIn a → keep_input a (record { action = a; stamp = t }) u ≡ record { action = a; stamp = t } ∷ u
in_cons (Action.input k) t u h = refl
in_cons (Action.output k) t u h = absurd h

in_drop : (a : Action) (t : ℕ) (u : List Line) → IsIn a → keep_output a (record { action = a; stamp = t }) u ≡ u
in_drop (Action.input k) t u h = refl
in_drop (Action.output k) t u h = absurd h

out_cons : (a : Action) (t : ℕ) (u : List Line) → IsOut a → keep_output a (record { action = a; stamp = t }) u ≡ record { action = a; stamp = t } ∷ u
out_cons (Action.input k) t u h = absurd h
out_cons (Action.output k) t u h = refl

out-drop : (a : Action) (t : ℕ) (u : List Line) → IsOut a → keep_input a (record { action = a; stamp = t }) u ≡ u
out-drop (Action.input k) t u h = absurd h
out-drop (Action.output k) t u h = refl

pub ins_cons : (x : Line) (u : List Line) → In x → ins (x ∷ u) ≡ x ∷ ins u
ins_cons x u h = in_cons x.action x.stamp (ins u) h

pub outs_skip : (x : Line) (u : List Line) → In x → outs (x ∷ u) ≡ outs u
outs_skip x u h = in_drop x.action x.stamp (outs u) h

pub outs_cons : (y : Line) (u : List Line) → Out y → outs (y ∷ u) ≡ y ∷ outs u
outs_cons y u h = out_cons y.action y.stamp (outs u) h

pub ins_skip : (y : Line) (u : List Line) → Out y → ins (y ∷ u) ≡ ins u
ins_skip y u h = out-drop y.action y.stamp (ins u) h

pub outs_of_in : {u : List Line} → All In u → outs u ≡ []
outs_of_in done = refl
outs_of_in (also {x} {xs} h r) = outs_skip x xs h ∙ outs_of_in r

pub outs_of_out : {u : List Line} → All Out u → outs u ≡ u
outs_of_out done = refl
outs_of_out (also {x} {xs} h r) = outs_cons x xs h ∙ ap (λ (l : List Line). x ∷ l) (outs_of_out r)

pub ins_of_out : {u : List Line} → All Out u → ins u ≡ []
ins_of_out done = refl
ins_of_out (also {x} {xs} h r) = ins_skip x xs h ∙ ins_of_out r

-- what two lines ask, by their channels
module _ (p : Property) where
  in_in' : (b : Bounds p) (x : Action) (s : ℕ) (y : Action) (t : ℕ) → IsIn x → IsIn y → s ≤ t → Stand p x s y t
  in_in' b (Action.input j) s (Action.input k) t i o h = omega (arith, b.order)
  in_in' b (Action.input j) s (Action.output k) t i o h = absurd o
  in_in' b (Action.output j) s y t i o h = absurd i

  out_out' : (b : Bounds p) (x : Action) (s : ℕ) (y : Action) (t : ℕ) → IsOut x → IsOut y → s ≤ t → Stand p x s y t
  out_out' b (Action.output j) s (Action.output k) t i o h = omega (arith, b.order)
  out_out' b (Action.output j) s (Action.input k) t i o h = absurd o
  out_out' b (Action.input j) s y t i o h = absurd i

  in_out' : (x : Action) (s : ℕ) (y : Action) (t : ℕ) → IsIn x → IsOut y → s + 2 * p.LB ≤ t → Stand p x s y t
  in_out' (Action.input j) s (Action.output k) t i o h = h
  in_out' (Action.input j) s (Action.input k) t i o h = absurd o
  in_out' (Action.output j) s y t i o h = absurd i

  out_in' : (x : Action) (s : ℕ) (y : Action) (t : ℕ) → IsOut x → IsIn y → s ≤ t + 2 * p.UB → Stand p x s y t
  out_in' (Action.output j) s (Action.input k) t i o h = h
  out_in' (Action.output j) s (Action.output k) t i o h = absurd o
  out_in' (Action.input j) s y t i o h = absurd i

  in_out_asks' : (x : Action) (s : ℕ) (y : Action) (t : ℕ) → IsIn x → IsOut y → Stand p x s y t → s + 2 * p.LB ≤ t
  in_out_asks' (Action.input j) s (Action.output k) t i o h = h
  in_out_asks' (Action.input j) s (Action.input k) t i o h = absurd o
  in_out_asks' (Action.output j) s y t i o h = absurd i

  out_in_asks' : (x : Action) (s : ℕ) (y : Action) (t : ℕ) → IsOut x → IsIn y → Stand p x s y t → s ≤ t + 2 * p.UB
  out_in_asks' (Action.output j) s (Action.input k) t i o h = h
  out_in_asks' (Action.output j) s (Action.output k) t i o h = absurd o
  out_in_asks' (Action.input j) s y t i o h = absurd i

  in_in_asks' : (x : Action) (s : ℕ) (y : Action) (t : ℕ) → IsIn x → IsIn y → Stand p x s y t → s + p.LB ≤ t + p.UB
  in_in_asks' (Action.input j) s (Action.input k) t i o h = h
  in_in_asks' (Action.input j) s (Action.output k) t i o h = absurd o
  in_in_asks' (Action.output j) s y t i o h = absurd i

  pub in_in : Bounds p → (x y : Line) → In x → In y → x.stamp ≤ y.stamp → May p x y
  in_in b x y = in_in' b x.action x.stamp y.action y.stamp

  pub out-out : Bounds p → (x y : Line) → Out x → Out y → x.stamp ≤ y.stamp → May p x y
  out-out b x y = out_out' b x.action x.stamp y.action y.stamp

  pub in_out : (x y : Line) → In x → Out y → x.stamp + 2 * p.LB ≤ y.stamp → May p x y
  in_out x y = in_out' x.action x.stamp y.action y.stamp

  pub out_in : (y x : Line) → Out y → In x → y.stamp ≤ x.stamp + 2 * p.UB → May p y x
  out_in y x = out_in' y.action y.stamp x.action x.stamp

  pub in_out_asks : (x y : Line) → In x → Out y → May p x y → x.stamp + 2 * p.LB ≤ y.stamp
  in_out_asks x y = in_out_asks' x.action x.stamp y.action y.stamp

  pub in_in_asks : (x y : Line) → In x → In y → May p x y → x.stamp + p.LB ≤ y.stamp + p.UB
  in_in_asks x y = in_in_asks' x.action x.stamp y.action y.stamp

  pub out_in_asks : (y x : Line) → Out y → In x → May p y x → y.stamp ≤ x.stamp + 2 * p.UB
  out_in_asks y x = out_in_asks' y.action y.stamp x.action x.stamp

  -- An input never stands before an output that is stamped no later: LB ≥ 1 is used here, and nowhere else.
  pub never_before : Bounds p → (x y : Line) → In x → Out y → y.stamp ≤ x.stamp → May p x y → ⊥
  never_before b x y i o h m = omega (arith, in_out_asks x y i o m, b.least)

-- stamps along joined lists
pub from_left : (t : ℕ) (xs ys : List Line) → StampsFrom t (xs ++ ys) → StampsFrom t xs
from_left t [] ys f = tt
from_left t (x ∷ xs) ys f = (f.0, from_left x.stamp xs ys f.1)

pub from_right : (t : ℕ) (xs ys : List Line) → StampsFrom t (xs ++ ys) → StampsFrom t ys
from_right t [] ys f = f
from_right t (x ∷ xs) ys f = from_weaker ys f.0 (from_right x.stamp xs ys f.1)

pub from_cross : (t : ℕ) (xs ys : List Line) → StampsFrom t (xs ++ ys) → All (λ (x : Line). All (λ (y : Line). x.stamp ≤ y.stamp) ys) xs
from_cross t [] ys f = done
from_cross t (x ∷ xs) ys f = also (all_right xs ys (from_all (xs ++ ys) f.1)) (from_cross x.stamp xs ys f.1)

-- the last of a channel is the highest
pub last-highest : (t : ℕ) (xs : List Line) (x : Line) → StampsFrom t (xs ++ x ∷ []) → All (λ (z : Line). z.stamp ≤ x.stamp) (xs ++ x ∷ [])
last-highest t xs x f = all_append (all_map (λ z h. all_head h) (from_cross t xs (x ∷ []) f)) (also (omega arith) done)

-- What holds of the last of one list and the first of the other, and of stamps further out, holds of all.
pub innermost : (t : ℕ) (R : ℕ → ℕ → Type 0) → ((a a' d d' : ℕ) → a' ≤ a → d ≤ d' → R a d → R a' d')
    → (xs ys : List Line) → StampsFrom t xs → StampsFrom t ys
    → ((bs : List Line) (x y : Line) (ds : List Line) → xs ≡ bs ++ x ∷ [] → ys ≡ y ∷ ds → R x.stamp y.stamp)
    → All (λ (x : Line). All (λ (y : Line). R x.stamp y.stamp) ys) xs
innermost t R wider xs ys fx fy h = go (end_of xs) ys fx fy h
  where
    go : {xs : List Line} → Ended xs → (ys : List Line) → StampsFrom t xs → StampsFrom t ys
        → ((bs : List Line) (x y : Line) (ds : List Line) → xs ≡ bs ++ x ∷ [] → ys ≡ y ∷ ds → R x.stamp y.stamp)
        → All (λ (x : Line). All (λ (y : Line). R x.stamp y.stamp) ys) xs
    go empty ys fx fy h = done
    go (ended bs x) [] fx fy h = all_of (λ z. done) (bs ++ x ∷ [])
    go (ended bs x) (y ∷ ds) fx fy h =
        let later : All (λ (w : Line). y.stamp ≤ w.stamp) (y ∷ ds) = also (le_refl y.stamp) (from_all ds fy.1) in
        all_map
        (λ z q. all_map (λ w r. wider x.stamp z.stamp y.stamp w.stamp q r (h bs x y ds refl refl)) later)
        (last-highest t bs x fx)

-- ---- merged

module _ (p : Property) where
  into : Line → (List Line → List Line) → List Line → List Line
  into x rec [] = x ∷ rec []
  into x rec (y ∷ o) = cond (leb (x.stamp + 2 * p.LB) y.stamp) (x ∷ rec (y ∷ o)) (y ∷ into x rec o)

  pub merged : List Line → List Line → List Line
  merged [] o = o
  merged (x ∷ i) o = into x (merged i) o

  -- what `merged i` keeps of every list of outputs
  record Keeps (i : List Line) (rec : List Line → List Line) : Type 0 where
    ins-kept : (o : List Line) → All Out o → ins (rec o) ≡ i
    outs-kept : (o : List Line) → All Out o → outs (rec o) ≡ o

  into_ins : {i : List Line} (x : Line) (rec : List Line → List Line) → In x → Keeps i rec → (o : List Line) → All Out o → ins (into x rec o) ≡ x ∷ i
  unfolding into
  into_ins {i} x rec h k [] done = ins_cons x (rec []) h ∙ ap (λ (l : List Line). x ∷ l) (k.ins-kept [] done)
  into_ins {i} x rec h k (y ∷ o) (also g r) = go (leb (x.stamp + 2 * p.LB) y.stamp) (into_ins x rec h k o r)
    where
      go : (t : Bool) → ins (into x rec o) ≡ x ∷ i → ins (cond t (x ∷ rec (y ∷ o)) (y ∷ into x rec o)) ≡ x ∷ i
      go true e = ins_cons x (rec (y ∷ o)) h ∙ ap (λ (l : List Line). x ∷ l) (k.ins-kept (y ∷ o) (also g r))
      go false e = ins_skip y (into x rec o) g ∙ e

  into_outs : {i : List Line} (x : Line) (rec : List Line → List Line) → In x → Keeps i rec → (o : List Line) → All Out o → outs (into x rec o) ≡ o
  unfolding into
  into_outs {i} x rec h k [] done = outs_skip x (rec []) h ∙ k.outs-kept [] done
  into_outs {i} x rec h k (y ∷ o) (also g r) = go (leb (x.stamp + 2 * p.LB) y.stamp) (into_outs x rec h k o r)
    where
      go : (t : Bool) → outs (into x rec o) ≡ o → outs (cond t (x ∷ rec (y ∷ o)) (y ∷ into x rec o)) ≡ y ∷ o
      go true e = outs_skip x (rec (y ∷ o)) h ∙ k.outs-kept (y ∷ o) (also g r)
      go false e = outs_cons y (into x rec o) g ∙ ap (λ (l : List Line). y ∷ l) e

  keeps : {i : List Line} → All In i → Keeps i (merged i)
  unfolding merged
  keeps done = record { ins-kept = λ o h. ins_of_out h; outs-kept = λ o h. outs_of_out h }
  keeps (also {x} {xs} h r) =
      record { ins-kept = into_ins x (merged xs) h (keeps r); outs-kept = into_outs x (merged xs) h (keeps r) }

  pub merged_ins : {i o : List Line} → All In i → All Out o → ins (merged i o) ≡ i
  merged_ins {o} h k = (keeps h).ins-kept o k

  pub merged_outs : {i o : List Line} → All In i → All Out o → outs (merged i o) ≡ o
  merged_outs {o} h k = (keeps h).outs-kept o k

  -- what holds of both channels holds of the merged list
  all_into : {P : Line → Type 0} (x : Line) (rec : List Line → List Line) (i o : List Line) → In x → Keeps i rec → All Out o
      → P x → All P i → All P o → All P (into x rec o)
  all_into {P} x rec i o h k a px pi po =
      all_channels (into x rec o)
      (subst (All P) (sym (into_ins x rec h k o a)) (also px pi))
      (subst (All P) (sym (into_outs x rec h k o a)) po)

  all_rec : {P : Line → Type 0} (rec : List Line → List Line) (i o : List Line) → Keeps i rec → All Out o → All P i → All P o → All P (rec o)
  all_rec {P} rec i o k a pi po =
      all_channels (rec o) (subst (All P) (sym (k.ins-kept o a)) pi) (subst (All P) (sym (k.outs-kept o a)) po)

  module _ (b : Bounds p) where
    into_pairs : (t : ℕ) (x : Line) (rec : List Line → List Line) (i : List Line) → In x → All In i → Keeps i rec
        → All (λ (z : Line). x.stamp ≤ z.stamp) i
        → ((o : List Line) → All Out o → (s : ℕ) → StampsFrom s o → Pairs p (rec o))
        → (o : List Line) → All Out o → StampsFrom t o → Pairs p (into x rec o)
    unfolding into
    into_pairs t x rec i h hi k le pr [] done f =
        first (all_rec rec i [] k done (all_map (λ z e. in_in p b x z h e.0 e.1) (all_both hi le)) done) (pr [] done t tt)
    into_pairs t x rec i h hi k le pr (y ∷ o) (also g r) f =
        go (leb (x.stamp + 2 * p.LB) y.stamp) (leb→le _ _) (nleb→lt _ _) (into_pairs y.stamp x rec i h hi k le pr o r f.1)
      where
        go : (c : Bool) → (T c → x.stamp + 2 * p.LB ≤ y.stamp) → (T (not c) → y.stamp < x.stamp + 2 * p.LB)
            → Pairs p (into x rec o) → Pairs p (cond c (x ∷ rec (y ∷ o)) (y ∷ into x rec o))
        go true yes' no' e =
            let ys : All (λ (z : Line). y.stamp ≤ z.stamp) o = from_all o f.1 in
            first
            (all_rec rec i (y ∷ o) k (also g r)
            (all_map (λ z q. in_in p b x z h q.0 q.1) (all_both hi le))
            (also (in_out p x y h g (yes' tt)) (all_map (λ z q. in_out p x z h q.0 (le_trans (yes' tt) q.1)) (all_both r ys))))
            (pr (y ∷ o) (also g r) t f)
        go false yes' no' e =
            let lt : y.stamp < x.stamp + 2 * p.LB = no' tt in
            let ord : p.LB ≤ p.UB = b.order in
            let ys : All (λ (z : Line). y.stamp ≤ z.stamp) o = from_all o f.1 in
            first
            (all_into x rec i o h k r
            (out_in p y x g h (omega arith))
            (all_map (λ z q. let l : x.stamp ≤ z.stamp = q.1 in out_in p y z g q.0 (omega arith)) (all_both hi le))
            (all_map (λ z q. out-out p b y z g q.0 q.1) (all_both r ys)))
            e

    pub merged_pairs : (s t : ℕ) {i o : List Line} → All In i → All Out o → StampsFrom s i → StampsFrom t o → Pairs p (merged i o)
    unfolding merged
    merged_pairs s t done k f g = outs_pairs t k g
      where
        outs_pairs : (t : ℕ) {o : List Line} → All Out o → StampsFrom t o → Pairs p o
        outs_pairs t done g = none
        outs_pairs t (also {x} {xs} h r) g =
            first (all_map (λ z q. out-out p b x z h q.0 q.1) (all_both r (from_all xs g.1))) (outs_pairs x.stamp r g.1)
    merged_pairs s t {o} (also {x} {xs} h r) k f g =
        into_pairs t x (merged xs) xs h r (keeps r) (from_all xs f.1) (λ o' k' t' g'. merged_pairs x.stamp t' r k' f.1 g') o k g
