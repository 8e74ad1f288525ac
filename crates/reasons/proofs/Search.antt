-- The first order with a wanted end, found going forward: an output first wherever that end can still be reached from there.
use Prim.Native.Nat.{ℕ, zero, suc, ◌+◌, ◌*◌, ◌≤◌, ◌<◌}
use mathlib.Core.Path.{◌≡◌, refl, sym, ◌∙◌, ap, subst}
use mathlib.Core.Logic.{◌⊎◌, inl, inr}
use mathlib.Core.Bool.{Bool, true, false}
use mathlib.Core.List.{List, [], ◌∷◌, head-eq_of_cons-eq, tail-eq_of_cons-eq, nil≢cons}
use native.Mathlib.Omega.{arith}
use lib.ListN.{length}
use lib.Dec.{leb}
use borrow.Author.Tests.{leb-true, leb-false}
use Rattle.meaning.specs.Words.{Property, Line, StampsFrom}
use Rattle.meaning.specs.Node.{ins, outs, InputFirst, OutputFirst}
use Rattle.meaning.proofs.Lists.{All, done, also, all_head, all_tail, all_map, all_both, all-ins, all-outs, all_channels, from_all, from_weaker}
use Rattle.meaning.proofs.Pairs.{Bounds, May, Pairs, none, first}
use Rattle.meaning.proofs.Channels.{IsIn, IsOut, In, Out, in_or_out, ins_cons, outs_skip, outs_cons, ins_skip, in_in, out-out, in_out, out_in, in_out_asks, out_in_asks}
use Rattle.meaning.proofs.OneLine.{empty_channels}
use Rattle.meaning.proofs.Sets.{Matcher, along}
use Rattle.reasons.specs.Reasons.{Sooner, First}
use Rattle.reasons.proofs.First.{sooner_cons, sooner_here}

module _ (p : Property) (b : Bounds p) (M : Matcher) (Ends : M.State → Type 0) where
  -- An order of these inputs and these outputs to which moments can be given, and which leads from a state to the wanted end.
  pub record Fitting (I O : List Line) (q : M.State) (order : List Line) : Type 0 where
    pub ins_are : ins order ≡ I
    pub outs_are : outs order ≡ O
    pub pairs : Pairs p order
    pub ends : Ends (along M q order)

  abbrev pub Reach : List Line → List Line → M.State → Type 0
  Reach I O q = (order : List Line) × Fitting I O q order

  -- How it is found. Where both channels have a line left, the output is first if it may be and the wanted end can be reached from there.
  pub data Found : List Line → List Line → M.State → List Line → Type 0 where
    over : {q : M.State} → Found [] [] q []
    outputs : {y : Line} {O o : List Line} {q : M.State} → Found [] O (M.step q y) o → Found [] (y ∷ O) q (y ∷ o)
    inputs : {x : Line} {I o : List Line} {q : M.State} → Found I [] (M.step q x) o → Found (x ∷ I) [] q (x ∷ o)
    output : {x y : Line} {I O o : List Line} {q : M.State} → OutputFirst p x.stamp y.stamp → Reach (x ∷ I) O (M.step q y)
        → Found (x ∷ I) O (M.step q y) o → Found (x ∷ I) (y ∷ O) q (y ∷ o)
    input : {x y : Line} {I O o : List Line} {q : M.State} → (OutputFirst p x.stamp y.stamp → Reach (x ∷ I) O (M.step q y) → ⊥)
        → Found I (y ∷ O) (M.step q x) o → Found (x ∷ I) (y ∷ O) q (x ∷ o)

  -- what stands first in a fitting order
  data Headed (I O : List Line) (q : M.State) : List Line → Type 0 where
    nothing : I ≡ [] → O ≡ [] → Headed I O q []
    by_in : (x : Line) (I' o : List Line) → I ≡ x ∷ I' → In x → All (May p x) I' → All (May p x) O → Fitting I' O (M.step q x) o → Headed I O q (x ∷ o)
    by_out : (y : Line) (O' o : List Line) → O ≡ y ∷ O' → Out y → All (May p y) I → All (May p y) O' → Fitting I O' (M.step q y) o → Headed I O q (y ∷ o)

  head_of : {I O : List Line} {q : M.State} (order : List Line) → Fitting I O q order → Headed I O q order
  unfolding along
  head_of [] f = nothing (sym f.ins_are) (sym f.outs_are)
  head_of {I} {O} {q} (z ∷ o) f = go f.pairs (in_or_out z.action)
    where
      go : Pairs p (z ∷ o) → IsIn z.action ⊎ IsOut z.action → Headed I O q (z ∷ o)
      go (first a c) (inl h) =
          let eo : outs o ≡ O = sym (outs_skip z o h) ∙ f.outs_are in
          by_in z (ins o) o (sym f.ins_are ∙ ins_cons z o h) h (all-ins a) (subst (All (May p z)) eo (all-outs a))
          (record { ins_are = refl; outs_are = eo; pairs = c; ends = f.ends })
      go (first a c) (inr h) =
          let ei : ins o ≡ I = sym (ins_skip z o h) ∙ f.ins_are in
          by_out z (outs o) o (sym f.outs_are ∙ outs_cons z o h) h (subst (All (May p z)) ei (all-ins a)) (all-outs a)
          (record { ins_are = ei; outs_are = refl; pairs = c; ends = f.ends })

  -- one line more in front of a fitting order
  with_in : (x : Line) {I O : List Line} {q : M.State} {o : List Line} → In x → All (May p x) I → All (May p x) O → Fitting I O (M.step q x) o
      → Fitting (x ∷ I) O q (x ∷ o)
  unfolding along
  with_in x {o = o} h i a f =
      record {
        ins_are = ins_cons x o h ∙ ap (λ (l : List Line). x ∷ l) f.ins_are;
        outs_are = outs_skip x o h ∙ f.outs_are;
        pairs = first (all_channels o (subst (All (May p x)) (sym f.ins_are) i) (subst (All (May p x)) (sym f.outs_are) a)) f.pairs;
        ends = f.ends;
      }

  with_out : (y : Line) {I O : List Line} {q : M.State} {o : List Line} → Out y → All (May p y) I → All (May p y) O → Fitting I O (M.step q y) o
      → Fitting I (y ∷ O) q (y ∷ o)
  unfolding along
  with_out y {o = o} h i a f =
      record {
        ins_are = ins_skip y o h ∙ f.ins_are;
        outs_are = outs_cons y o h ∙ ap (λ (l : List Line). y ∷ l) f.outs_are;
        pairs = first (all_channels o (subst (All (May p y)) (sym f.ins_are) i) (subst (All (May p y)) (sym f.outs_are) a)) f.pairs;
        ends = f.ends;
      }

  -- the same first line: what is first behind it is first
  behind : (z : Line) {F : List Line → Type 0} {o : List Line} → First F o → (u : List Line) → F u → (z ∷ o ≡ z ∷ u) ⊎ Sooner (z ∷ o) (z ∷ u)
  behind z {o = o} g u f = go (g.first u f)
    where
      go : (o ≡ u) ⊎ Sooner o u → (z ∷ o ≡ z ∷ u) ⊎ Sooner (z ∷ o) (z ∷ u)
      go (inl e) = inl (ap (λ (l : List Line). z ∷ l) e)
      go (inr s) = inr (sooner_cons z s)

  -- the next line of a channel is known
  same_in : (x x' : Line) {I I' O u : List Line} {q : M.State} → x ∷ I ≡ x' ∷ I' → Fitting I' O (M.step q x') u → Fitting I O (M.step q x) u
  same_in x x' {I} {I'} {O} {u} {q} e f =
      subst (λ (l : List Line). Fitting l O (M.step q x) u) (sym (tail-eq_of_cons-eq e)) (subst (λ (z : Line). Fitting I' O (M.step q z) u) (sym (head-eq_of_cons-eq e)) f)

  same_out : (y y' : Line) {I O O' u : List Line} {q : M.State} → y ∷ O ≡ y' ∷ O' → Fitting I O' (M.step q y') u → Fitting I O (M.step q y) u
  same_out y y' {I} {O} {O'} {u} {q} e f =
      subst (λ (l : List Line). Fitting I l (M.step q y) u) (sym (tail-eq_of_cons-eq e)) (subst (λ (z : Line). Fitting I O' (M.step q z) u) (sym (head-eq_of_cons-eq e)) f)

  -- an output may stand before later outputs, and before all inputs if it may before the first
  before-outs : (y : Line) (O : List Line) → All Out (y ∷ O) → StampsFrom 0 (y ∷ O) → All (May p y) O
  before-outs y O (also o os) f = all_map (λ z h. out-out p b y z o h.0 h.1) (all_both os (from_all O f.1))

  before-ins : (y x : Line) (I : List Line) → Out y → All In (x ∷ I) → StampsFrom 0 (x ∷ I) → OutputFirst p x.stamp y.stamp → All (May p y) (x ∷ I)
  before-ins y x I o (also i is) f h =
      also (out_in p y x o i h) (all_map (λ z k. out_in p y z o k.0 (let k' : x.stamp ≤ z.stamp = k.1 in omega arith)) (all_both is (from_all I f.1)))

  rest_rises : (z : Line) (l : List Line) → StampsFrom 0 (z ∷ l) → StampsFrom 0 l
  rest_rises z l f = from_weaker l (omega arith) f.1

  -- The order so found is the first.
  pub found_first : {I O : List Line} {q : M.State} {o : List Line} → All In I → All Out O → StampsFrom 0 I → StampsFrom 0 O
      → Found I O q o → Reach I O q → First (Fitting I O q) o
  found_first ii oo fi fo (over {q}) (w, f) =
      record {
        fits = subst (Fitting [] [] q) (empty_channels w f.ins_are f.outs_are) f;
        first = λ u g. inl (sym (empty_channels u g.ins_are g.outs_are));
      }
  found_first ii oo fi fo (outputs {y} {O} {o} {q} r) (w, f) = go (λ h. found_first ii (all_tail oo) fi (rest_rises y O fo) r h) (head_of w f)
    where
      go : (Reach [] O (M.step q y) → First (Fitting [] O (M.step q y)) o) → {w : List Line} → Headed [] (y ∷ O) q w → First (Fitting [] (y ∷ O) q) (y ∷ o)
      go ih (nothing ei eo) = absurd (nil≢cons (sym eo))
      go ih (by_in x I' u ei i mi mo g) = absurd (nil≢cons ei)
      go ih (by_out y' O' u eo out mi mo g) =
          let tail : First (Fitting [] O (M.step q y)) o = ih (u, same_out y y' eo g) in
          record {
            fits = with_out y (all_head oo) done (before-outs y O oo fo) tail.fits;
            first = λ v k. other tail (head_of v k);
          }
        where
          other : First (Fitting [] O (M.step q y)) o → {v : List Line} → Headed [] (y ∷ O) q v → (y ∷ o ≡ v) ⊎ Sooner (y ∷ o) v
          other tail (nothing ei eo) = absurd (nil≢cons (sym eo))
          other tail (by_in x I' u ei i mi mo g) = absurd (nil≢cons ei)
          other tail (by_out z Z v e out mi mo g) =
              subst (λ (l : Line). (y ∷ o ≡ l ∷ v) ⊎ Sooner (y ∷ o) (l ∷ v)) (head-eq_of_cons-eq e) (behind y tail v (same_out y z e g))
  found_first ii oo fi fo (inputs {x} {I} {o} {q} r) (w, f) = go (λ h. found_first (all_tail ii) oo (rest_rises x I fi) fo r h) (head_of w f)
    where
      other : First (Fitting I [] (M.step q x)) o → {v : List Line} → Headed (x ∷ I) [] q v → (x ∷ o ≡ v) ⊎ Sooner (x ∷ o) v
      other tail (nothing ei eo) = absurd (nil≢cons (sym ei))
      other tail (by_out y O' u eo out mi mo g) = absurd (nil≢cons eo)
      other tail (by_in z Z v e i mi mo g) =
          subst (λ (l : Line). (x ∷ o ≡ l ∷ v) ⊎ Sooner (x ∷ o) (l ∷ v)) (head-eq_of_cons-eq e) (behind x tail v (same_in x z e g))

      go : (Reach I [] (M.step q x) → First (Fitting I [] (M.step q x)) o) → {w : List Line} → Headed (x ∷ I) [] q w → First (Fitting (x ∷ I) [] q) (x ∷ o)
      go ih (nothing ei eo) = absurd (nil≢cons (sym ei))
      go ih (by_out y O' u eo out mi mo g) = absurd (nil≢cons eo)
      go ih (by_in z Z u e i mi mo g) =
          let tail : First (Fitting I [] (M.step q x)) o = ih (u, same_in x z e g) in
          record {
            fits =
                with_in x (all_head ii)
                (subst (λ (l : Line). All (May p l) I) (sym (head-eq_of_cons-eq e)) (subst (All (May p z)) (sym (tail-eq_of_cons-eq e)) mi)) done tail.fits;
            first = λ v k. other tail (head_of v k);
          }
  found_first ii oo fi fo (output {x} {y} {I} {O} {o} {q} may reach r) (w, f) = go (found_first ii (all_tail oo) fi (rest_rises y O fo) r reach)
    where
      other : First (Fitting (x ∷ I) O (M.step q y)) o → {v : List Line} → Headed (x ∷ I) (y ∷ O) q v → (y ∷ o ≡ v) ⊎ Sooner (y ∷ o) v
      other tail (nothing ei eo) = absurd (nil≢cons (sym ei))
      other tail (by_in z Z v e i mi mo g) = inr (sooner_here y z (all_head oo) i o v)
      other tail (by_out z Z v e out mi mo g) =
          subst (λ (l : Line). (y ∷ o ≡ l ∷ v) ⊎ Sooner (y ∷ o) (l ∷ v)) (head-eq_of_cons-eq e) (behind y tail v (same_out y z e g))

      go : First (Fitting (x ∷ I) O (M.step q y)) o → First (Fitting (x ∷ I) (y ∷ O) q) (y ∷ o)
      go tail =
          record {
            fits = with_out y (all_head oo) (before-ins y x I (all_head oo) ii fi may) (before-outs y O oo fo) tail.fits;
            first = λ v k. other tail (head_of v k);
          }
  found_first ii oo fi fo (input {x} {y} {I} {O} {o} {q} not r) (w, f) = go (λ h. found_first (all_tail ii) oo (rest_rises x I fi) fo r h) (head_of w f)
    where
      -- no fitting order begins with the output
      never : (z : Line) {Z v : List Line} → y ∷ O ≡ z ∷ Z → All (May p z) (x ∷ I) → Fitting (x ∷ I) Z (M.step q z) v → ⊥
      never z {Z} {v} e mi g =
          not (out_in_asks p y x (all_head oo) (all_head ii) (all_head (subst (λ (l : Line). All (May p l) (x ∷ I)) (sym (head-eq_of_cons-eq e)) mi)))
          (v, same_out y z e g)

      other : First (Fitting I (y ∷ O) (M.step q x)) o → {v : List Line} → Headed (x ∷ I) (y ∷ O) q v → (x ∷ o ≡ v) ⊎ Sooner (x ∷ o) v
      other tail (nothing ei eo) = absurd (nil≢cons (sym ei))
      other tail (by_out z Z v e out mi mo g) = absurd (never z e mi g)
      other tail (by_in z Z v e i mi mo g) =
          subst (λ (l : Line). (x ∷ o ≡ l ∷ v) ⊎ Sooner (x ∷ o) (l ∷ v)) (head-eq_of_cons-eq e) (behind x tail v (same_in x z e g))

      go : (Reach I (y ∷ O) (M.step q x) → First (Fitting I (y ∷ O) (M.step q x)) o) → {w : List Line} → Headed (x ∷ I) (y ∷ O) q w → First (Fitting (x ∷ I) (y ∷ O) q) (x ∷ o)
      go ih (nothing ei eo) = absurd (nil≢cons (sym ei))
      go ih (by_out z Z u e out mi mo g) = absurd (never z e mi g)
      go ih (by_in z Z u e i mi mo g) =
          let tail : First (Fitting I (y ∷ O) (M.step q x)) o = ih (u, same_in x z e g) in
          record {
            fits =
                with_in x (all_head ii)
                (subst (λ (l : Line). All (May p l) I) (sym (head-eq_of_cons-eq e)) (subst (All (May p z)) (sym (tail-eq_of_cons-eq e)) mi))
                (subst (λ (l : Line). All (May p l) (y ∷ O)) (sym (head-eq_of_cons-eq e)) mo)
                tail.fits;
            first = λ v k. other tail (head_of v k);
          }

  -- ---- where the wanted end can be told of a state, so can whether it can be reached
  -- an input may stand before later inputs, and before all outputs if it may before the first
  after-ins : (x : Line) (I : List Line) → All In (x ∷ I) → StampsFrom 0 (x ∷ I) → All (May p x) I
  after-ins x I (also i is) f = all_map (λ z h. in_in p b x z i h.0 h.1) (all_both is (from_all I f.1))

  after-outs : (x y : Line) (O : List Line) → In x → All Out (y ∷ O) → StampsFrom 0 (y ∷ O) → InputFirst p x.stamp y.stamp → All (May p x) (y ∷ O)
  after-outs x y O i (also o os) f h =
      also (in_out p x y i o h) (all_map (λ z k. in_out p x z i k.0 (let k' : y.stamp ≤ z.stamp = k.1 in omega arith)) (all_both os (from_all O f.1)))

  not_first : (s t : ℕ) → s + 2 * p.UB < t → OutputFirst p s t → ⊥
  not_first s t l c = omega arith

  abbrev Decides : List Line → List Line → M.State → Type 0
  Decides I O q = Reach I O q ⊎ ¬ Reach I O q

  -- from both channels: by the output if it may stand first, or else by the input
  either_first : (x y : Line) (I O : List Line) (q : M.State) → All In (x ∷ I) → All Out (y ∷ O) → StampsFrom 0 (x ∷ I) → StampsFrom 0 (y ∷ O)
      → Decides (x ∷ I) O (M.step q y) → Decides I (y ∷ O) (M.step q x) → Decides (x ∷ I) (y ∷ O) q
  either_first x y I O q ii oo fi fo by-y by-x =
      go (leb y.stamp (x.stamp + 2 * p.UB)) (leb-true y.stamp (x.stamp + 2 * p.UB)) (leb-false y.stamp (x.stamp + 2 * p.UB)) by-y
    where
      from_out : {w : List Line} → Headed (x ∷ I) (y ∷ O) q w → (OutputFirst p x.stamp y.stamp → Reach (x ∷ I) O (M.step q y) → ⊥)
          → (InputFirst p x.stamp y.stamp → Reach I (y ∷ O) (M.step q x) → ⊥) → ⊥
      from_out (nothing ei eo) s t = nil≢cons (sym ei)
      from_out (by_out z Z v e out mi mo g) s t =
          s (out_in_asks p y x (all_head oo) (all_head ii) (all_head (subst (λ (l : Line). All (May p l) (x ∷ I)) (sym (head-eq_of_cons-eq e)) mi))) (v, same_out y z e g)
      from_out (by_in z Z v e i mi mo g) s t =
          t (in_out_asks p x y (all_head ii) (all_head oo) (all_head (subst (λ (l : Line). All (May p l) (y ∷ O)) (sym (head-eq_of_cons-eq e)) mo))) (v, same_in x z e g)

      input_then : (OutputFirst p x.stamp y.stamp → Reach (x ∷ I) O (M.step q y) → ⊥) → (t : Bool) → (t ≡ true → x.stamp + 2 * p.LB ≤ y.stamp)
          → (t ≡ false → y.stamp < x.stamp + 2 * p.LB) → Decides I (y ∷ O) (M.step q x) → Decides (x ∷ I) (y ∷ O) q
      input_then s true h k (inl r) = inl (x ∷ r.0, with_in x (all_head ii) (after-ins x I ii fi) (after-outs x y O (all_head ii) oo fo (h refl)) r.1)
      input_then s true h k (inr n) = inr (λ r. from_out (head_of r.0 r.1) s (λ c f. n f))
      input_then s false h k d = inr (λ r. from_out (head_of r.0 r.1) s (λ c f. let l : y.stamp < x.stamp + 2 * p.LB = k refl in let z : ⊥ = omega arith in z))

      on : (OutputFirst p x.stamp y.stamp → Reach (x ∷ I) O (M.step q y) → ⊥) → Decides (x ∷ I) (y ∷ O) q
      on s = input_then s (leb (x.stamp + 2 * p.LB) y.stamp) (leb-true _ _) (leb-false _ _) by-x

      go : (t : Bool) → (t ≡ true → y.stamp ≤ x.stamp + 2 * p.UB) → (t ≡ false → x.stamp + 2 * p.UB < y.stamp) → Decides (x ∷ I) O (M.step q y) → Decides (x ∷ I) (y ∷ O) q
      go true h k (inl r) = inl (y ∷ r.0, with_out y (all_head oo) (before-ins y x I (all_head oo) ii fi (h refl)) (before-outs y O oo fo) r.1)
      go true h k (inr n) = on (λ c f. n f)
      go false h k d = on (λ c f. not_first x.stamp y.stamp (k refl) c)

  module _ (told : (s : M.State) → Ends s ⊎ ¬ Ends s) where
    decided : (m : ℕ) (I O : List Line) (q : M.State) → length I + length O ≡ m → All In I → All Out O → StampsFrom 0 I → StampsFrom 0 O → Decides I O q
    unfolding along
    decided m [] [] q e ii oo fi fo = go (told q)
      where
        go : Ends q ⊎ ¬ Ends q → Decides [] [] q
        go (inl h) = inl ([], record { ins_are = refl; outs_are = refl; pairs = none; ends = h })
        go (inr n) = inr (λ r. n (subst (λ (w : List Line). Ends (along M q w)) (empty_channels r.0 r.1.ins_are r.1.outs_are) r.1.ends))
    decided zero (x ∷ I) O q e ii oo fi fo = let z : ⊥ = omega arith in absurd z
    decided zero [] (y ∷ O) q e ii oo fi fo = let z : ⊥ = omega arith in absurd z
    decided (suc m) [] (y ∷ O) q e ii oo fi fo = go (decided m [] O (M.step q y) (omega arith) ii (all_tail oo) fi (rest_rises y O fo))
      where
        only : {w : List Line} → Headed [] (y ∷ O) q w → ¬ Reach [] O (M.step q y) → ⊥
        only (nothing ei eo) n = nil≢cons (sym eo)
        only (by_in x I' u ei i mi mo g) n = nil≢cons ei
        only (by_out z Z v eo out mi mo g) n = n (v, same_out y z eo g)

        go : Decides [] O (M.step q y) → Decides [] (y ∷ O) q
        go (inl r) = inl (y ∷ r.0, with_out y (all_head oo) done (before-outs y O oo fo) r.1)
        go (inr n) = inr (λ r. only (head_of r.0 r.1) n)
    decided (suc m) (x ∷ I) [] q e ii oo fi fo = go (decided m I [] (M.step q x) (omega arith) (all_tail ii) oo (rest_rises x I fi) fo)
      where
        only : {w : List Line} → Headed (x ∷ I) [] q w → ¬ Reach I [] (M.step q x) → ⊥
        only (nothing ei eo) n = nil≢cons (sym ei)
        only (by_out y O' u eo out mi mo g) n = nil≢cons eo
        only (by_in z Z v ei i mi mo g) n = n (v, same_in x z ei g)

        go : Decides I [] (M.step q x) → Decides (x ∷ I) [] q
        go (inl r) = inl (x ∷ r.0, with_in x (all_head ii) (after-ins x I ii fi) done r.1)
        go (inr n) = inr (λ r. only (head_of r.0 r.1) n)
    decided (suc m) (x ∷ I) (y ∷ O) q e ii oo fi fo =
        either_first x y I O q ii oo fi fo
        (decided m (x ∷ I) O (M.step q y) (omega arith) ii (all_tail oo) fi (rest_rises y O fo))
        (decided m I (y ∷ O) (M.step q x) (omega arith) (all_tail ii) oo (rest_rises x I fi) fo)

    -- the search goes through
    searched : (m : ℕ) (I O : List Line) (q : M.State) → length I + length O ≡ m → All In I → All Out O → StampsFrom 0 I → StampsFrom 0 O
        → (o : List Line) × Found I O q o
    searched m [] [] q e ii oo fi fo = ([], over)
    searched zero (x ∷ I) O q e ii oo fi fo = let z : ⊥ = omega arith in absurd z
    searched zero [] (y ∷ O) q e ii oo fi fo = let z : ⊥ = omega arith in absurd z
    searched (suc m) [] (y ∷ O) q e ii oo fi fo = let r = searched m [] O (M.step q y) (omega arith) ii (all_tail oo) fi (rest_rises y O fo) in (y ∷ r.0, outputs r.1)
    searched (suc m) (x ∷ I) [] q e ii oo fi fo = let r = searched m I [] (M.step q x) (omega arith) (all_tail ii) oo (rest_rises x I fi) fo in (x ∷ r.0, inputs r.1)
    searched (suc m) (x ∷ I) (y ∷ O) q e ii oo fi fo =
        go (leb y.stamp (x.stamp + 2 * p.UB)) (leb-true _ _) (leb-false _ _) (decided m (x ∷ I) O (M.step q y) (omega arith) ii (all_tail oo) fi (rest_rises y O fo))
        (searched m (x ∷ I) O (M.step q y) (omega arith) ii (all_tail oo) fi (rest_rises y O fo))
        (searched m I (y ∷ O) (M.step q x) (omega arith) (all_tail ii) oo (rest_rises x I fi) fo)
      where
        go : (t : Bool) → (t ≡ true → y.stamp ≤ x.stamp + 2 * p.UB) → (t ≡ false → x.stamp + 2 * p.UB < y.stamp) → Decides (x ∷ I) O (M.step q y)
            → ((o : List Line) × Found (x ∷ I) O (M.step q y) o) → ((o : List Line) × Found I (y ∷ O) (M.step q x) o) → (o : List Line) × Found (x ∷ I) (y ∷ O) q o
        go true h k (inl r) u v = (y ∷ u.0, output (h refl) r u.1)
        go true h k (inr n) u v = (x ∷ v.0, input (λ c f. n f) v.1)
        go false h k d u v = (x ∷ v.0, input (λ c f. not_first x.stamp y.stamp (k refl) c) v.1)

    -- Where there is a fitting order, there is a first.
    pub first_fitting : (I O : List Line) (q : M.State) → All In I → All Out O → StampsFrom 0 I → StampsFrom 0 O → Reach I O q → (o : List Line) × First (Fitting I O q) o
    first_fitting I O q ii oo fi fo r =
        let s = searched (length I + length O) I O q refl ii oo fi fo in (s.0, found_first ii oo fi fo s.1 r)
