-- At a boundary every explanation falls apart into one of what was logged before and one of the run, and every two such make
-- one. Inputs before it closed by then; outputs before it are only not later than its stamp, and LB ≥ 1 does the rest.
use Prim.Native.Nat.{ℕ, ◌+◌, ◌*◌, ◌≤◌, ◌<◌}
use mathlib.Core.Path.{◌≡◌, refl, sym, ◌∙◌, ap, ap₂, subst}
use mathlib.Core.Logic.{◌⊎◌, inl, inr}
use mathlib.Core.List.{List, [], ◌∷◌, ◌++◌, append-eq-nil_iff, head-eq_of_cons-eq, tail-eq_of_cons-eq}
use native.Mathlib.Omega.{arith}
use native.Mathlib.Nat.{le_trans}
use Rattle.meaning.specs.Words.{Property, Line}
use Rattle.meaning.specs.Node.{ins, outs, Explanation}
use Rattle.meaning.proofs.Lists.{All, all_head, all_tail, all_map, all_both, all-ins, all-outs, all_channels, ins-append, outs-append}
use Rattle.meaning.proofs.Pairs.{Bounds, May, Pairs, none, first, Cross, pairs_append, pairs_left, pairs_right}
use Rattle.meaning.proofs.Channels.{IsIn, IsOut, In, Out, in_or_out, ins_in, outs-out, ins_cons, outs_skip}
use Rattle.meaning.proofs.Channels.{outs_cons, ins_skip, in_in, out-out, in_out, out_in, out_in_asks, never_before}
use Rattle.meaning.proofs.Facts.{explains_pairs, pairs_explain}

-- Before a boundary at the stamp T₀, more than twice the upper bound; not after it; from it on.
abbrev pub Early : Property → ℕ → Line → Type 0
Early p T₀ z = z.stamp + 2 * p.UB < T₀

abbrev pub NotAfter : ℕ → Line → Type 0
NotAfter T₀ z = z.stamp ≤ T₀

abbrev pub Late : ℕ → Line → Type 0
Late T₀ z = T₀ ≤ z.stamp

-- A boundary stands between what was logged before and a run.
pub record Apart (p : Property) (T₀ : ℕ) (earlier run : List Line) : Type 0 where
  pub inputs : All (Early p T₀) (ins earlier)
  pub outputs : All (NotAfter T₀) (outs earlier)
  pub late : All (Late T₀) run

-- an order in two parts, with the channels of each
record Parts (A B C D o : List Line) : Type 0 where
  front : List Line
  back : List Line
  stands : o ≡ front ++ back
  front-ins : ins front ≡ A
  front-outs : outs front ≡ C
  back_ins : ins back ≡ B
  back_outs : outs back ≡ D

module _ {p : Property} (b : Bounds p) (T₀ : ℕ) where
  parts : (o A B C D : List Line) → All (Early p T₀) A → All (Late T₀) B → All (NotAfter T₀) C → All (Late T₀) D
      → ins o ≡ A ++ B → outs o ≡ C ++ D → Pairs p o → Parts A B C D o
  parts [] A B C D ea lb ec ld i o none =
      let qi : (A ≡ []) × (B ≡ []) = (append-eq-nil_iff {p = A} {q = B}).0 (sym i) in
      let qo : (C ≡ []) × (D ≡ []) = (append-eq-nil_iff {p = C} {q = D}).0 (sym o) in
      record {
        front = [];
        back = [];
        stands = refl;
        front-ins = sym qi.0;
        front-outs = sym qo.0;
        back_ins = sym qi.1;
        back_outs = sym qo.1;
      }
  parts (l ∷ u) A B C D ea lb ec ld i o (first may r) =
      pick (in_or_out l.action) (λ A' C' ea' ec' i' o'. parts u A' B C' D ea' lb ec' ld i' o' r)
    where
      whole : ins (l ∷ u) ≡ B → outs (l ∷ u) ≡ D → A ≡ [] → C ≡ [] → Parts A B C D (l ∷ u)
      whole bi bo ai co =
          record {
            front = [];
            back = l ∷ u;
            stands = refl;
            front-ins = sym ai;
            front-outs = sym co;
            back_ins = bi;
            back_outs = bo;
          }

      -- an input of the run cannot stand before an earlier output, nor an output of the run before an earlier input
      input-late : (C' : List Line) (c : Line) → C ≡ c ∷ C' → In l → Late T₀ l → ⊥
      input-late C' c e h late =
          let os : outs u ≡ c ∷ (C' ++ D) = sym (outs_skip l u h) ∙ o ∙ ap (λ (z : List Line). z ++ D) e in
          let m : Out c × May p l c = all_head (subst (All (λ z. Out z × May p l z)) os (all_both (outs-out u) (all-outs may))) in
          never_before p b l c h m.0 (le_trans (all_head (subst (All (NotAfter T₀)) e ec)) late) m.1

      output-late : (A' : List Line) (a : Line) → A ≡ a ∷ A' → Out l → Late T₀ l → ⊥
      output-late A' a e h late =
          let is : ins u ≡ a ∷ (A' ++ B) = sym (ins_skip l u h) ∙ i ∙ ap (λ (z : List Line). z ++ B) e in
          let m : In a × May p l a = all_head (subst (All (λ z. In z × May p l z)) is (all_both (ins_in u) (all-ins may))) in
          let q : l.stamp ≤ a.stamp + 2 * p.UB = out_in_asks p l a h m.0 m.1 in
          let early : a.stamp + 2 * p.UB < T₀ = all_head (subst (All (Early p T₀)) e ea) in
          let late' : T₀ ≤ l.stamp = late in
          let z : ⊥ = omega arith in
          z

      longer_in : In l → (A' : List Line) → A ≡ l ∷ A' → Parts A' B C D u → Parts A B C D (l ∷ u)
      longer_in h A' e k =
          record {
            front = l ∷ k.front;
            back = k.back;
            stands = ap (λ (z : List Line). l ∷ z) k.stands;
            front-ins = ins_cons l k.front h ∙ ap (λ (z : List Line). l ∷ z) k.front-ins ∙ sym e;
            front-outs = outs_skip l k.front h ∙ k.front-outs;
            back_ins = k.back_ins;
            back_outs = k.back_outs;
          }

      longer-out : Out l → (C' : List Line) → C ≡ l ∷ C' → Parts A B C' D u → Parts A B C D (l ∷ u)
      longer-out h C' e k =
          record {
            front = l ∷ k.front;
            back = k.back;
            stands = ap (λ (z : List Line). l ∷ z) k.stands;
            front-ins = ins_skip l k.front h ∙ k.front-ins;
            front-outs = outs_cons l k.front h ∙ ap (λ (z : List Line). l ∷ z) k.front-outs ∙ sym e;
            back_ins = k.back_ins;
            back_outs = k.back_outs;
          }

      Rest : Type 0
      Rest = (A' C' : List Line) → All (Early p T₀) A' → All (NotAfter T₀) C' → ins u ≡ A' ++ B → outs u ≡ C' ++ D → Parts A' B C' D u

      by_input : In l → Rest → (X : List Line) → A ≡ X → (Y : List Line) → C ≡ Y → Parts A B C D (l ∷ u)
      by_input h rest (a ∷ X) e Y f =
          let e' : l ∷ ins u ≡ a ∷ (X ++ B) = sym (ins_cons l u h) ∙ i ∙ ap (λ (z : List Line). z ++ B) e in
          let same : l ≡ a = head-eq_of_cons-eq e' in
          longer_in h X (e ∙ ap (λ (z : Line). z ∷ X) (sym same))
          (rest X C (all_tail (subst (All (Early p T₀)) e ea)) ec (tail-eq_of_cons-eq e') (sym (outs_skip l u h) ∙ o))
      by_input h rest [] e [] f =
          whole (i ∙ ap (λ (z : List Line). z ++ B) e) (o ∙ ap (λ (z : List Line). z ++ D) f) e f
      by_input h rest [] e (c ∷ Y) f =
          let bs : l ∷ ins u ≡ B = sym (ins_cons l u h) ∙ i ∙ ap (λ (z : List Line). z ++ B) e in
          absurd (input-late Y c f h (all_head (subst (All (Late T₀)) (sym bs) lb)))

      by_output : Out l → Rest → (X : List Line) → A ≡ X → (Y : List Line) → C ≡ Y → Parts A B C D (l ∷ u)
      by_output h rest X e (c ∷ Y) f =
          let e' : l ∷ outs u ≡ c ∷ (Y ++ D) = sym (outs_cons l u h) ∙ o ∙ ap (λ (z : List Line). z ++ D) f in
          let same : l ≡ c = head-eq_of_cons-eq e' in
          longer-out h Y (f ∙ ap (λ (z : Line). z ∷ Y) (sym same))
          (rest A Y ea (all_tail (subst (All (NotAfter T₀)) f ec)) (sym (ins_skip l u h) ∙ i) (tail-eq_of_cons-eq e'))
      by_output h rest [] e [] f =
          whole (i ∙ ap (λ (z : List Line). z ++ B) e) (o ∙ ap (λ (z : List Line). z ++ D) f) e f
      by_output h rest (a ∷ X) e [] f =
          let ds : l ∷ outs u ≡ D = sym (outs_cons l u h) ∙ o ∙ ap (λ (z : List Line). z ++ D) f in
          absurd (output-late X a e h (all_head (subst (All (Late T₀)) (sym ds) ld)))

      pick : IsIn l.action ⊎ IsOut l.action → Rest → Parts A B C D (l ∷ u)
      pick (inl h) rest = by_input h rest A refl C refl
      pick (inr h) rest = by_output h rest A refl C refl

-- explanations of both parts
pub record Split (p : Property) (earlier run order : List Line) : Type 0 where
  pub front : List Line
  pub back : List Line
  pub stands : order ≡ front ++ back
  pub front-explains : Explanation p earlier front
  pub back_explains : Explanation p run back

module _ {p : Property} (b : Bounds p) {T₀ : ℕ} {earlier run : List Line} (apart : Apart p T₀ earlier run) where
  pub split : {o : List Line} → Explanation p (earlier ++ run) o → Split p earlier run o
  split {o} e =
      let c : Pairs p o = explains_pairs p b e in
      let k : Parts (ins earlier) (ins run) (outs earlier) (outs run) o =
      parts b T₀ o (ins earlier) (ins run) (outs earlier) (outs run)
      apart.inputs (all-ins apart.late) apart.outputs (all-outs apart.late)
      (e.is_order.inputs_kept ∙ ins-append earlier run) (e.is_order.outputs_kept ∙ outs-append earlier run) c in
      let c' : Pairs p (k.front ++ k.back) = subst (Pairs p) k.stands c in
      record {
        front = k.front;
        back = k.back;
        stands = k.stands;
        front-explains =
            pairs_explain p b (record { inputs_kept = k.front-ins; outputs_kept = k.front-outs }) (pairs_left k.front k.back c');
        back_explains =
            pairs_explain p b (record { inputs_kept = k.back_ins; outputs_kept = k.back_outs }) (pairs_right k.front k.back c');
      }

  pub join : {e f : List Line} → Explanation p earlier e → Explanation p run f → Explanation p (earlier ++ run) (e ++ f)
  join {e} {f} he hf =
      pairs_explain p b
      (record {
        inputs_kept = ins-append e f ∙ ap₂ ◌++◌ he.is_order.inputs_kept hf.is_order.inputs_kept ∙ sym (ins-append earlier run);
        outputs_kept = outs-append e f ∙ ap₂ ◌++◌ he.is_order.outputs_kept hf.is_order.outputs_kept ∙ sym (outs-append earlier run);
      })
      (pairs_append (explains_pairs p b he) (explains_pairs p b hf) cross)
    where
      late-ins : All (λ z. In z × Late T₀ z) (ins f)
      late-ins = subst (All (λ z. In z × Late T₀ z)) (sym hf.is_order.inputs_kept) (all_both (ins_in run) (all-ins apart.late))

      late-outs : All (λ z. Out z × Late T₀ z) (outs f)
      late-outs = subst (All (λ z. Out z × Late T₀ z)) (sym hf.is_order.outputs_kept) (all_both (outs-out run) (all-outs apart.late))

      early_ins : All (λ z. In z × Early p T₀ z) (ins e)
      early_ins = subst (All (λ z. In z × Early p T₀ z)) (sym he.is_order.inputs_kept) (all_both (ins_in earlier) apart.inputs)

      early_outs : All (λ z. Out z × NotAfter T₀ z) (outs e)
      early_outs = subst (All (λ z. Out z × NotAfter T₀ z)) (sym he.is_order.outputs_kept) (all_both (outs-out earlier) apart.outputs)

      cross : Cross p e f
      cross =
          all_channels e
          (all_map
          (λ x h.
          let hx : x.stamp + 2 * p.UB < T₀ = h.1 in
          let ord : p.LB ≤ p.UB = b.order in
          all_channels f
          (all_map (λ z q. let hz : T₀ ≤ z.stamp = q.1 in in_in p b x z h.0 q.0 (omega arith)) late-ins)
          (all_map (λ z q. let hz : T₀ ≤ z.stamp = q.1 in in_out p x z h.0 q.0 (omega arith)) late-outs))
          early_ins)
          (all_map
          (λ y h.
          let hy : y.stamp ≤ T₀ = h.1 in
          all_channels f
          (all_map (λ z q. let hz : T₀ ≤ z.stamp = q.1 in out_in p y z h.0 q.0 (omega arith)) late-ins)
          (all_map (λ z q. let hz : T₀ ≤ z.stamp = q.1 in out-out p b y z h.0 q.0 (omega arith)) late-outs))
          early_outs)
