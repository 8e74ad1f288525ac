-- A lower bound of 0 makes a verdict fall, and so do stamps that fall.
use Prim.Native.Nat.{ℕ, ◌≤◌}
use mathlib.Core.Path.{◌≡◌, refl, sym, ◌∙◌, ap, subst}
use mathlib.Core.Logic.{◌⊎◌, inl, inr}
use mathlib.Core.Bool.{false, true≢false}
use mathlib.Core.List.{List, [], ◌∷◌, ◌++◌}
use native.Mathlib.Omega.{arith}
use lib.IntN.{ℤ, pos}
use Rattle.meaning.specs.Words.{Property, Line}
use Rattle.meaning.specs.Node.{ins, outs, Given, NeverFall, Explanation, actions, Breaks, Verdict, IsVerdict}
use Rattle.meaning.specs.Matcher.{State, is_broken, ends, fall_back}
use Rattle.meaning.proofs.Lists.{All, done, also, all_head, all_tail, all_map, all-ins}
use Rattle.meaning.proofs.Pairs.{May, Pairs, none, first, timed_pairs}
use Rattle.meaning.proofs.Channels.{IsIn, IsOut, in_or_out, ins_cons, ins_skip, outs_cons, outs_skip}
use Rattle.meaning.proofs.Sets.{along}
use Rattle.meaning.proofs.Matching.{state_matcher, matcher_reads}
use Rattle.stays_told.specs.Stays
use Rattle.stays_told.specs.Falls.{input_at, output_at, property_with, certain_run, FallsTo}

-- Where no output may stand before any input there is one order: the inputs, then the outputs.
one-order : (p : Property) (o : List Line) → All (λ y. All (λ x. May p y x → ⊥) (ins o)) (outs o) → Pairs p o → o ≡ ins o ++ outs o
one-order p [] h none = refl
one-order p (z ∷ u) h (first may r) = pick (in_or_out z.action) (λ k. one-order p u k r)
  where
    Never : List Line → List Line → Type 0
    Never os is = All (λ y. All (λ x. May p y x → ⊥) is) os

    no_input : (is : List Line) → All (May p z) is → All (λ x. May p z x → ⊥) is → is ≡ []
    no_input [] m n = refl
    no_input (x ∷ is) m n = absurd (all_head n (all_head m))

    pick : IsIn z.action ⊎ IsOut z.action → (Never (outs u) (ins u) → u ≡ ins u ++ outs u) → z ∷ u ≡ ins (z ∷ u) ++ outs (z ∷ u)
    pick (inl i) on =
        let k : Never (outs u) (z ∷ ins u) = subst (λ (q : List Line). Never q (z ∷ ins u)) (outs_skip z u i) (subst (Never (outs (z ∷ u))) (ins_cons z u i) h) in
        ap (λ (q : List Line). z ∷ q) (on (all_map (λ y q. all_tail q) k))
        ∙ sym (ap (λ (q : List Line). q ++ outs (z ∷ u)) (ins_cons z u i) ∙ ap (λ (q : List Line). z ∷ (ins u ++ q)) (outs_skip z u i))
    pick (inr o) on =
        let k : Never (z ∷ outs u) (ins u) = subst (λ (q : List Line). Never q (ins u)) (outs_cons z u o) (subst (Never (outs (z ∷ u))) (ins_skip z u o) h) in
        let e : ins u ≡ [] = no_input (ins u) (all-ins may) (all_head k) in
        ap (λ (q : List Line). z ∷ q) (on (all_tail k) ∙ ap (λ (q : List Line). q ++ outs u) e)
        ∙ sym (ap (λ (q : List Line). q ++ outs (z ∷ u)) (ins_skip z u o ∙ e) ∙ outs_cons z u o)

-- of an explanation whose channels are known
forced : (p : Property) (run I O : List Line) → ins run ≡ I → outs run ≡ O → All (λ y. All (λ x. May p y x → ⊥) I) O
    → (o : List Line) → Explanation p run o → o ≡ I ++ O
forced p run I O ei eo h o e =
    let i : ins o ≡ I = e.is_order.inputs_kept ∙ ei in
    let q : outs o ≡ O = e.is_order.outputs_kept ∙ eo in
    one-order p o
    (subst (λ (x : List Line). All (λ y. All (λ x. May p y x → ⊥) x) (outs o)) (sym i) (subst (All (λ y. All (λ x. May p y x → ⊥) I)) (sym q) h))
    (timed_pairs p o e.timed)
    ∙ ap (λ (x : List Line). x ++ outs o) i ∙ ap (λ (x : List Line). I ++ x) q

abbrev answers : List Line
answers = output_at 1 100 ∷ output_at 2 100 ∷ []

-- ?0 !1 !2 breaks, whatever the lower bound, and no other order explains it
run_breaks : (least : ℕ) (more : List Line) → Breaks (property_with least) (certain_run ++ more)
run_breaks least more =
    record { before = []; behind = certain_run ++ more; stands = refl; between = []; breach = record { answer = 2; after = actions more; occurs = refl; outside = refl } }

run-certain : (least : ℕ) → IsVerdict (property_with least) certain_run Verdict.certain
run-certain least o e =
    subst (Breaks (property_with least))
    (sym (forced (property_with least) certain_run (input_at 0 0 ∷ []) answers refl refl (also never (also never done)) o e))
    (run_breaks least [])
  where
    never : All (λ x. May (property_with least) (output_at 1 100) x → ⊥) (input_at 0 0 ∷ [])
    never = also {x = input_at 0 0} (λ h. omega (arith, h)) done

-- ?0 ?5 !1 !2: the sequence is parted
abbrev parted : ℕ → List Line
parted t = input_at 0 0 ∷ input_at 5 t ∷ answers

parted_spared : (least t : ℕ) → Breaks (property_with least) (parted t) → ⊥
parted_spared least t h = true≢false (sym ((matcher_reads (property_with least) (omega arith) (parted t)).1 h) ∙ computed)
  where
    computed : is_broken (along (state_matcher (property_with least)) (State.matched false 0) (parted t)) ≡ false
    computed = unfold along ends fall_back in refl

-- With bounds 0 and 10 both orders can be had, at the moments 0, 100, 100 and 100: ?5@100 comes last, or parts the sequence.
abbrev moments : List ℤ
moments = pos 0 ∷ pos 100 ∷ pos 100 ∷ pos 100 ∷ []

never_fall : NeverFall moments
never_fall = (record { le = tt }, (record { le = tt }, (record { le = tt }, tt)))

last-given : Given (property_with 0) (certain_run ++ input_at 5 100 ∷ []) moments
last-given = (
  (record { le = tt }, record { le = tt }),
  ((record { le = tt }, record { le = tt }), ((record { le = tt }, record { le = tt }), ((record { le = tt }, record { le = tt }), tt))),
)

parted_given : Given (property_with 0) (parted 100) moments
parted_given = (
  (record { le = tt }, record { le = tt }),
  ((record { le = tt }, record { le = tt }), ((record { le = tt }, record { le = tt }), ((record { le = tt }, record { le = tt }), tt))),
)

pub lower_bound_needed : FallsTo Verdict.suspect (property_with 0) (input_at 5 100)
lower_bound_needed =
    record {
      certain_before = run-certain 0;
      lower_after = (
        record {
          order = certain_run ++ input_at 5 100 ∷ [];
          explains =
              record {
                is_order = record { inputs_kept = refl; outputs_kept = refl };
                timed = record { moments = moments; given = last-given; never_fall = never_fall };
              };
          holds = run_breaks 0 (input_at 5 100 ∷ []);
        },
        record {
          order = parted 100;
          explains =
              record {
                is_order = record { inputs_kept = refl; outputs_kept = refl };
                timed = record { moments = moments; given = parted_given; never_fall = never_fall };
              };
          holds = parted_spared 0 100;
        },
      );
    }

pub falls_at_zero : Stays.NeverFalls (property_with 0) → ⊥
falls_at_zero h =
    let k : 2 ≤ 1 =
    h certain_run (input_at 5 100 ∷ []) (omega arith, (omega arith, (omega arith, (omega arith, tt)))) Verdict.certain Verdict.suspect
    lower_bound_needed.certain_before lower_bound_needed.lower_after in
    omega (arith, k)

-- With a lower bound of 1, ?5@50 logged behind them must stand before !1@100.
pub stamps_needed : FallsTo Verdict.clear (property_with 1) (input_at 5 50)
stamps_needed =
    record {
      certain_before = run-certain 1;
      lower_after = λ o e h. parted_spared 1 50
          (subst (Breaks (property_with 1))
          (forced (property_with 1) (certain_run ++ input_at 5 50 ∷ []) (input_at 0 0 ∷ input_at 5 50 ∷ []) answers refl refl (also never (also never done)) o e)
          h);
    }
  where
    never : All (λ x. May (property_with 1) (output_at 1 100) x → ⊥) (input_at 0 0 ∷ input_at 5 50 ∷ [])
    never = also {x = input_at 0 0} (λ h. omega (arith, h)) (also {x = input_at 5 50} (λ h. omega (arith, h)) done)
