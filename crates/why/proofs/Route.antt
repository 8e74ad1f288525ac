-- The order that is written, line by line, is the one that the search for the first finds, and its numbers are those of its lines.
use Prim.Native.Nat.{ℕ, zero, suc, ◌+◌, ◌*◌, ◌-◌, ◌≤◌, ◌<◌}
use mathlib.Core.Path.{◌≡◌, refl, sym, ap, ap₂, ◌∙◌, subst}
use mathlib.Core.Logic.{◌↔◌}
use mathlib.Core.Bool.{Bool, true, false, not, true≢false}
use mathlib.Core.List.{List, [], ◌∷◌}
use native.Mathlib.Omega.{arith}
use lib.ListN.{length, get_or}
use lib.Dec.{leb, ltb}
use borrow.Author.Tests.{leb-true, leb-false, ltb-true, ltb-false}
use borrow.Author.Tests as B
use Rattle.laws.specs.Places.{first}
use Rattle.laws.proofs.Places.{first-same}
use Rattle.meaning.specs.Words.{Line, StampsFrom}
use Rattle.meaning.specs.Node.{OutputFirst}
use Rattle.meaning.specs.Numbers.{property_refusal}
use Rattle.meaning.specs.Matcher.{State, state_next, is_broken}
use Rattle.meaning.proofs.Pairs.{good_bounds}
use Rattle.meaning.proofs.Sets.{Matcher}
use Rattle.meaning.proofs.Matching.{state_matcher}
use Rattle.reasons.specs.Reasons.{gets_in, numbered}
use Rattle.reasons.proofs.Search.{Reach, Found, over, outputs, inputs, output, input}
use Rattle.property.specs.Meant.{meant, action_of}
use Rattle.property.specs.declared.Property.{Property}
use Rattle.cuts.specs.Steps.{line_of}
use Rattle.judged_rest.specs.declared.Reached.{Reached}
use Rattle.judged_rest.specs.Lent.{Lines, is_output, stamp_at, line_in, count}
use Rattle.judged_rest.specs.Judged.{judged}
use Rattle.first_order.specs.Search.{next_from, kind_in, reaches, with_line, placed_next, choice, placed}
use Rattle.first_order.proofs.NextPlace.{IsNext, is_next}
use Rattle.first_order.proofs.Choices.{no_output, no_input, too_far, reached, not_reached}
use Rattle.why.proofs.Left.{no_length, on_none, on_next}
use Rattle.why.proofs.Whole.{AllTaken}
use Rattle.why.proofs.Channel.{channel, Only, only_next}
use Rattle.why.proofs.Placing.{Can, asked}
use Rattle.why.proofs.Showing.{kind_of, numbered_in, numbered-out, numbered-none}

-- the rest of an order, from what its first line has reached
module _ (p : Property) (ls : Lines) (breaking : Bool) where
  placed_shift : (from : Reached) (j : ℕ) → placed p ls breaking from (suc j) ≡ placed p ls breaking (placed_next p ls from (choice p ls breaking from)) j
  unfolding placed
  placed_shift from zero = refl
  placed_shift from (suc j) = ap (λ (r : Reached). placed_next p ls r (choice p ls breaking r)) (placed_shift from j)

  -- the first m places of the order from somewhere: of each what g says
  abbrev pub route_of : {A : Type 0} → (ℕ → A) → Reached → ℕ → List A
  route_of g from m = first (λ (j : ℕ). g (choice p ls breaking (placed p ls breaking from j))) m

  unroll : {A : Type 0} (g : ℕ → A) (from next : Reached) (m : ℕ) → placed_next p ls from (choice p ls breaking from) ≡ next
      → route_of g from (suc m) ≡ g (choice p ls breaking from) ∷ route_of g next m
  unfolding first placed
  unroll g from next m e =
      ap (λ (l : List _). g (choice p ls breaking from) ∷ l)
      (first-same (λ (j : ℕ). g (choice p ls breaking (placed p ls breaking from (suc j)))) (λ (j : ℕ). g (choice p ls breaking (placed p ls breaking next j))) m
      (λ i h. ap (λ (r : Reached). g (choice p ls breaking r)) (placed_shift from i ∙ ap (λ (r : Reached). placed p ls breaking r i) e)))

  route_none : {A : Type 0} (g : ℕ → A) (from : Reached) → route_of g from 0 ≡ []
  unfolding first
  route_none g from = refl

module _ (p : Property) (good : property_refusal (meant p) ≡ 0) (ls : Lines) (long : length ls.output ≡ count ls) (known : AllTaken (meant p) (line_in ls) (count ls))
    (rise : StampsFrom 0 (first (line_in ls) (count ls))) (breaking : Bool) where
  abbrev M : Matcher
  M = state_matcher (meant p)

  abbrev lines : Bool → ℕ → List Line
  lines wanted a = channel ls wanted (line_in ls) a (count ls)

  abbrev numbers : Bool → ℕ → List ℕ
  numbers wanted a = channel ls wanted suc a (count ls)

  abbrev Finds : List Line → List Line → State → List Line → Type 0
  Finds I O q o = Found (meant p) (good_bounds (meant p) good) M (λ (s : State). is_broken s ≡ breaking) I O q o

  abbrev Reaches : List Line → List Line → State → Type 0
  Reaches I O q = Reach (meant p) (good_bounds (meant p) good) M (λ (s : State). is_broken s ≡ breaking) I O q

  abbrev chosen : Reached → ℕ
  chosen from = choice p ls breaking from

  abbrev order : Reached → ℕ → List Line
  order from m = route_of p ls breaking (line_in ls) from m

  pub record Route (from : Reached) (q : State) (m : ℕ) : Type 0 where
    pub found : Finds (lines false from.input) (lines true from.output) q (order from m)
    pub numbers_are : numbered (numbers false from.input) (numbers true from.output) (order from m) ≡ route_of p ls breaking suc from m
    pub below : (j : ℕ) → j < m → choice p ls breaking (placed p ls breaking from j) < count ls

  below_next : (from next : Reached) (m : ℕ) → placed_next p ls from (chosen from) ≡ next → chosen from < count ls
      → ((j : ℕ) → j < m → choice p ls breaking (placed p ls breaking next j) < count ls)
      → (j : ℕ) → j < suc m → choice p ls breaking (placed p ls breaking from j) < count ls
  unfolding placed
  below_next from next m e h k zero l = h
  below_next from next m e h k (suc j) l =
      subst (λ (r : Reached). choice p ls breaking r < count ls) (sym (placed_shift p ls breaking from j ∙ ap (λ (r : Reached). placed p ls breaking r j) e)) (k j (omega arith))

  gets : (k : ℕ) (o : Bool) → is_output ls k ≡ o → gets_in (line_in ls k) ≡ not o
  gets k o e = kind_of (is_output ls k) (get_or ls.action k 0) ∙ ap not e

  -- the next line is an input
  module _ (from : Reached) (q : State) (m x : ℕ) (nx : IsNext (kind_in ls.output false) from.input (count ls) x) (h : x < count ls) (is_x : x ≡ chosen from) where
    is_in : is_output ls x ≡ false
    is_in = B.not-true (is_output ls x) (nx.found h)

    abbrev next_in : Reached
    next_in = with_line p from false (get_or ls.action x 0) x

    goes_in : placed_next p ls from (chosen from) ≡ next_in
    goes_in = ap (placed_next p ls from) (sym is_x) ∙ ap (λ (o : Bool). with_line p from o (get_or ls.action x 0) x) is_in

    pub next_in_is : {A : Type 0} (g : ℕ → A) → channel ls false g from.input (count ls) ≡ g x ∷ channel ls false g (suc x) (count ls)
    next_in_is g = on_next g (kind_in ls.output false) from.input (count ls) x nx.from nx.none h (nx.found h)

    route_in : (Finds (lines false (suc x)) (lines true from.output) (state_next (meant p) q (line_in ls x)) (order next_in m)
        → Finds (line_in ls x ∷ lines false (suc x)) (lines true from.output) q (line_in ls x ∷ order next_in m))
        → Route next_in (state_next (meant p) q (line_in ls x)) m → Route from q (suc m)
    route_in build r =
        record {
          found =
              subst (λ (I : List Line). Finds I (lines true from.output) q (order from (suc m))) (sym (next_in_is (line_in ls)))
              (subst (λ (o : List Line). Finds (line_in ls x ∷ lines false (suc x)) (lines true from.output) q o) (sym rolled) (build r.found));
          numbers_are =
              ap₂ (λ (i : List ℕ) (o : List Line). numbered i (numbers true from.output) o) (next_in_is suc) rolled
              ∙ numbered_in (suc x) (numbers false (suc x)) (numbers true from.output) (line_in ls x) (order next_in m) (gets x false is_in)
              ∙ ap (λ (l : List ℕ). suc x ∷ l) r.numbers_are
              ∙ sym (unroll p ls breaking suc from next_in m goes_in ∙ ap (λ (k : ℕ). suc k ∷ route_of p ls breaking suc next_in m) (sym is_x));
          below = below_next from next_in m goes_in (subst (λ (k : ℕ). k < count ls) is_x h) r.below;
        }
      where
        rolled : order from (suc m) ≡ line_in ls x ∷ order next_in m
        rolled = unroll p ls breaking (line_in ls) from next_in m goes_in ∙ ap (λ (k : ℕ). line_in ls k ∷ order next_in m) (sym is_x)

  -- the next line is an output
  module _ (from : Reached) (q : State) (m y : ℕ) (ny : IsNext (kind_in ls.output true) from.output (count ls) y) (h : y < count ls) (is_y : y ≡ chosen from) where
    is_out : is_output ls y ≡ true
    is_out = ny.found h

    abbrev next-out : Reached
    next-out = with_line p from true (get_or ls.action y 0) y

    goes_out : placed_next p ls from (chosen from) ≡ next-out
    goes_out = ap (placed_next p ls from) (sym is_y) ∙ ap (λ (o : Bool). with_line p from o (get_or ls.action y 0) y) is_out

    pub next_out_is : {A : Type 0} (g : ℕ → A) → channel ls true g from.output (count ls) ≡ g y ∷ channel ls true g (suc y) (count ls)
    next_out_is g = on_next g (kind_in ls.output true) from.output (count ls) y ny.from ny.none h (ny.found h)

    route_out : (Finds (lines false from.input) (lines true (suc y)) (state_next (meant p) q (line_in ls y)) (order next-out m)
        → Finds (lines false from.input) (line_in ls y ∷ lines true (suc y)) q (line_in ls y ∷ order next-out m))
        → Route next-out (state_next (meant p) q (line_in ls y)) m → Route from q (suc m)
    route_out build r =
        record {
          found =
              subst (λ (O : List Line). Finds (lines false from.input) O q (order from (suc m))) (sym (next_out_is (line_in ls)))
              (subst (λ (o : List Line). Finds (lines false from.input) (line_in ls y ∷ lines true (suc y)) q o) (sym rolled) (build r.found));
          numbers_are =
              ap₂ (λ (i : List ℕ) (o : List Line). numbered (numbers false from.input) i o) (next_out_is suc) rolled
              ∙ numbered-out (suc y) (numbers false from.input) (numbers true (suc y)) (line_in ls y) (order next-out m) (gets y true is_out)
              ∙ ap (λ (l : List ℕ). suc y ∷ l) r.numbers_are
              ∙ sym (unroll p ls breaking suc from next-out m goes_out ∙ ap (λ (k : ℕ). suc k ∷ route_of p ls breaking suc next-out m) (sym is_y));
          below = below_next from next-out m goes_out (subst (λ (k : ℕ). k < count ls) is_y h) r.below;
        }
      where
        rolled : order from (suc m) ≡ line_in ls y ∷ order next-out m
        rolled = unroll p ls breaking (line_in ls) from next-out m goes_out ∙ ap (λ (k : ℕ). line_in ls k ∷ order next-out m) (sym is_y)

  -- all lines that are left, from a state: by what is left and by the choice
  abbrev left-count : Reached → ℕ
  left-count from = length (lines false from.input) + length (lines true from.output)

  abbrev Goes : ℕ → Type 0
  Goes m =
      (from : Reached) (q : State) → Only p good from.cut q → from.input ≤ count ls → from.output ≤ count ls → left-count from ≡ m → Route from q m

  module _ (m : ℕ) (ih : Goes m) (from : Reached) (q : State) (one : Only p good from.cut q) (ia : from.input ≤ count ls) (ib : from.output ≤ count ls)
      (counted : left-count from ≡ suc m) where
    abbrev x : ℕ
    x = next_from (kind_in ls.output false) from.input (length ls.output - from.input)

    abbrev y : ℕ
    y = next_from (kind_in ls.output true) from.output (length ls.output - from.output)

    nx : IsNext (kind_in ls.output false) from.input (count ls) x
    nx = is_next (kind_in ls.output false) (length ls.output - from.input) from.input (count ls) (omega (arith, long, ia))

    ny : IsNext (kind_in ls.output true) from.output (count ls) y
    ny = is_next (kind_in ls.output true) (length ls.output - from.output) from.output (count ls) (omega (arith, long, ib))

    none_in : count ls ≤ x → lines false from.input ≡ []
    none_in h = on_none (line_in ls) (kind_in ls.output false) from.input (count ls) x nx.from nx.none h

    none_out : count ls ≤ y → lines true from.output ≡ []
    none_out h = on_none (line_in ls) (kind_in ls.output true) from.output (count ls) y ny.from ny.none h

    after_in : x < count ls → x ≡ chosen from
        → (Finds (lines false (suc x)) (lines true from.output) (state_next (meant p) q (line_in ls x)) (order (with_line p from false (get_or ls.action x 0) x) m)
        → Finds (line_in ls x ∷ lines false (suc x)) (lines true from.output) q (line_in ls x ∷ order (with_line p from false (get_or ls.action x 0) x) m))
        → Route from q (suc m)
    after_in h e build =
        route_in from q m x nx h e build
        (ih (with_line p from false (get_or ls.action x 0) x) (state_next (meant p) q (line_in ls x))
        (only_next p good from.cut q one (line_of false (get_or ls.action x 0) 0) (line_in ls x)
        (ap (λ (o : Bool). action_of o (get_or ls.action x 0)) (sym (is_in from q m x nx h e))))
        (omega arith) ib
        (let l : length (lines false from.input) ≡ suc (length (lines false (suc x))) = ap length (next_in_is from q m x nx h e (line_in ls)) in omega (arith, counted, l)))

    after-out : y < count ls → y ≡ chosen from
        → (Finds (lines false from.input) (lines true (suc y)) (state_next (meant p) q (line_in ls y)) (order (with_line p from true (get_or ls.action y 0) y) m)
        → Finds (lines false from.input) (line_in ls y ∷ lines true (suc y)) q (line_in ls y ∷ order (with_line p from true (get_or ls.action y 0) y) m))
        → Route from q (suc m)
    after-out h e build =
        route_out from q m y ny h e build
        (ih (with_line p from true (get_or ls.action y 0) y) (state_next (meant p) q (line_in ls y))
        (only_next p good from.cut q one (line_of true (get_or ls.action y 0) 0) (line_in ls y)
        (ap (λ (o : Bool). action_of o (get_or ls.action y 0)) (sym (is_out from q m y ny h e))))
        ia (omega arith)
        (let l : length (lines true from.output) ≡ suc (length (lines true (suc y))) = ap length (next_out_is from q m y ny h e (line_in ls)) in omega (arith, counted, l)))

    -- both channels have a line left
    module _ (hx : x < count ls) (hy : y < count ls) (lx : leb (count ls) x ≡ false) (ly : leb (count ls) y ≡ false) where
      ei : lines false from.input ≡ line_in ls x ∷ lines false (suc x)
      ei = on_next (line_in ls) (kind_in ls.output false) from.input (count ls) x nx.from nx.none hx (nx.found hx)

      eo : lines true from.output ≡ line_in ls y ∷ lines true (suc y)
      eo = on_next (line_in ls) (kind_in ls.output true) from.output (count ls) y ny.from ny.none hy (ny.found hy)

      only_y : Only p good (with_line p from true (get_or ls.action y 0) y).cut (state_next (meant p) q (line_in ls y))
      only_y =
          only_next p good from.cut q one (line_of true (get_or ls.action y 0) 0) (line_in ls y) (ap (λ (o : Bool). action_of o (get_or ls.action y 0)) (sym (ny.found hy)))

      question : (reaches breaking (judged p ls (with_line p from true (get_or ls.action y 0) y) (count ls)).told.verdict ≡ true)
          ↔ Can p good ls known rise breaking (with_line p from true (get_or ls.action y 0) y) (state_next (meant p) q (line_in ls y))
      question = asked p good ls known rise (with_line p from true (get_or ls.action y 0) y) (state_next (meant p) q (line_in ls y)) only_y breaking

      -- the input comes first, since the output may not or does not lead to the wanted end
      by_in : x ≡ chosen from → (OutputFirst (meant p) (line_in ls x).stamp (line_in ls y).stamp → Reaches (lines false from.input) (lines true (suc y)) (state_next (meant p) q (line_in ls y)) → ⊥)
          → Route from q (suc m)
      by_in e never =
          after_in hx e
          (λ f.
          subst (λ (O : List Line). Finds (line_in ls x ∷ lines false (suc x)) O q (line_in ls x ∷ order (with_line p from false (get_or ls.action x 0) x) m)) (sym eo)
          (input (λ may r. never may (subst (λ (I : List Line). Reaches I (lines true (suc y)) (state_next (meant p) q (line_in ls y))) (sym ei) r))
          (subst (λ (O : List Line). Finds (lines false (suc x)) O (state_next (meant p) q (line_in ls x)) (order (with_line p from false (get_or ls.action x 0) x) m)) eo f)))

      by_out : y ≡ chosen from → OutputFirst (meant p) (line_in ls x).stamp (line_in ls y).stamp → Reaches (lines false from.input) (lines true (suc y)) (state_next (meant p) q (line_in ls y))
          → Route from q (suc m)
      by_out e may r =
          after-out hy e
          (λ f.
          subst (λ (I : List Line). Finds I (line_in ls y ∷ lines true (suc y)) q (line_in ls y ∷ order (with_line p from true (get_or ls.action y 0) y) m)) (sym ei)
          (output may (subst (λ (I : List Line). Reaches I (lines true (suc y)) (state_next (meant p) q (line_in ls y))) ei r)
          (subst (λ (I : List Line). Finds I (lines true (suc y)) (state_next (meant p) q (line_in ls y)) (order (with_line p from true (get_or ls.action y 0) y) m)) ei f)))

      both : (t : Bool) → ltb (stamp_at ls x + 2 * p.ub) (stamp_at ls y) ≡ t
          → (s : Bool) → reaches breaking (judged p ls (with_line p from true (get_or ls.action y 0) y) (count ls)).told.verdict ≡ s → Route from q (suc m)
      both true et s es =
          by_in (too_far p ls breaking from x y refl refl long ly lx et)
          (λ may r. let z : stamp_at ls x + 2 * p.ub < stamp_at ls y = ltb-true _ _ et in omega arith)
      both false et true es = by_out (reached p ls breaking from x y refl refl long ly lx et es) (ltb-false _ _ et) (question.0 es)
      both false et false es = by_in (not_reached p ls breaking from x y refl refl long ly lx et es) (λ may r. true≢false (sym (question.1 r) ∙ es))

    one_more : (ly : Bool) → leb (count ls) y ≡ ly → (lx : Bool) → leb (count ls) x ≡ lx → Route from q (suc m)
    one_more true ey true ex =
        let i : length (lines false from.input) ≡ 0 = ap length (none_in (leb-true _ _ ex)) in
        let o : length (lines true from.output) ≡ 0 = ap length (none_out (leb-true _ _ ey)) in
        let z : ⊥ = omega (arith, counted, i, o) in absurd z
    one_more true ey false ex =
        after_in (leb-false _ _ ex) (no_output p ls breaking from x y refl refl long ey)
        (λ f.
        subst (λ (O : List Line). Finds (line_in ls x ∷ lines false (suc x)) O q (line_in ls x ∷ order (with_line p from false (get_or ls.action x 0) x) m)) (sym (none_out (leb-true _ _ ey)))
        (inputs
        (subst (λ (O : List Line). Finds (lines false (suc x)) O (state_next (meant p) q (line_in ls x)) (order (with_line p from false (get_or ls.action x 0) x) m)) (none_out (leb-true _ _ ey)) f)))
    one_more false ey true ex =
        after-out (leb-false _ _ ey) (no_input p ls breaking from x y refl refl long ey ex)
        (λ f.
        subst (λ (I : List Line). Finds I (line_in ls y ∷ lines true (suc y)) q (line_in ls y ∷ order (with_line p from true (get_or ls.action y 0) y) m)) (sym (none_in (leb-true _ _ ex)))
        (outputs
        (subst (λ (I : List Line). Finds I (lines true (suc y)) (state_next (meant p) q (line_in ls y)) (order (with_line p from true (get_or ls.action y 0) y) m)) (none_in (leb-true _ _ ex)) f)))
    one_more false ey false ex = both (leb-false _ _ ex) (leb-false _ _ ey) ex ey _ refl _ refl

  pub goes : (m : ℕ) → Goes m
  goes zero from q one ia ib counted =
      let i : lines false from.input ≡ [] = no_length (lines false from.input) (omega (arith, counted)) in
      let o : lines true from.output ≡ [] = no_length (lines true from.output) (omega (arith, counted)) in
      record {
        found =
            subst (λ (I : List Line). Finds I (lines true from.output) q (order from 0)) (sym i)
            (subst (λ (O : List Line). Finds [] O q (order from 0)) (sym o) (subst (Finds [] [] q) (sym (route_none p ls breaking (line_in ls) from)) over));
        numbers_are =
            ap (numbered (numbers false from.input) (numbers true from.output)) (route_none p ls breaking (line_in ls) from)
            ∙ numbered-none (numbers false from.input) (numbers true from.output)
            ∙ sym (route_none p ls breaking suc from);
        below = λ j h. let z : ⊥ = omega arith in absurd z;
      }
  goes (suc m) from q one ia ib counted = one_more m (goes m) from q one ia ib counted _ refl _ refl
