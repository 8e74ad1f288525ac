-- How a run is kept: none of its lines, one line more in its place, and one that has none.
use Prim.Native.Nat.{ℕ, ◌+◌, ◌≤◌, ◌<◌}
use mathlib.Core.Path.{◌≡◌, refl, ap, ◌∙◌}
use mathlib.Core.Bool.{Bool, false}
use mathlib.Core.List.{[], ◌∷◌, ◌++◌}
use native.Mathlib.Numerals.{add-one}
use native.Mathlib.Omega.{arith}
use lib.ListN.{length, set, take, length-append, length-set, replicate}
use lib.Seq.{length-take-le, get_or-set_same, get_or-set_other, get_or-take}
use Rattle.laws.specs.Places.{first}
use Rattle.laws.proofs.Places.{first_snoc, first-same}
use Rattle.meaning.specs.Words.{Line, Run}
use Rattle.cuts.specs.Steps.{line_of}
use Rattle.reasons.specs.Reasons.{most_lines}
use Rattle.open_run.specs.declared.Kept.{Kept}
use Rattle.open_run.specs.Kept.{line_at, Keeps}

-- The same places with another number of lines.
abbrev pub with-count : Kept → ℕ → Kept
with-count k n = record { outputs = k.outputs; actions = k.actions; stamps = k.stamps; count = n }

pub keeps-none : {run : Run} (k : Kept) → Keeps run k → Keeps [] (with-count k 0)
unfolding first
keeps-none k h =
    record {
      outputs_long = h.outputs_long;
      actions_long = h.actions_long;
      stamps_long = h.stamps_long;
      counted = refl;
      kept = λ few. refl;
    }

pub keeps_past : (run : Run) (k : Kept) (l : Line) → most_lines ≤ k.count → Keeps run k → Keeps (run ++ l ∷ []) (with-count k (k.count + 1))
keeps_past run k l past h =
    record {
      outputs_long = h.outputs_long;
      actions_long = h.actions_long;
      stamps_long = h.stamps_long;
      counted = omega (arith, length-append run (l ∷ []), h.counted);
      kept = λ few. let f : ⊥ = omega arith in absurd f;
    }

module _ (run : Run) (k : Kept) (output : Bool) (action stamp : ℕ) (room : k.count < most_lines) (h : Keeps run k) where
  abbrev put : Kept
  put =
      record {
        outputs = set k.outputs k.count output;
        actions = set k.actions k.count action;
        stamps = set k.stamps k.count stamp;
        count = k.count + 1;
      }

  here : line_at put k.count ≡ line_of output action stamp
  here =
      λ i.
      line_of (get_or-set_same k.outputs k.count output false (omega (arith, h.outputs_long)) i)
      (get_or-set_same k.actions k.count action 0 (omega (arith, h.actions_long)) i)
      (get_or-set_same k.stamps k.count stamp 0 (omega (arith, h.stamps_long)) i)

  before : (j : ℕ) → j < k.count → line_at put j ≡ line_at k j
  before j less =
      let other : j ≡ k.count → ⊥ = λ e. omega arith in
      λ i.
      line_of (get_or-set_other k.outputs k.count j output false other i) (get_or-set_other k.actions k.count j action 0 other i)
      (get_or-set_other k.stamps k.count j stamp 0 other i)

  pub keeps_more : Keeps (run ++ line_of output action stamp ∷ []) put
  keeps_more =
      record {
        outputs_long = length-set k.outputs k.count output ∙ h.outputs_long;
        actions_long = length-set k.actions k.count action ∙ h.actions_long;
        stamps_long = length-set k.stamps k.count stamp ∙ h.stamps_long;
        counted = omega (arith, length-append run (line_of output action stamp ∷ []), h.counted);
        kept =
            λ few.
            ap (first (line_at put)) (add-one k.count)
            ∙ first_snoc (line_at put) k.count
            ∙ (λ i.
            (first-same (line_at put) (line_at k) k.count before ∙ h.kept (omega arith)) i ++ here i ∷ []);
      }

-- What `why::explain` is given: the first so many of each array.
abbrev pub cut : Kept → Kept
cut k =
    record { outputs = take k.count k.outputs; actions = take k.count k.actions; stamps = take k.count k.stamps; count = k.count }

-- They are the run, line for line.
pub handed : {run : Run} (k : Kept) → Keeps run k → k.count ≤ most_lines → first (line_at (cut k)) (length (cut k).stamps) ≡ run
handed k h few =
    ap (first (line_at (cut k))) (length-take-le k.count k.stamps (omega (arith, few, h.stamps_long)))
    ∙ first-same (line_at (cut k)) (line_at k) k.count
    (λ j less.
    λ i.
    line_of (get_or-take k.count k.outputs j false less i) (get_or-take k.count k.actions j 0 less i)
    (get_or-take k.count k.stamps j 0 less i))
    ∙ h.kept few

-- Nothing is kept of a log that begins.
pub keeps-fresh : Keeps [] (record { outputs = replicate most_lines false; actions = replicate most_lines 0; stamps = replicate most_lines 0; count = 0 })
unfolding first
keeps-fresh = record { outputs_long = refl; actions_long = refl; stamps_long = refl; counted = refl; kept = λ few. refl }
