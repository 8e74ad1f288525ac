-- The actions of a property record, and the sequence that they mean: the next matched length is the same from both.
use Prim.Native.Nat.{ℕ, ◌≤◌, ◌<◌}
use mathlib.Core.Path.{◌≡◌, sym, ap, subst, ◌∙◌}
use mathlib.Core.Bool.{false}
use mathlib.Core.List.{List}
use native.Mathlib.Omega.{arith}
use lib.ListN.{length, get_or, take}
use Rattle.std.proofs.lemmas.List.{get_or-take, length-take-le}
use Rattle.meaning.specs.Words.{Action}
use Rattle.meaning.specs.Matcher.{place, fall_back}
use Rattle.property.specs.Meant.{action_of, meant}
use Rattle.property.specs.declared.Property.{Property}
use Rattle.table.specs.declared.Action as declared
use Rattle.table.specs.Table.{no_action, at_place, action_of_place, Numbered, Made, IsTable}
use Rattle.table.proofs.Recursion.{fall_back_agree}
use Rattle.laws.proofs.Places.{length-first, getD_first}

-- A list holds the actions of a property's sequence.
pub record Holds (p : Property) (s : List declared.Action) : Type 0 where
  pub long : length s ≡ p.n
  pub each : (i : ℕ) → i < p.n → get_or s i no_action ≡ action_of_place p i

module _ (p : Property) (s : List declared.Action) (h : Holds p s) where
  same_place : (i : ℕ) → i < length s → at_place s i ≡ place (meant p).sequence i
  same_place i l =
      ap (λ (a : declared.Action). action_of a.output a.number) (h.each i (let e = h.long in omega arith))
      ∙ sym (getD_first (λ j. action_of (get_or p.output j false) (get_or p.number j 0)) p.n i (Action.input 0) (let e = h.long in omega arith))

  pub is_table : (t : List ℕ) → Made (at_place s) (length s) t → IsTable p t
  is_table t m =
      record {
        looked_up = λ output action k l.
            m.right output action k (let e = h.long in omega arith)
            ∙ fall_back_agree (at_place s) (place (meant p).sequence) (length s) same_place k k (action_of output action) (omega arith) (let e = h.long in omega arith)
            ∙ ap (λ (n : ℕ). fall_back (place (meant p).sequence) n k (action_of output action) k)
            (h.long ∙ sym (length-first (λ j. action_of (get_or p.output j false) (get_or p.number j 0)) p.n));
      }

-- The first places of an array that holds a property's actions place by place.
pub held : (p : Property) (all : List declared.Action) → length all ≡ 32 → ((i : ℕ) → i < 32 → get_or all i no_action ≡ action_of_place p i) → p.n ≤ 32
    → Holds p (take p.n all)
held p all long each few =
    record {
      long = length-take-le p.n all (omega arith);
      each = λ i h. get_or-take p.n all i no_action h ∙ each i (omega arith);
    }

pub numbered : (p : Property) (s : List declared.Action) → Holds p s → ((i : ℕ) → i < p.n → get_or p.number i 0 ≤ 63) → Numbered s
numbered p s h few i l =
    let j : i < p.n = (let e = h.long in omega arith) in
    subst (λ (a : declared.Action). a.number ≤ 63) (sym (h.each i j)) (few i j)
