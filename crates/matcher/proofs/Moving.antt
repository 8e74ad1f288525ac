-- The words that the code puts together for an action are those of the set that the meaning moves to: for an input, an allowed
-- output, and an output outside the set.
use Prim.Native.Nat.{ℕ, suc, ◌+◌, ◌/◌, ◌%◌, ◌^◌, ◌≤◌, ◌<◌}
use mathlib.Core.Path.{◌≡◌, refl, sym, ap, ap₂, ◌∙◌, fun_ext}
use mathlib.Core.Bool.{Bool, true, false, cond, not, ◌||◌}
use mathlib.Core.List.{List}
use native.Mathlib.Omega.{arith}
use lib.ListN.{get_or}
use lib.Dec.{eqb, ltb}
use lib.Bits.{bit_or}
use borrow.Author.Tests.{eqb-true, eqb-false, lt-ltb, le-ltb}
use Rattle.property.proofs.Refusal.{taken_bounds}
use Rattle.meaning.specs.Words.{Line}
use Rattle.meaning.specs.Matcher.{some_to, is_input, outside, moved}
use Rattle.meaning.specs.Numbers.{property_refusal}
use Rattle.laws.specs.Bits.{bit}
use Rattle.laws.proofs.Bits.{bit-zero, bit-or, bit-none}
use Rattle.property.specs.Meant.{action_of, meant}
use Rattle.property.specs.declared.Property.{Property}
use Rattle.matcher.specs.declared.Cut.{Cut}
use Rattle.matcher.specs.Sets.{set_of, Fits, stepped, arranged, Arranged, Moved}
use Rattle.table.specs.Table.{row_of, IsTable}
use Rattle.table.proofs.TableRows.{row_le}
use Rattle.matcher.proofs.Moves.{entry-le, moved-input, moved-allowed, moved-outside}
use Rattle.matcher.proofs.Words.{fits_parts, parts_fit, armed-lt, armed_is, some_in_mask, put_bit, broken_told}

-- A mask that is not 0, tested as the code tests it.
pub some_test : (m : ℕ) → ltb 0 m ≡ not (eqb m 0)
some_test m = go (eqb m 0) (eqb-true m 0) (eqb-false m 0)
  where
    go : (b : Bool) → (b ≡ true → m ≡ 0) → (b ≡ false → m ≡ 0 → ⊥) → ltb 0 m ≡ not b
    go true y z = let e : m ≡ 0 = y refl in le-ltb 0 m (omega arith)
    go false y z = let e : m ≡ 0 → ⊥ = z refl in lt-ltb 0 m (omega arith)

-- What the step of a mask by a row of the table asks.
abbrev pub StepAsks : Property → List ℕ → ℕ → ℕ → Type 0
StepAsks p table at m = ((p.n ≤ 32) × (at ≤ 4224) × (m < 2 ^ suc p.n)) × ((k : ℕ) → k ≤ p.n → get_or table (at + k) 0 ≤ p.n)

module _ (p : Property) (formed : property_refusal (meant p) ≡ 0) (table : List ℕ) (is : IsTable p table) (output : Bool) (action at : ℕ)
    (row : at ≡ row_of output action) where
  pub step_asks : (m : ℕ) → m < 2 ^ suc p.n → StepAsks p table at m
  step_asks m h =
      (((taken_bounds p formed).most, omega (arith, row, row_le output action), h), entry-le p table is output action at row)

module _ (p : Property) (formed : property_refusal (meant p) ≡ 0) (table : List ℕ) (is : IsTable p table) (output : Bool) (action at : ℕ)
    (row : at ≡ row_of output action) (cut : Cut) (fits : Fits p cut) where
  -- the lengths of a mask, moved by the table
  abbrev pub Steps : ℕ → ℕ → Type 0
  Steps before after = (j : ℕ) → bit after j ≡ stepped p.n (λ k. get_or table (at + k) 0) (bit before) j

  steps_is : (before after : ℕ) → Steps before after → bit after ≡ stepped p.n (λ k. get_or table (at + k) 0) (bit before)
  steps_is before after e = fun_ext e

  abbrev l : ℕ → Line
  l t = record { action = action_of output action; stamp = t }

  same-arranged : {f g : ℕ → Bool} {h k : ℕ → Bool} {b c : Bool} → f ≡ g → h ≡ k → b ≡ c → arranged p.n f h b ≡ arranged p.n g k c
  same-arranged {f} {g} {h} {k} {b} {c} x y z =
      ap (λ (u : ℕ → Bool). arranged p.n u h b) x ∙ ap₂ (λ (u : ℕ → Bool) (v : Bool). arranged p.n g u v) y z

  -- what remains to be shown is that the sets are the meaning's
  finish : {free still broken : ℕ} {r : Cut} → Arranged p.n free still broken r
      → ((t : ℕ) → arranged p.n (bit free) (bit still) (bit broken 0) ≡ moved (meant p) (set_of cut) (l t)) → Moved p cut (action_of output action) r
  finish {free} {still} {broken} {r} a e =
      record { set = λ t. a.set ∙ e t; fits = parts_fit p r a.low_mask a.low_armed }

  none : bit 0 ≡ (λ (k : ℕ). false)
  none = fun_ext bit-none

  input_of : output ≡ false → (is_input (action_of output action) ≡ true) × (outside (meant p) (action_of output action) ≡ false)
  input_of e = (ap (λ (o : Bool). is_input (action_of o action)) e, ap (λ (o : Bool). outside (meant p) (action_of o action)) e)

  pub input_moves : output ≡ false → {free still : ℕ} {r : Cut} → Steps cut.mask free → Steps (cut.armed / 2) still
      → Arranged p.n free still (cond (eqb (cut.armed % 2) 1) 1 0) r → Moved p cut (action_of output action) r
  unfolding set_of
  input_moves e {free} {still} {r} x y a =
      finish a
      (λ t.
      same-arranged (steps_is cut.mask free x)
      (steps_is (cut.armed / 2) still y ∙ ap (stepped p.n (λ k. get_or table (at + k) 0)) (sym (armed_is cut.armed)))
      (broken_told cut.armed)
      ∙ moved-input p table is output action at row (set_of cut) t (input_of e).0 (input_of e).1)

  pub allowed_moves : output ≡ true → outside (meant p) (action_of output action) ≡ false → {all free : ℕ} {r : Cut} → all ≡ bit_or cut.mask (cut.armed / 2)
      → Steps all free → Arranged p.n free 0 (cond (eqb (cut.armed % 2) 1) 1 0) r → Moved p cut (action_of output action) r
  unfolding set_of
  allowed_moves e o {all} {free} {r} q x a =
      finish a
      (λ t.
      same-arranged (steps_is all free x ∙ ap (stepped p.n (λ k. get_or table (at + k) 0)) joined) none (broken_told cut.armed)
      ∙ moved-allowed p table is output action at row (set_of cut) t (ap (λ (d : Bool). is_input (action_of d action)) e) o)
    where
      joined : bit all ≡ (λ (k : ℕ). bit cut.mask k || bit cut.armed (suc k))
      joined =
          fun_ext
          (λ k.
          ap (λ (m : ℕ). bit m k) q ∙ bit-or cut.mask (cut.armed / 2) k
          ∙ ap (λ (f : ℕ → Bool). bit cut.mask k || f k) (sym (armed_is cut.armed)))

  pub outside_moves : outside (meant p) (action_of output action) ≡ true → {free : ℕ} {r : Cut}
      → Steps cut.mask free → Arranged p.n free 0 (cond (eqb (cut.armed % 2) 1 || ltb 0 (cut.armed / 2)) 1 0) r → Moved p cut (action_of output action) r
  unfolding set_of
  outside_moves o {free} {r} x a =
      finish a
      (λ t.
      same-arranged (steps_is cut.mask free x) none
      (put_bit (eqb (cut.armed % 2) 1 || ltb 0 (cut.armed / 2))
      ∙ ap₂ (λ (u v : Bool). u || v) (sym (bit-zero cut.armed))
      (some_test (cut.armed / 2)
      ∙ sym (some_in_mask p.n (cut.armed / 2) (armed-lt p.n cut.armed (fits_parts p cut fits).1))
      ∙ ap (some_to p.n) (sym (armed_is cut.armed))))
      ∙ moved-outside p table is output action at row (set_of cut) t o)
