-- `matcher::step` meets its contract. The loop: what is left of the set, stepped, and what was gathered are together the step of the whole set.
use borrow.Author.Rules.{rules}
use Prim.Native.Nat.{ℕ, suc, ◌+◌, ◌^◌, ◌≤◌, ◌<◌}
use mathlib.Core.Path.{sym, ap, ◌∙◌}
use mathlib.Core.Bool.{Bool, ◌||◌}
use native.Mathlib.Omega.{arith}
use lib.Pow.{pow_pos}
use Rattle.laws.proofs.Bits.{bit-none, rest_less}
use lib.ListN.{get_or}
use Rattle.laws.specs.Bits.{bit}
use Rattle.matcher.specs.Sets.{stepped}
use Rattle.matcher.proofs.SetStep.{lowest_le, turn, turn_lt, stepped_done}
use Rattle.matcher.proofs.step.Goals as goal

pub loop-rest-init : goal.loop-rest-init
loop-rest-init c =
    let a = c.args in
    let f : ℕ → ℕ = λ k. get_or a.table.now (a.at + k) 0 in
    (search rules, pow_pos (suc a.n), λ j. ap (λ (b : Bool). b || stepped a.n f (bit a.mask) j) (sym (bit-none j)))

pub overflow_cast-k : goal.overflow_cast-k
overflow_cast-k c = record { fits = omega (arith, lowest_le c.args.n c.loop-rest.rest (omega arith) (omega arith) (omega arith)) }

pub overflow_add-r : goal.overflow_add-r
overflow_add-r c = record { fits = omega (arith, lowest_le c.args.n c.loop-rest.rest (omega arith) (omega arith) (omega arith)) }

pub bounds-table-at : goal.bounds-table-at
bounds-table-at c = omega (arith, lowest_le c.args.n c.loop-rest.rest (omega arith) (omega arith) (omega arith))

pub overflow_cast-r : goal.overflow_cast-r
overflow_cast-r c = record { fits = omega (arith, c.requires.by_index _ (lowest_le c.args.n c.loop-rest.rest (omega arith) (omega arith) (omega arith))) }

pub overflow_shl-r : goal.overflow_shl-r
overflow_shl-r c = omega (arith, c.requires.by_index _ (lowest_le c.args.n c.loop-rest.rest (omega arith) (omega arith) (omega arith)))

pub loop-rest-smaller : goal.loop-rest-smaller
loop-rest-smaller c = rest_less c.loop-rest.rest (omega arith)

pub loop-rest-preserved : goal.loop-rest-preserved
loop-rest-preserved c =
    let a = c.args in
    let w = c.loop-rest in
    let f : ℕ → ℕ = λ k. get_or a.table.now (a.at + k) 0 in
    let pos : 0 < w.rest = omega arith in
    let small : w.rest < 2 ^ suc a.n = omega arith in
    let few : a.n ≤ 32 = omega arith in
    let goes-low = c.requires.by_index _ (lowest_le a.n w.rest pos small few) in (
      omega (arith, rest_less w.rest pos),
      turn_lt a.n f w.rest w.r pos small few goes-low w.invariant.1,
      λ j. w.invariant.2 j ∙ turn a.n f w.rest w.r pos small few goes-low j,
    )

pub returns : goal.returns
returns c =
    let a = c.args in
    let f : ℕ → ℕ = λ k. get_or a.table.now (a.at + k) 0 in
    let w = c.loop-rest in (
      (λ j.
          sym (w.invariant.2 j ∙ ap (λ (x : ℕ). bit w.r j || stepped a.n f (bit x) j) c.loop-rest-test.false ∙ stepped_done a.n f (bit w.r j) j)),
      w.invariant.1,
    )
