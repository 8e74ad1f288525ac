-- `names::lookup` meets its contract. The loop's invariant: the name stands in what is left, if anywhere.
use Prim.Native.Nat.{ℕ, ◌+◌, ◌-◌, ◌<◌}
use mathlib.Core.Path.{◌≡◌, refl, sym, ◌∙◌, ap, subst}
use mathlib.Core.List.{List}
use native.Mathlib.Omega.{arith}
use lib.ListN.{length, take, drop, length-drop}
use lib.Seq.{drop-drop, drop-length}
use Rattle.laws.proofs.Bytes.{Bytes-drop}
use Rattle.name_list.specs.Names.{first, entry_size}
use Rattle.name_list.specs.Front.{IsFront}
use Rattle.name_list.proofs.Lists.{part-all}
use Rattle.names.proofs.Spans.{Left, left-all, left_end, left_here, left_on, part_at, left_of, front_at}
use Rattle.names.proofs.lookup.Goals as goal
use Rattle.names.proofs.lookup.Goals.{In-Some}

-- the entry that was split off, in the whole list
front : (c : In-Some) → IsFront (left_of c.args.list c.loop-entry.at) c.in-Some.entry
front c = front_at _ _ _ _ refl (omega arith) (part-all c.args.list.now c.loop-entry.at) c.in-Some.ensures

small : (c : In-Some) → first (drop c.loop-entry.at c.args.list.now) < 256
small c = Bytes-drop c.loop-entry.at c.args.list.now (λ i. omega (arith, c.type_inv.list i)) 0

pub loop-entry-init : goal.loop-entry-init
loop-entry-init c = (omega arith, left-all _ _ c.requires)

pub returns-then-entry-first : goal.returns-then-entry-first
returns-then-entry-first c =
    let k = (goal.at.returns-then-entry-first c).In-Some in
    let f = front k in
    let l = c.loop-entry in
    let list = c.args.list.now in
    part_at _ _ _ (l.at + 2) _
    (left_here list c.args.first l.at l.invariant.1 (omega (arith, f.whole)) (small k) (sym f.first_byte ∙ c.if-entry-first.true))
    (ap (λ (p : ℕ × ℕ). p.0) f.name_place) (omega (arith, ap (λ (p : ℕ × ℕ). p.1) f.name_place))
    (f.name_bytes ∙ ap (take _) (drop-drop 2 l.at list))

pub loop-entry-preserved : goal.loop-entry-preserved
loop-entry-preserved c =
    let k = (goal.at.loop-entry-preserved c).In-Some in
    let f = front k in
    let l = c.loop-entry in
    let list = c.args.list.now in
    let on : l.at + entry_size (drop l.at list) ≡ length list - length c.in-Some.entry.rest.now =
    omega (arith, f.whole, ap length f.rest_bytes, length-drop (entry_size (drop l.at list)) (drop l.at list), length-drop l.at list) in (
      omega arith,
      subst (Left list c.args.first) on
          (left_on list c.args.first l.at l.invariant.1 (omega (arith, f.whole)) (small k) (λ e. c.if-entry-first.false (f.first_byte ∙ e))),
    )

pub returns : goal.returns
returns c =
    let l = c.loop-entry in
    let list = c.args.list.now in
    part_at _ _ _ (length list) 0
    (left_end list c.args.first l.at l.invariant.1 l.invariant.0
    (subst (λ (s : List ℕ). length s < entry_size s) (part-all list l.at) c.in_default.ensures))
    refl (omega arith) (part-all list (length list) ∙ drop-length list)
