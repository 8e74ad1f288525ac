-- `cuts::take_line` meets its contract: closing, and then the sweep or the new input.
use Prim.Native.Nat.{ℕ, ◌-◌, ◌<◌}
use mathlib.Core.Path.{◌≡◌, sym, ap, subst, ◌∙◌}
use mathlib.Core.Bool.{true, false}
use mathlib.Core.List.{List}
use Rattle.property.specs.declared.Property.{Property}
use Rattle.rows.specs.declared.Span.{Span}
use Rattle.rows.specs.Rows.{longer, shorter}
use Rattle.rows.proofs.Rows.{count-shorter}
use Rattle.held.specs.Held.{Closes, with_input}
use Rattle.cuts.specs.Steps.{front_closed, front_after, line_of}
use Rattle.cuts.specs.Fronts.{front_of, Usable, Holds}
use Rattle.cuts.proofs.Lines.{front-left, usable-left, holds-appended, line_after, holds_as}
use Rattle.cuts.proofs.take_line.Goals as goal

-- What closing has left: rows for the line, the front closed, and fewer open inputs.
module _ (p : Property) (rows : List (List ℕ)) (span s : Span) (stamp d : ℕ) (usable : Usable p rows span 0) (closes : Closes p.ub rows span stamp d)
    (is : s ≡ shorter span d) where
  left : Usable p rows s 0
  left = subst (λ (r : Span). Usable p rows r 0) (sym is) (usable-left p rows span 0 stamp d usable closes)

  left-front : front_of rows s 0 ≡ (let f = front_of rows span 0 in front_closed p stamp f.before f.held)
  left-front = ap (λ (r : Span). front_of rows r 0) is ∙ front-left p rows span 0 stamp d usable closes

room : (span s : Span) (d : ℕ) → s ≡ shorter span d → span.count - d < 64 → s.count < 64
room span s d is few = subst (λ (n : ℕ). n < 64) (sym (ap (λ (r : Span). r.count) is ∙ count-shorter span d)) few

pub sweep-requires : goal.sweep-requires
sweep-requires c =
    let a = c.args in
    let pre = c.requires in
    left a.steps.now.property a.rows.now a.span c.shorter-left.result a.stamp a.closed pre.usable pre.closes.0 c.shorter-left.ensures

pub returns-then-output : goal.returns-then-output
returns-then-output c =
    let a = c.args in
    let pre = c.requires in
    let f = front_of a.rows.now a.span 0 in
    holds_as a.steps.now.property _ (front_after a.steps.now.property f (line_of a.output a.action a.stamp)) c.sweep.new.rows c.shorter-left.result 0
    (line_after a.steps.now.property f _ a.action a.stamp a.output true
    (left-front a.steps.now.property a.rows.now a.span c.shorter-left.result a.stamp a.closed pre.usable pre.closes.0 c.shorter-left.ensures) c.if-output.true)
    c.sweep.ensures.holds

pub append-requires : goal.append-requires
append-requires c =
    let a = c.args in
    let pre = c.requires in (
      left a.steps.now.property a.rows.now a.span c.shorter-left.result a.stamp a.closed pre.usable pre.closes.0 c.shorter-left.ensures,
      room a.span c.shorter-left.result a.closed c.shorter-left.ensures (pre.closes.2 c.if-output.false),
    )

pub append-requires-2 : goal.append-requires-2
append-requires-2 c = c.append.ensures.room

pub longer-requires : goal.longer-requires
longer-requires c = room c.args.span c.shorter-left.result c.args.closed c.shorter-left.ensures (c.requires.closes.2 c.if-output.false)

pub returns : goal.returns
returns c =
    let a = c.args in
    let pre = c.requires in
    let f = front_of a.rows.now a.span 0 in
    let wanted = front_after a.steps.now.property f (line_of a.output a.action a.stamp) in
    let s = c.shorter-left.result in
    let is = c.shorter-left.ensures in
    let mid = c.append.new.rows in
    subst (λ (r : Span). Holds a.steps.now.property wanted c.append-2.new.rows r 0) (sym c.longer.ensures)
    (subst (λ (rows : List (List ℕ)). Holds a.steps.now.property wanted rows (longer s) 0) (sym c.append-2.ensures)
    (holds_as a.steps.now.property _ wanted (with_input mid s a.action a.stamp) (longer s) 0
    (line_after a.steps.now.property f _ a.action a.stamp a.output false
    (left-front a.steps.now.property a.rows.now a.span s a.stamp a.closed pre.usable pre.closes.0 is) c.if-output.false)
    (holds-appended a.steps.now.property a.rows.now mid s 0 a.action a.stamp
    (left a.steps.now.property a.rows.now a.span s a.stamp a.closed pre.usable pre.closes.0 is)
    (room a.span s a.closed is (pre.closes.2 c.if-output.false)) pre.closes.1 c.append.ensures)))
