-- `cuts::sweep` meets its contract. The loop: the cuts up to i have their new sets, `cut` is that of i, and `held` and `input` are open input i.
use Prim.Native.Nat.{ℕ, ◌+◌, ◌*◌, ◌≤◌, ◌<◌}
use mathlib.Core.Path.{◌≡◌, refl, sym, ap, subst, ◌∙◌}
use mathlib.Core.List.{List}
use mathlib.Core.Bool.{true}
use native.Mathlib.Omega.{arith}
use lib.ListN.{length}
use Rattle.rows.specs.declared.Span.{Span}
use Rattle.rows.specs.Rows.{word, Room}
use Rattle.meaning.specs.Limits.{last_stamp}
use Rattle.meaning.specs.Matcher.{moved}
use Rattle.property.specs.Meant.{meant}
use Rattle.matcher.specs.declared.Cut.{Cut}
use Rattle.matcher.specs.Sets.{set_of, Fits}
use Rattle.cuts.specs.Steps.{line_of}
use Rattle.cuts.specs.Fronts.{cut_at, with_cut}
use Rattle.cuts.proofs.Sweeps.{cut_tall, cut_room, cut_others, cut_here, cut_there, Sweeping, new_set_none, sweeping_first, sweeping_more, new_set_next, rows-swept}
use Rattle.cuts.proofs.sweep.Goals as goal

-- Rows with one cut stored have room, and with the first stored, what stands there of an open input and of a later cut is as it was.
module _ (rows now : List (List ℕ)) (s : Span) (j : ℕ) (c : Cut) (room : Room rows s) (there : 3 + 2 * j < length rows) where
  stored_room : (i : ℕ) → i ≤ 64 → now ≡ with_cut rows s j i c → Room now s
  stored_room i few is = subst (λ (r : List (List ℕ)). Room r s) (sym is) (cut_room rows s j i c room there few)

  module _ (is : now ≡ with_cut rows s j 0 c) where
    first : cut_at now s j 0 ≡ c
    first = ap (λ (r : List (List ℕ)). cut_at r s j 0) is ∙ cut_here rows s j 0 c room there (omega arith)

    first_there : 3 + 2 * j < length now
    first_there = subst (λ (n : ℕ). 3 + 2 * j < n) (sym (ap length is ∙ cut_tall rows s j 0 c room there (omega arith))) there

    first_word : (i : ℕ) → word now s 0 i ≡ word rows s 0 i
    first_word i =
        ap (λ (r : List (List ℕ)). word r s 0 i) is
        ∙ cut_others rows s j 0 c room there (omega arith) 0 i (λ (e : 0 ≡ 2 + 2 * j). omega arith) (λ (e : 0 ≡ 3 + 2 * j). omega arith)

    first_cut : (i : ℕ) → i + 1 ≤ 64 → cut_at now s j (i + 1) ≡ cut_at rows s j (i + 1)
    first_cut i h =
        ap (λ (r : List (List ℕ)). cut_at r s j (i + 1)) is
        ∙ cut_there rows s j 0 c room there (omega arith) (i + 1) h (λ (e : i + 1 ≡ 0). omega arith)

    loop-there : (rows' : List (List ℕ)) → length rows' ≡ length now → 3 + 2 * j < length rows'
    loop-there rows' tall = subst (λ (n : ℕ). 3 + 2 * j < n) (sym tall) first_there

pub cut_at-requires : goal.cut_at-requires
cut_at-requires c = (c.requires.room, c.requires.there, omega arith)

pub moved-cut-requires : goal.moved-cut-requires
moved-cut-requires c = (subst (Fits c.args.steps.now.property) (sym c.cut_at.ensures) (c.requires.fits 0 (omega arith)))

pub put_cut-requires : goal.put_cut-requires
put_cut-requires c = (c.requires.room, c.requires.there, omega arith)

pub word-held-requires : goal.word-held-requires
word-held-requires c =
    let a = c.args in
    let u = c.requires in
    let r = stored_room a.rows.now c.put_cut.new.rows a.span a.j c.moved-cut.result u.room u.there 0 (omega arith) c.put_cut.ensures in
    (r, omega (arith, r.shared), omega arith)

pub word-input-requires : goal.word-input-requires
word-input-requires c =
    let a = c.args in
    let u = c.requires in
    let r = stored_room a.rows.now c.put_cut.new.rows a.span a.j c.moved-cut.result u.room u.there 0 (omega arith) c.put_cut.ensures in
    (r, r.shared, omega arith)

pub loop-i-init : goal.loop-i-init
loop-i-init c =
    let a = c.args in
    let u = c.requires in
    let cut = c.moved-cut in
    let mid = c.put_cut.new.rows in (
      sweeping_first a.steps.now.property mid a.span a.j a.action a.stamp (set_of cut.result) cut.result
          (stored_room a.rows.now mid a.span a.j cut.result u.room u.there 0 (omega arith) c.put_cut.ensures)
          (first a.rows.now mid a.span a.j cut.result u.room u.there c.put_cut.ensures) refl cut.ensures.fits,
      new_set_none a.steps.now.property mid a.span a.j a.action a.stamp (set_of cut.result),
      cut.ensures.fits,
      c.word-held.ensures,
      c.word-input.ensures,
    )

pub cut_at-after-requires : goal.cut_at-after-requires
cut_at-after-requires c =
    let a = c.args in
    let u = c.requires in
    let w = c.loop-i in (
      w.invariant.0.room,
      loop-there a.rows.now c.put_cut.new.rows a.span a.j c.moved-cut.result u.room u.there c.put_cut.ensures w.rows w.invariant.0.tall,
      omega (arith, u.room.within.few),
    )

pub swept_cut-cut-requires : goal.swept_cut-cut-requires
swept_cut-cut-requires c =
    let a = c.args in
    let u = c.requires in
    let w = c.loop-i in
    let mid = c.put_cut.new.rows in
    let cut = c.moved-cut.result in
    let inside : w.i + 1 ≤ 64 = omega (arith, u.room.within.few, c.loop-i-test.true) in (
      subst (λ (x : ℕ). x ≤ last_stamp)
          (sym (w.invariant.3 ∙ first_word a.rows.now mid a.span a.j cut u.room u.there c.put_cut.ensures w.i))
          (u.stamps w.i c.loop-i-test.true),
      w.invariant.2,
      subst (Fits a.steps.now.property)
          (sym
          (c.cut_at-after.ensures
          ∙ w.invariant.0.kept (w.i + 1) (omega arith) inside
          ∙ first_cut a.rows.now mid a.span a.j cut u.room u.there c.put_cut.ensures w.i inside))
          (u.fits (w.i + 1) (omega (arith, c.loop-i-test.true))),
    )

pub put_cut-requires-in-loop-i : goal.put_cut-requires-in-loop-i
put_cut-requires-in-loop-i c =
    let a = c.args in
    let u = c.requires in
    let w = c.loop-i in (
      w.invariant.0.room,
      loop-there a.rows.now c.put_cut.new.rows a.span a.j c.moved-cut.result u.room u.there c.put_cut.ensures w.rows w.invariant.0.tall,
      omega (arith, u.room.within.few, c.loop-i-test.true),
    )

pub word-held-requires-in-loop-i : goal.word-held-requires-in-loop-i
word-held-requires-in-loop-i c =
    let a = c.args in
    let u = c.requires in
    let w = c.loop-i in
    let there = loop-there a.rows.now c.put_cut.new.rows a.span a.j c.moved-cut.result u.room u.there c.put_cut.ensures w.rows w.invariant.0.tall in
    let few : w.i + 1 ≤ 64 = omega (arith, u.room.within.few, c.loop-i-test.true) in
    let r = stored_room w.rows c.put_cut-in-loop-i.new.rows a.span a.j c.swept_cut-cut.result w.invariant.0.room there (w.i + 1) few
    c.put_cut-in-loop-i.ensures in
    (r, omega (arith, r.shared), few)

pub word-input-requires-in-loop-i : goal.word-input-requires-in-loop-i
word-input-requires-in-loop-i c =
    let a = c.args in
    let u = c.requires in
    let w = c.loop-i in
    let there = loop-there a.rows.now c.put_cut.new.rows a.span a.j c.moved-cut.result u.room u.there c.put_cut.ensures w.rows w.invariant.0.tall in
    let few : w.i + 1 ≤ 64 = omega (arith, u.room.within.few, c.loop-i-test.true) in
    let r = stored_room w.rows c.put_cut-in-loop-i.new.rows a.span a.j c.swept_cut-cut.result w.invariant.0.room there (w.i + 1) few
    c.put_cut-in-loop-i.ensures in
    (r, r.shared, few)

pub loop-i-preserved : goal.loop-i-preserved
loop-i-preserved c =
    let a = c.args in
    let u = c.requires in
    let w = c.loop-i in
    let mid = c.put_cut.new.rows in
    let head = set_of c.moved-cut.result in
    let next = w.i + 1 in
    let few : w.i + 1 ≤ 64 = omega (arith, u.room.within.few, c.loop-i-test.true) in
    let next-set = new_set_next a.steps.now.property mid a.span a.j a.action a.stamp head w.i w.rows w.cut c.cut_at-after.result c.swept_cut-cut.result w.held w.input
    w.invariant.0 (omega (arith, few)) w.invariant.1 c.cut_at-after.ensures w.invariant.3 w.invariant.4 c.swept_cut-cut.ensures in
    let done = sweeping_more a.steps.now.property mid a.span a.j a.action a.stamp head next w.rows c.put_cut-in-loop-i.new.rows c.swept_cut-cut.result
    (first_there a.rows.now mid a.span a.j c.moved-cut.result u.room u.there c.put_cut.ensures)
    few w.invariant.0 next-set c.swept_cut-cut.ensures.fits c.put_cut-in-loop-i.ensures in (
      done,
      next-set,
      c.swept_cut-cut.ensures.fits,
      c.word-held-in-loop-i.ensures ∙ done.others 0 next (λ (e : 0 ≡ 2 + 2 * a.j). omega arith) (λ (e : 0 ≡ 3 + 2 * a.j). omega arith),
      c.word-input-in-loop-i.ensures ∙ done.others 1 next (λ (e : 1 ≡ 2 + 2 * a.j). omega arith) (λ (e : 1 ≡ 3 + 2 * a.j). omega arith),
    )

pub returns : goal.returns
returns c =
    let a = c.args in
    let w = c.loop-i in
    let cut = c.moved-cut in
    let end : w.i ≡ a.span.count = omega arith in
    rows-swept a.steps.now.property a.rows.now c.put_cut.new.rows w.rows a.span a.j a.action a.stamp cut.result c.requires
    (cut.ensures.set a.stamp ∙ ap (λ (x : Cut). moved (meant a.steps.now.property) (set_of x) (line_of true a.action a.stamp)) c.cut_at.ensures)
    c.put_cut.ensures
    (subst (λ (i : ℕ). Sweeping a.steps.now.property c.put_cut.new.rows a.span a.j a.action a.stamp (set_of cut.result) (i + 1) w.rows) end w.invariant.0)
