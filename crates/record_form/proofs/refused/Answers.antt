-- `record_form::refused` meets its contract: each test adds what it rules out.
use Rattle.std.proofs.Common.{sym, ◌∙◌}
use borrow.Author.Tests.{lt-ltb, le-ltb}
use mathlib.Core.Logic.{⊎_elim}
use Rattle.meaning.specs.Limits.{last_action}
use Rattle.record_form.specs.Record.{write_refusal}
use Rattle.record_form.proofs.Rules.{stamp_past, before_past, none_past}
use Rattle.record_form.proofs.refused.Goals as goal

pub returns-then-is_broken : goal.returns-then-is_broken
unfolding write_refusal
returns-then-is_broken c = simp (rw c.from.ensures at (sym c.is_broken.ensures ∙ c.if-is_broken.true))

pub returns-then-action-gt-LAST_ACTION : goal.returns-then-action-gt-LAST_ACTION
unfolding write_refusal
returns-then-action-gt-LAST_ACTION c =
    simp (rw c.from.ensures at (sym c.is_broken.ensures ∙ c.if-is_broken.false), lt-ltb _ _ c.if-action-gt-LAST_ACTION.true)

pub returns-then-stamp-gt-LAST_STAMP : goal.returns-then-stamp-gt-LAST_STAMP
unfolding write_refusal
returns-then-stamp-gt-LAST_STAMP c =
    simp (
      rw c.from.ensures at (sym c.is_broken.ensures ∙ c.if-is_broken.false),
      le-ltb last_action _ c.if-action-gt-LAST_ACTION.false,
      ⊎_elim (stamp_past c.args.stamp c.args.before) (λ p. before_past c.args.stamp c.args.before p.1) c.then-stamp-gt-LAST_STAMP.either,
    )

pub returns-then-stamp-before : goal.returns-then-stamp-before
unfolding write_refusal
returns-then-stamp-before c =
    simp (
      rw c.from.ensures at (sym c.is_broken.ensures ∙ c.if-is_broken.false),
      le-ltb last_action _ c.if-action-gt-LAST_ACTION.false,
      none_past _ _ c.if-stamp-gt-LAST_STAMP.false c.if-before-gt-LAST_STAMP.false,
      lt-ltb _ _ c.if-stamp-before.true,
    )

pub returns-then-size-lt-RECORD_SIZE : goal.returns-then-size-lt-RECORD_SIZE
unfolding write_refusal
returns-then-size-lt-RECORD_SIZE c =
    simp (
      rw c.from.ensures at (sym c.is_broken.ensures ∙ c.if-is_broken.false),
      le-ltb last_action _ c.if-action-gt-LAST_ACTION.false,
      none_past _ _ c.if-stamp-gt-LAST_STAMP.false c.if-before-gt-LAST_STAMP.false,
      le-ltb _ _ c.if-stamp-before.false,
      lt-ltb _ _ c.if-size-lt-RECORD_SIZE.true,
    )

pub returns : goal.returns
unfolding write_refusal
returns c =
    simp (
      rw c.from.ensures at (sym c.is_broken.ensures ∙ c.if-is_broken.false),
      le-ltb last_action _ c.if-action-gt-LAST_ACTION.false,
      none_past _ _ c.if-stamp-gt-LAST_STAMP.false c.if-before-gt-LAST_STAMP.false,
      le-ltb _ _ c.if-stamp-before.false,
      le-ltb _ _ c.if-size-lt-RECORD_SIZE.false,
    )
