-- `gap_mark::mark` meets its contract: refused, or the run is closed and the session blind.
use mathlib.Core.Path.{refl, sym}
use Rattle.std.proofs.lemmas.Result.{err_from_is_err_and}
use Rattle.meaning.specs.Calls
use Rattle.session_record.specs.Lent.{Memory, memory}
use Rattle.answers.proofs.Advances.{refused_leads, mark_leads}
use Rattle.gap_mark.proofs.mark.Goals as goal

pub returns-in_err-refused : goal.returns-in_err-refused
returns-in_err-refused c =
    let p = err_from_is_err_and c.from_residual.result c.from_residual.ensures.1 in
    let m : Memory = memory c.args.p c.args.rows.now c.args.status in
    rw (p.1, p.2) (refused_leads m c.requires (Calls.mark_at c.args.lost c.args.stamp) c.in_err-refused.field-0.0 (sym c.in_err-refused.ensures))

pub standing_on-closing-requires : goal.standing_on-closing-requires
standing_on-closing-requires c = c.requires

pub returns : goal.returns
returns c =
    let m : Memory = memory c.args.p c.args.rows.now c.args.status in
    mark_leads m c.requires c.args.lost c.args.stamp 0 c.in_ok-refused.ensures refl
    c.marked.result (c.marked.ensures (record { lost = c.args.lost; stamp = c.args.stamp }) refl) c.standing_on-closing.result c.standing_on-closing.ensures
    c.blinded.result c.blinded.ensures
