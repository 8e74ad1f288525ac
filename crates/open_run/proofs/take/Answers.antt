-- `open_run::take` meets its contract: what the record did on the session, and its line kept.
use mathlib.Core.Path.{sym, subst}
use Rattle.std.specs.Prelude.{◌≡◌, Ok}
use Rattle.std.proofs.lemmas.Result.{err_from_is_err_and}
use Rattle.outcomes.specs.Numbers.{refusal_number}
use Rattle.trace_form.specs.ReadAs.{ReadAs}
use Rattle.session_record.specs.Lent.{Memory}
use Rattle.session_record.specs.Loan.{memory_in}
use Rattle.one_record.specs.declared.Did.{Did}
use Rattle.one_record.specs.Doing.{doing_in}
use Rattle.one_record.specs.Takes.{Takes}
use Rattle.open_run.specs.declared.Kept.{Kept}
use Rattle.open_run.specs.Kept.{Goes}
use Rattle.open_run.proofs.Standing.{refused_goes, ended_goes, marked_goes, closed_goes, line_goes}
use Rattle.open_run.proofs.take.Goals as goal

-- an arm of the `match` knows what was done
known : {m after : Memory} {x : ReadAs} {did d : Did} → did ≡ d → Takes m x (doing_in (Ok did)) after → Takes m x (doing_in (Ok d)) after
known {m} {after} {x} e h = subst (λ (y : Did). Takes m x (doing_in (Ok y)) after) e h

same : {m after : Memory} {x : ReadAs} {did d : Did} {k k' : Kept} → did ≡ d → Goes m k x (doing_in (Ok d)) after k' → Goes m k x (doing_in (Ok did)) after k'
same {m} {after} {x} {k = k} {k' = k'} e h = subst (λ (y : Did). Goes m k x (doing_in (Ok y)) after k') (sym e) h

pub returns-in_err-did-clause-goes : goal.returns-in_err-did-clause-goes
returns-in_err-did-clause-goes c =
    let p = err_from_is_err_and c.from_residual.result c.from_residual.ensures.1 in
    let lent = c.args.lent.now in
    rw (p.1, p.2) (refused_goes (memory_in lent) lent.ready c.args.kept.now _ _ (refusal_number c.in_err-did.field-0.0) c.in_err-did.ensures.takes)

pub returns-then-blind-clause-goes : goal.returns-then-blind-clause-goes
returns-then-blind-clause-goes c =
    let lent = c.args.lent.now in
    closed_goes (memory_in lent) lent.ready c.args.kept.now _ _ _ _ (known c.in-Line.is c.in_ok-did.ensures.takes) c.if-blind.true

pub returns-else-blind-clause-goes : goal.returns-else-blind-clause-goes
returns-else-blind-clause-goes c =
    let lent = c.args.lent.now in
    line_goes (memory_in lent) lent.ready c.args.kept.now _ _ _ _ _ (known c.in-Line.is c.in_ok-did.ensures.takes) c.if-blind.false c.keep.ensures.kept
    c.keep.ensures.counted

pub returns-in-Gap-clause-goes : goal.returns-in-Gap-clause-goes
returns-in-Gap-clause-goes c =
    let lent = c.args.lent.now in
    same c.in-Gap.is (marked_goes (memory_in lent) lent.ready c.args.kept.now _ _ _ _ _ (known c.in-Gap.is c.in_ok-did.ensures.takes))

pub returns-in-Ended-clause-goes : goal.returns-in-Ended-clause-goes
returns-in-Ended-clause-goes c =
    let lent = c.args.lent.now in
    same c.in-Ended.is (ended_goes (memory_in lent) lent.ready c.args.kept.now _ _ (known c.in-Ended.is c.in_ok-did.ensures.takes))
