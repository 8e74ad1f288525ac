-- `named::named_line` meets its contract: the front of the line that was read, and its name behind it.
use Rattle.std.specs.Prelude.{Result}
use Prim.Native.Nat.{ℕ}
use mathlib.Core.Path.{◌∙◌, ap, ap₂, subst}
use mathlib.Core.List.{List}
use native.Mathlib.Omega.{arith}
use lib.ListN.{length}
use Rattle.outcomes.specs.declared.Refusal.{Refusal}
use Rattle.record_form.specs.declared.Record.{Record}
use Rattle.record_form.specs.Record.{read_case, IsRead}
use Rattle.named_text.specs.Text.{inserted}
use Rattle.named.proofs.Lines.{line_taken, name_as_short, front_fits, with_its_name}
use Rattle.named.proofs.named_line.Goals as goal

pub returns-in_default : goal.returns-in_default
returns-in_default c l = absurd (line_taken l c.read_record.ensures c.in_default.is)

pub with_name-requires : goal.with_name-requires
with_name-requires c =
    let a = c.args in
    let r = c.in-Ok.read in
    let h = subst (λ (x : Result Record Refusal). IsRead a.bytes.now a.before (read_case x)) c.in-Ok.is c.read_record.ensures in (
      omega (
        arith,
        c.len.ensures,
        ap length c.front_of-front.ensures,
        front_fits a.site.now a.release.now a.bytes.now a.before a.number a.line c.requires r h,
      ),
      omega (arith, ap length c.name_of.ensures, name_as_short a.site.now a.release.now r),
    )

pub returns : goal.returns
returns c l =
    let a = c.args in
    let h = subst (λ (x : Result Record Refusal). IsRead a.bytes.now a.before (read_case x)) c.in-Ok.is c.read_record.ensures in
    c.with_name.ensures
    ∙ ap₂ (λ (n : ℕ) (name : List ℕ). inserted n name a.line) (c.len.ensures ∙ ap length c.front_of-front.ensures)
    c.name_of.ensures
    ∙ with_its_name a.site.now a.release.now a.bytes.now a.before a.number a.line l c.in-Ok.read h
