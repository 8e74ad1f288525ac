-- `printed::lent::adds` meets its contract: the line of a call that was taken.
use Rattle.std.specs.Prelude.{Result, Ok}
use Rattle.std.proofs.Common.{◌≡◌, ℕ, true, false, Bool, refl, sym, ap, ◌∙◌}
use Rattle.std.specs.Int.{from_bool}
use Rattle.outcomes.specs.declared.Refusal.{Refusal}
use Rattle.meaning.specs.Words.{action_of, action_number}
use Rattle.record_form.specs.Record.{gap}
use Rattle.one_record.specs.declared.Did.{Did}
use Rattle.one_record.specs.Doing.{doing_in}
use Rattle.printout.specs.Text.{line_text}
use Rattle.printed.specs.Printed.{one_after, kind_of}
use Rattle.printed.specs.Lent.{next_added, added_of}
use Rattle.printed.proofs.lent.adds.Goals as goal

kind-same : (output : Bool) (action : ℕ) → from_bool output ≡ kind_of (action_of output action)
kind-same true action = refl
kind-same false action = refl

number_same : (output : Bool) (action : ℕ) → action ≡ action_number (action_of output action)
number_same true action = refl
number_same false action = refl

pub returns-in-Ok-Line : goal.returns-in-Ok-Line
unfolding one_after
returns-in-Ok-Line c =
    let w = c.in-Ok-Line in
    let line = w.line in
    c.next.ensures
    ∙ ap (next_added c.args.count)
    (c.line-text.ensures
    ∙ (λ i.
    line_text (one_after c.args.count) ((c.from.ensures ∙ kind-same line.output line.action) i) (number_same line.output line.action i) line.stamp
    (c.from-verdict.ensures i) w.told.open_count))
    ∙ ap (λ (d : Result Did Refusal). added_of (doing_in d) c.args.count) (sym (w.is ∙ ap Ok (rw w.is at w.field-0-is)))

pub returns-in-Ok-Gap : goal.returns-in-Ok-Gap
unfolding one_after
returns-in-Ok-Gap c =
    let w = c.in-Ok-Gap in
    c.next-in-Ok-Gap.ensures
    ∙ ap (next_added c.args.count) (c.line.ensures ∙ ap (λ (v : ℕ). line_text (one_after c.args.count) gap w.lost w.stamp v 0) c.from-in-Ok-Gap.ensures)
    ∙ ap (λ (d : Result Did Refusal). added_of (doing_in d) c.args.count) (sym (w.is ∙ ap Ok (rw w.is at w.field-0-is)))
