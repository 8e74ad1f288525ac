-- `named::record` meets its contract: as `printed::record` lists it, with the name in a line of a call.
use Prim.Native.Nat.{ℕ}
use mathlib.Core.Path.{◌≡◌, ◌∙◌}
use mathlib.Core.List.{List}
use mathlib.Core.Bool.{true}
use Rattle.meaning.specs.Words.{Action}
use Rattle.named.specs.Named.{names_of, named_of}
use Rattle.named.proofs.Lines.{Took, took, took-same, last-same}
use Rattle.named.proofs.record.Goals as goal
use Rattle.named.proofs.record.Goals.{After-record-line, then-more, else-more}

went : (c : After-record-line) → c.record-line.result.more ≡ true → Took c.args.s c.args.count c.args.bytes.now c.record-line.result
went c h = took c.args.s c.args.count c.args.bytes.now c.record-line.result c.record-line.ensures h

pub named_line-text-requires : goal.named_line-text-requires
named_line-text-requires c = (went (goal.at.named_line-text-requires c).After-record-line c.if-more.true).line

pub returns : goal.returns
unfolding named_of
returns c =
    let a = c.args in
    let names : Action → List ℕ = names_of a.site.now a.release.now in
    let k = (goal.at.returns c).After-record-line in
    let text : c.if-more.text ≡ (named_of a.site.now a.release.now a.s a.count a.bytes.now).text =
    elim c.if-more.branch [
      | then-more w ↦ let t = went k w.if-more.true in w.text-is ∙ w.named_line-text.ensures t.line ∙ took-same a.s a.count a.bytes.now names c.record-line.result t
      | else-more w ↦ w.text-is ∙ w.unnamed-text.ensures ∙ last-same a.s a.count a.bytes.now names c.record-line.result c.record-line.ensures w.if-more.false
    ] in
    λ i. record { text = text i; session = (c.record-line.ensures i).session; count = (c.record-line.ensures i).count; more = (c.record-line.ensures i).more }
