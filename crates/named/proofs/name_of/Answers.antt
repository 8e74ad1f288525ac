-- `named::name_of` meets its contract: what `names::name` hands back has the name's bytes, and the release's end has none.
use Prim.Native.Nat.{ℕ, ◌-◌}
use mathlib.Core.Path.{◌≡◌, sym, ◌∙◌, ap}
use mathlib.Core.Bool.{true, false}
use mathlib.Core.List.{List, []}
use lib.ListN.{length, take, drop}
use lib.Seq.{drop-length}
use Rattle.name_list.proofs.Lists.{part-all}
use Rattle.names.proofs.Named.{handed_name}
use Rattle.named.specs.Insert.{name_as}
use Rattle.named.proofs.name_of.Goals as goal

at_end : (l : List ℕ) → take (length l - length l) (drop (length l) l) ≡ []
at_end l = part-all l (length l) ∙ drop-length l

pub returns-in-Input : goal.returns-in-Input
unfolding name_as
returns-in-Input c =
    let a = c.args in
    handed_name a.site a.release c.name.result false _ c.name.ensures ∙ ap (name_as a.site.now a.release.now) (sym c.in-Input.is)

pub returns-in-Output : goal.returns-in-Output
unfolding name_as
returns-in-Output c =
    let a = c.args in
    handed_name a.site a.release c.name-in-Output.result true _ c.name-in-Output.ensures ∙ ap (name_as a.site.now a.release.now) (sym c.in-Output.is)
