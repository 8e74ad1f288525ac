-- `matcher::joined` meets its contract: bit by bit.
use Rattle.matcher.proofs.Words.{joined_set, joined_fits}
use Rattle.matcher.proofs.joined.Goals as goal

pub returns : goal.returns
returns c =
    let a = c.args in
    record { set = joined_set a.a a.b; fits = λ p h k. joined_fits p a.a a.b h k }
