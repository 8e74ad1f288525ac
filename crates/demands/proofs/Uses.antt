-- Lines, marks and walks in any mixture are single calls in a row.
use mathlib.Core.Path.{◌≡◌, sym, ◌∙◌, ap}
use mathlib.Core.List.{List, [], ◌∷◌, ◌++◌, append_assoc, append-nil}
use Rattle.meaning.specs.Numbers.{property_refusal}
use Rattle.meaning.specs.Calls.{Call}
use Rattle.property.specs.Meant.{meant}
use Rattle.property.specs.declared.Property.{Property}
use Rattle.session_record.specs.declared.Session.{Session}
use Rattle.session_record.specs.Step.{fresh_of}
use Rattle.demands.specs.Traces.{calls_of}
use Rattle.demands.specs.Uses.{Use, session_after, session_through}
use Rattle.demands.proofs.Running.{through_append, running, running_range, running_next}
use Rattle.demands.proofs.Walks.{walk-over}

module _ (p : Property) (good : property_refusal (meant p) ≡ 0) where
  one_use : (calls : List Call) (u : Use) → (more : List Call) × (session_after (running p good calls) u ≡ running p good (calls ++ more))
  one_use calls (Use.call c) = (c ∷ [], sym (running_next p good calls c))
  one_use calls (Use.walk bytes budget) =
      let w = walk-over (running p good calls) bytes budget (running_range p good calls) in
      (calls_of w.entries, w.session ∙ sym (through_append (fresh_of p).session calls (calls_of w.entries)))

  pub uses_are_calls : (calls : List Call) (uses : List Use) → (more : List Call) × (session_through (running p good calls) uses ≡ running p good (calls ++ more))
  unfolding session_through
  uses_are_calls calls [] = ([], ap (running p good) (sym (append-nil calls)))
  uses_are_calls calls (u ∷ uses) =
      let one = one_use calls u in
      let rest = uses_are_calls (calls ++ one.0) uses in
      (one.0 ++ rest.0, ap (λ (s : Session). session_through s uses) one.1 ∙ rest.1 ∙ ap (running p good) (append_assoc calls one.0 rest.0))
