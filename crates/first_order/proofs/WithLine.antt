-- An order with one line more: the one state moves on.
use Prim.Native.Nat.{ℕ, ◌+◌}
use mathlib.Core.Path.{◌≡◌, sym, ap, ◌∙◌}
use mathlib.Core.Bool.{Bool, cond}
use native.Mathlib.Numerals.{add-one}
use Rattle.meaning.specs.Matcher.{moved}
use Rattle.meaning.specs.Numbers.{property_refusal}
use Rattle.property.specs.Meant.{meant, action_of}
use Rattle.property.specs.declared.Property.{Property}
use Rattle.matcher.specs.declared.Cut.{Cut}
use Rattle.matcher.specs.Sets.{set_of, cut_of, Moved}
use Rattle.matcher.proofs.Words.{cut_back}
use Rattle.cuts.specs.Steps.{line_of}
use Rattle.judged_rest.specs.declared.Reached.{Reached}
use Rattle.first_order.specs.Search.{with_line}

module _ (p : Property) (good : property_refusal (meant p) ≡ 0) (from : Reached) (output : Bool) (action k : ℕ) (after : Cut)
    (m : Moved p from.cut (action_of output action) after) where
  -- the words of the state that the line leads to
  same : after ≡ cut_of (moved (meant p) (set_of from.cut) (line_of output action 0))
  same = sym (cut_back p good after m.fits) ∙ ap cut_of (m.set 0)

  -- by the direction
  pub line-behind : {b : Bool} → output ≡ b
      → cond b (record { input = from.input; output = k + 1; cut = after }) (record { input = k + 1; output = from.output; cut = after })
      ≡ with_line p from output action k
  line-behind e =
      λ i.
      cond (sym e i)
      (record { input = from.input; output = add-one k i; cut = same i })
      (record { input = add-one k i; output = from.output; cut = same i })
