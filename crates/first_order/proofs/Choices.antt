-- The choice of the next line, by its tests.
use Prim.Native.Nat.{ℕ, ◌+◌, ◌*◌, ◌-◌}
use mathlib.Core.Path.{◌≡◌, sym, ap, ap₂, ◌∙◌}
use mathlib.Core.Bool.{Bool, true, false, cond}
use lib.ListN.{length, get_or}
use lib.Dec.{leb, ltb}
use Rattle.property.specs.declared.Property.{Property}
use Rattle.judged_rest.specs.declared.Reached.{Reached}
use Rattle.judged_rest.specs.Lent.{Lines, count, stamp_at}
use Rattle.judged_rest.specs.Judged.{judged}
use Rattle.first_order.specs.Search.{next_from, kind_in, reaches, with_line, choice_of, choice}

abbrev picked : Bool → Bool → Bool → Bool → ℕ → ℕ → ℕ
picked a b c d x y = cond a x (cond b y (cond c x (cond d y x)))

module _ (p : Property) (ls : Lines) (breaking : Bool) (from : Reached) (x y : ℕ)
    (ex : x ≡ next_from (kind_in ls.output false) from.input (length ls.output - from.input))
    (ey : y ≡ next_from (kind_in ls.output true) from.output (length ls.output - from.output))
    (long : length ls.output ≡ count ls) where
  at_places : choice_of p ls breaking from x y ≡ choice p ls breaking from
  unfolding choice
  at_places =
      ap₂ (choice_of p ls breaking from)
      (ex ∙ ap (λ (n : ℕ). next_from (kind_in ls.output false) from.input (n - from.input)) long)
      (ey ∙ ap (λ (n : ℕ). next_from (kind_in ls.output true) from.output (n - from.output)) long)

  abbrev end : ℕ
  end = (judged p ls (with_line p from true (get_or ls.action y 0) y) (count ls)).told.verdict

  abbrev by : Bool → Bool → Bool → Bool → ℕ
  by a b c d = picked a b c d x y

  abbrev far : Bool
  far = ltb (stamp_at ls x + 2 * p.ub) (stamp_at ls y)

  -- no output is left,
  pub no_output : leb (count ls) y ≡ true → x ≡ choice p ls breaking from
  no_output a = sym (ap (λ (t : Bool). by t (leb (count ls) x) far (reaches breaking end)) a) ∙ at_places

  -- no input is left,
  pub no_input : leb (count ls) y ≡ false → leb (count ls) x ≡ true → y ≡ choice p ls breaking from
  no_input a b =
      sym (ap (λ (t : Bool). by t (leb (count ls) x) far (reaches breaking end)) a ∙ ap (λ (t : Bool). by false t far (reaches breaking end)) b) ∙ at_places

  module _ (a : leb (count ls) y ≡ false) (b : leb (count ls) x ≡ false) where
    both : by (leb (count ls) y) (leb (count ls) x) far (reaches breaking end) ≡ by false false far (reaches breaking end)
    both = ap (λ (t : Bool). by t (leb (count ls) x) far (reaches breaking end)) a ∙ ap (λ (t : Bool). by false t far (reaches breaking end)) b

    -- the input may not stand behind the output,
    pub too_far : far ≡ true → x ≡ choice p ls breaking from
    too_far c = sym (both ∙ ap (λ (t : Bool). by false false t (reaches breaking end)) c) ∙ at_places

    -- the wanted end can be reached behind the output, or not.
    pub reached : far ≡ false → reaches breaking end ≡ true → y ≡ choice p ls breaking from
    reached c d = sym (both ∙ ap (λ (t : Bool). by false false t (reaches breaking end)) c ∙ ap (λ (t : Bool). by false false false t) d) ∙ at_places

    pub not_reached : far ≡ false → reaches breaking end ≡ false → x ≡ choice p ls breaking from
    not_reached c d = sym (both ∙ ap (λ (t : Bool). by false false t (reaches breaking end)) c ∙ ap (λ (t : Bool). by false false false t) d) ∙ at_places
