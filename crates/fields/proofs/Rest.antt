-- A part of a slice that starts at byte n is its rest behind n bytes: the place and what stands there.
use Prim.Native.Nat.{ℕ, ◌+◌, ◌-◌}
use mathlib.Core.Path.{◌≡◌, sym, ◌∙◌, ap}
use mathlib.Core.List.{List}
use native.Mathlib.Omega.{arith}
use lib.ListN.{length, take, drop, length-drop}
use lib.Seq.{take_all}
use denote.Ref.{Bor}
use Rattle.fields.specs.Rest.{Rest}

pub rest_part : (n : ℕ) (s r : Bor (List ℕ)) (m : ℕ) → m ≡ n → r.ref_ptr.0 ≡ s.ref_ptr.0 → r.ref_ptr.1 ≡ s.ref_ptr.1 + n
    → r.now ≡ take (length s.now - n) (drop n s.now) → Rest m s r
rest_part n s r m e a b h =
    record {
      place = λ i. (a i, (b ∙ ap (λ (k : ℕ). s.ref_ptr.1 + k) (sym e)) i);
      bytes = h
          ∙ take_all (length s.now - n) (drop n s.now) (omega (arith, length-drop n s.now))
          ∙ ap (λ (k : ℕ). drop k s.now) (sym e);
    }
