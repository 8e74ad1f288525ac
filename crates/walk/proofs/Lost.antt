-- The last gap's number of lost lines, record by record, and of two walks one behind the other.
use Prim.Native.Nat.{ℕ, zero, suc, ◌+◌, ◌*◌}
use mathlib.Core.Path.{◌≡◌, refl, sym, ◌∙◌, ap}
use mathlib.Core.Bool.{Bool, true, false, cond, ◌||◌}
use mathlib.Core.List.{List}
use native.Mathlib.Omega.{arith}
use lib.ListN.{drop}
use lib.Seq.{drop-drop}
use Rattle.fields.specs.Fields.{field}
use Rattle.record_form.specs.Record.{record_size}
use Rattle.walk.specs.Walk.{is_gap, lost_with, last_lost, some_gap}

-- Records behind others: the number goes on from theirs.
pub last-append : (lost first second : ℕ) (bytes : List ℕ)
    → last_lost lost (first + second) bytes ≡ last_lost (last_lost lost first bytes) second (drop (record_size * first) bytes)
unfolding last_lost
last-append lost zero second bytes = let e : 0 + second ≡ second = omega arith in ap (λ (n : ℕ). last_lost lost n bytes) e
last-append lost (suc first) second bytes =
    let e : suc first + second ≡ suc (first + second) = omega arith in
    let k : record_size + record_size * first ≡ record_size * suc first = omega arith in
    ap (λ (n : ℕ). last_lost lost n bytes) e
    ∙ last-append (lost_with lost bytes) first second (drop record_size bytes)
    ∙ ap (last_lost (last_lost (lost_with lost bytes) first (drop record_size bytes)) second)
    (drop-drop (record_size * first) record_size bytes ∙ ap (λ (n : ℕ). drop n bytes) k)

-- one record more
pub last-next : (lost taken : ℕ) (bytes : List ℕ) → lost_with (last_lost lost taken bytes) (drop (record_size * taken) bytes) ≡ last_lost lost (taken + 1) bytes
last-next lost taken bytes = sym (last-append lost taken 1 bytes ∙ one)
  where
    one : last_lost (last_lost lost taken bytes) 1 (drop (record_size * taken) bytes) ≡ lost_with (last_lost lost taken bytes) (drop (record_size * taken) bytes)
    one = unfold last_lost in refl

-- The number before counts where no gap is among the records, and only there.
pub last_by_gap : (lost taken : ℕ) (bytes : List ℕ) → last_lost lost taken bytes ≡ cond (some_gap taken bytes) (last_lost 0 taken bytes) lost
unfolding last_lost some_gap
last_by_gap lost zero bytes = refl
last_by_gap lost (suc taken) bytes = go (is_gap bytes) (last_by_gap lost taken (drop record_size bytes))
  where
    rest : List ℕ
    rest = drop record_size bytes

    go : (b : Bool) → last_lost lost taken rest ≡ cond (some_gap taken rest) (last_lost 0 taken rest) lost
        → last_lost (cond b (field bytes 2 6) lost) taken rest ≡ cond (b || some_gap taken rest) (last_lost (cond b (field bytes 2 6) 0) taken rest) lost
    go true h = refl
    go false h = h
