-- Lines judged one after the other: the number is the one that a session gives for the first that it does not take, and where it takes all
-- they are the run that it has open.
use Prim.Native.Nat.{ℕ, zero, suc}
use mathlib.Core.Path.{◌≡◌, refl, sym, ap, ◌∙◌}
use mathlib.Core.Bool.{false}
use native.Mathlib.Omega.{arith}
use mathlib.Core.List.{List, [], ◌∷◌, ◌++◌, map, append-nil}
use Rattle.meaning.specs.Words.{Property, Line, Run}
use Rattle.meaning.specs.Numbers.{first_of}
use Rattle.meaning.specs.Calls.{Call, Clock, ticked, Watch, refusal, taken, watched, AllTaken}
use Rattle.meaning.proofs.Lists.{snoc_append}
use Rattle.meaning.proofs.Refusals.{first_of-none, unless_taken}
use Rattle.meaning.proofs.Clocks.{open_watch}
use Rattle.reasons.specs.Reasons.{lines_refusal}

abbrev pub as_calls : List Line → List Call
as_calls lines = map Call.line lines

module _ (p : Property) where
  goes_on : (w : Watch) (l : Line) (calls : List Call) → refusal p w (Call.line l) ≡ 0
      → watched p w (Call.line l ∷ calls) ≡ watched p (taken p w (Call.line l)) calls
  unfolding watched
  goes_on w l calls e = ap (λ (x : Watch). watched p x calls) (unless_taken (refusal p w (Call.line l)) (taken p w (Call.line l)) w e)

  -- All are taken, and are the run that is then open.
  pub takes_all : (run lines : List Line) (clock : Clock) → lines_refusal p (open_watch run clock) lines ≡ 0
      → AllTaken p (open_watch run clock) (as_calls lines)
      × ((later : Clock) × (watched p (open_watch run clock) (as_calls lines) ≡ open_watch (run ++ lines) later))
  unfolding lines_refusal AllTaken watched
  takes_all run [] clock e = (tt, (clock, ap (λ (r : Run). open_watch r clock) (sym (append-nil run))))
  takes_all run (l ∷ lines) clock e =
      let parts = first_of-none (refusal p (open_watch run clock) (Call.line l)) e in
      let r = takes_all (run ++ l ∷ []) lines (ticked clock l false) parts.1 in
      let longer : open_watch ((run ++ l ∷ []) ++ lines) r.1.0 ≡ open_watch (run ++ l ∷ lines) r.1.0 =
      ap (λ (x : Run). open_watch x r.1.0) (snoc_append run l lines) in
      ((parts.0, r.0), (r.1.0, goes_on (open_watch run clock) l (as_calls lines) parts.0 ∙ r.1.1 ∙ longer))

  -- Or the number is that of the first that is not taken.
  pub record StopsAt (w : Watch) (lines : List Line) (n : ℕ) : Type 0 where
    pub before : List Line
    pub line : Line
    pub behind : List Line
    pub stands : lines ≡ before ++ line ∷ behind
    pub all-taken : AllTaken p w (as_calls before)
    pub refused : refusal p (watched p w (as_calls before)) (Call.line line) ≡ n

  pub stops_at : (lines : List Line) (w : Watch) (n : ℕ) → lines_refusal p w lines ≡ suc n → StopsAt w lines (suc n)
  unfolding lines_refusal AllTaken watched
  stops_at [] w n e = absurd (zero≢suc e)
    where
      zero≢suc : {k : ℕ} → ◌≡◌ {A = ℕ} 0 (suc k) → ⊥
      zero≢suc q = omega arith
  stops_at (l ∷ lines) w n e = go (refusal p w (Call.line l)) refl e (stops_at lines (taken p w (Call.line l)) n)
    where
      go : (m : ℕ) → refusal p w (Call.line l) ≡ m → first_of m (lines_refusal p (taken p w (Call.line l)) lines) ≡ suc n
          → (lines_refusal p (taken p w (Call.line l)) lines ≡ suc n → StopsAt (taken p w (Call.line l)) lines (suc n)) → StopsAt w (l ∷ lines) (suc n)
      go (suc m) q h ih = record { before = []; line = l; behind = lines; stands = refl; all-taken = tt; refused = q ∙ h }
      go zero q h ih =
          let r = ih h in
          record {
            before = l ∷ r.before;
            line = r.line;
            behind = r.behind;
            stands = ap (λ (x : List Line). l ∷ x) r.stands;
            all-taken = (q, r.all-taken);
            refused = ap (λ (x : Watch). refusal p x (Call.line r.line)) (goes_on w l (as_calls r.before) q) ∙ r.refused;
          }
