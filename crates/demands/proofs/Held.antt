-- What the session record says after any calls: its property, the open inputs, the latest stamp and whether it is blind.
use Prim.Native.Nat.{ℕ, suc, ◌+◌, ◌*◌, ◌^◌, ◌≤◌, ◌<◌}
use mathlib.Core.Path.{◌≡◌, refl, sym, ◌∙◌, ap, subst}
use mathlib.Core.Bool.{Bool, true, false, cond, not, ◌&&◌, ◌||◌}
use mathlib.Core.List.{List, [], ◌∷◌, ◌++◌, map}
use native.Mathlib.Omega.{arith}
use lib.ListN.{length, length-map}
use lib.Dec.{T, leb, ltb, eqb, leb→le, nleb→lt}
use Rattle.laws.specs.Places.{padded, some_below}
use Rattle.meaning.specs.Words.{action_number, Line}
use Rattle.meaning.specs.Words
use Rattle.meaning.specs.Node.{Breaks, ins}
use Rattle.meaning.specs.Numbers.{property_refusal}
use Rattle.meaning.specs.Calls.{is_open, Call, Watch}
use Rattle.meaning.specs.Matcher.{Lengths, some_to}
use Rattle.meaning.specs.Step.{Held, Cuts}
use Rattle.meaning.proofs.Lists.{All, done, also}
use Rattle.meaning.proofs.Fronts.{lines}
use Rattle.meaning.proofs.Sets.{Reading}
use Rattle.meaning.proofs.Lengths.{lengths_reading}
use Rattle.meaning.proofs.Calls.{Agrees, open_run, blind, grown_agrees}
use Rattle.property.specs.Meant.{meant}
use Rattle.property.specs.declared.Property.{Property}
use Rattle.matcher.specs.Sets.{stray}
use Rattle.rows.specs.Rows.{place, word}
use Rattle.session_record.specs.declared.Session.{Session}
use Rattle.session_record.specs.Record.{record_of, out_of_range}
use Rattle.session_record.proofs.Running.{running_record}
use Rattle.demands.specs.Ring.{start_of, count_of, at}
use Rattle.demands.specs.Called.{open_inputs, held_inputs, held_stamps, held_actions}
use Rattle.demands.proofs.Running.{running, seen}

-- ---- the open inputs, of closed ones and open ones

module _ (p : Words.Property) (t : ℕ) where
  behind-closed : {closed : List Line} → All (λ (z : Line). z.stamp + 2 * p.UB < t) closed → (rest : List Line) → open_inputs p t (closed ++ rest) ≡ open_inputs p t rest
  unfolding open_inputs
  behind-closed done rest = refl
  behind-closed (also {x} {xs} h all) rest = go (is_open p t x) (leb→le t (x.stamp + 2 * p.UB)) (behind-closed all rest)
    where
      go : (c : Bool) → (T c → t ≤ x.stamp + 2 * p.UB) → open_inputs p t (xs ++ rest) ≡ open_inputs p t rest
          → cond c (x ∷ open_inputs p t (xs ++ rest)) (open_inputs p t (xs ++ rest)) ≡ open_inputs p t rest
      go true k e = let k' : t ≤ x.stamp + 2 * p.UB = k tt in let z : ⊥ = omega arith in absurd z
      go false k e = e

  all_open : {xs : List Line} → All (λ (z : Line). t ≤ z.stamp + 2 * p.UB) xs → open_inputs p t xs ≡ xs
  unfolding open_inputs
  all_open done = refl
  all_open (also {x} {xs} h all) = go (is_open p t x) (nleb→lt t (x.stamp + 2 * p.UB)) (all_open all)
    where
      go : (c : Bool) → (T (not c) → x.stamp + 2 * p.UB < t) → open_inputs p t xs ≡ xs → cond c (x ∷ open_inputs p t xs) (open_inputs p t xs) ≡ x ∷ xs
      go true n e = ap (λ (l : List Line). x ∷ l) e
      go false n e = let n' : x.stamp + 2 * p.UB < t = n tt in let z : ⊥ = omega arith in absurd z

-- what is told of the lines of open inputs
told-lines : (f : Line → ℕ) (hs : List (Held Lengths)) → map (λ (h : Held Lengths). f h.line) hs ≡ map f (lines hs)
told-lines f [] = refl
told-lines f (h ∷ hs) = ap (λ (l : List ℕ). f h.line ∷ l) (told-lines f hs)

module _ (p : Property) (good : property_refusal (meant p) ≡ 0) where
  abbrev R : Reading (meant p) (Breaks (meant p))
  R = lengths_reading (meant p) good

  -- The record has this property, the latest stamp, whether it is blind, and the open inputs by their stamps and by their actions.
  pub record Holds (w : Watch) (s : Session) : Type 0 where
    pub property : s.property ≡ p
    pub latest : s.shared.status.clock.latest ≡ w.clock.latest
    pub blind : s.shared.status.clock.blind ≡ w.clock.is_blind
    pub start : s.shared.status.span.start ≡ 0
    pub count : s.shared.status.span.count ≡ length (held_inputs (meant p) w)
    pub stamps : s.shared.held ≡ held_stamps (held_inputs (meant p) w)
    pub actions : s.shared.acts ≡ held_actions (held_inputs (meant p) w)

  holds : {w : Watch} {c : Cuts Lengths} → Agrees R w c → Holds w (record_of p c)
  holds (open_run run clock f fit few) =
      let opened : open_inputs (meant p) clock.latest (ins run) ≡ lines f.held =
      ap (open_inputs (meant p) clock.latest) fit.split ∙ behind-closed (meant p) clock.latest fit.closed_now (lines f.held) ∙ all_open (meant p) clock.latest fit.open_still in
      record {
        property = refl;
        latest = refl;
        blind = refl;
        start = refl;
        count = sym (ap length opened ∙ length-map f.held _);
        stamps = ap (padded 65 0) (told-lines (λ (l : Line). l.stamp) f.held ∙ ap (map (λ (l : Line). l.stamp)) (sym opened));
        actions = ap (padded 65 0) (told-lines (λ (l : Line). action_number l.action) f.held ∙ ap (map (λ (l : Line). action_number l.action)) (sym opened));
      }
  holds (blind clock) = record { property = refl; latest = refl; blind = refl; start = refl; count = refl; stamps = refl; actions = refl }

  pub running_holds : (calls : List Call) → Holds (seen p good calls) (running p good calls)
  running_holds calls = subst (Holds (seen p good calls)) (sym (running_record p good calls)) (holds (grown_agrees R calls))

-- 10: "a property that 1, 2 or 3 would refuse, over 64 held stamps, held stamps out of order or past the latest, held stamps while blind,
-- latest past the limit, a matched length above the sequence's" (bit k of a cut's mask is for length k, bit k + 1 of its other word for the
-- same, armed); "Refusal 10 also covers a start or count out of range."
pub demand_10 : (s : Session)
    → out_of_range s
    ≡ not (eqb (property_refusal (meant s.property)) 0)
    || ltb 64 (start_of s)
    || ltb 64 (count_of s)
    || some_below (count_of s) (λ i. ltb (cond (ltb (suc i) (count_of s)) (at s s.shared.held (suc i)) s.shared.status.clock.latest) (at s s.shared.held i))
    || s.shared.status.clock.blind && ltb 0 (count_of s)
    || ltb 1_099_511_627_775 s.shared.status.clock.latest
    || not s.shared.status.clock.blind
    && some_to (count_of s) (λ i. leb (2 ^ suc s.property.n) (at s s.row.masks i) || leb (2 ^ suc (suc s.property.n)) (at s s.row.armed i))
unfolding out_of_range word place stray
demand_10 s = refl
