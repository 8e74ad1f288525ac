-- Document 01, "Room", "Gaps" and the refusals of a line and of a gap mark: what a list of calls has opened, closed and answered.
use Rattle.std.specs.Prelude.{ℕ, zero, suc, ◌+◌, ◌*◌, ◌≡◌, Bool, true, false, cond, not, ◌&&◌, List, [], ◌∷◌, ◌++◌, leb, ltb}
use Rattle.meaning.specs.Limits.{most_lost, last_stamp, most_open}
use Rattle.meaning.specs.Words.{Property, Line, Run}
use Rattle.meaning.specs.Node.{ins, Verdict, IsVerdict, verdict_number}
use Rattle.meaning.specs.Numbers.{given, first_of, action_above}

-- "An input of the run is open at stamp T if its stamp + 2·UB ≥ T."
abbrev pub is_open : Property → ℕ → Line → Bool
is_open p T x = leb T (x.stamp + 2 * p.UB)

-- How many of these inputs are open at T.
abbrev pub count_open : Property → ℕ → List Line → ℕ
count_open p T [] = 0
count_open p T (x ∷ rest) = cond (is_open p T x) (suc (count_open p T rest)) (count_open p T rest)

abbrev pub open_at : Property → ℕ → Run → ℕ
open_at p T run = count_open p T (ins run)

-- Document 01, "Gaps": "A gap mark has a stamp g, not below the latest stamp." Document 02, CR 7: "The call that marks a gap takes
-- the number too", of the lines that were lost.
pub record Mark : Type 0 where
  pub lost : ℕ
  pub stamp : ℕ

-- The two calls on a session.
pub data Call : Type 0 where
  line : Line → Call
  mark : Mark → Call

abbrev pub mark_at : ℕ → ℕ → Call
mark_at lost t = Call.mark (record { lost = lost; stamp = t })

-- The latest stamp, and is the session blind.
pub record Clock : Type 0 where
  pub latest : ℕ
  pub is_blind : Bool

-- "latest stamp 0"
abbrev pub fresh_clock : Clock
fresh_clock = record { latest = 0; is_blind = false }

-- The clock after a line is taken, after which the session is blind or not.
abbrev pub ticked : Clock → Line → Bool → Clock
ticked k l b = record { latest = l.stamp; is_blind = b }

-- The clock after a gap mark: "the session is blind."
abbrev pub marked : Clock → Mark → Clock
marked k g = record { latest = g.stamp; is_blind = true }

-- "4: a stamp above 2^40 − 1", "5: a stamp below the latest"
abbrev pub stamp_refusal : Clock → ℕ → ℕ
stamp_refusal k T = first_of (given 4 (ltb last_stamp T)) (given 5 (ltb T k.latest))

-- Refusals 3, 4 and 5 of a gap mark: "one above 63 is refusal 3 there".
abbrev pub mark_refusal : Clock → Mark → ℕ
mark_refusal k g = first_of (given 3 (ltb most_lost g.lost)) (stamp_refusal k g.stamp)

-- "T exceeds the latest stamp by more than 2·UB"
abbrev pub beyond : Property → Clock → ℕ → Bool
beyond p k T = ltb (k.latest + 2 * p.UB) T

-- "A line stamped T taken while blind is skipped, unless T exceeds the latest stamp by more than 2·UB; then a boundary stands
-- before it and it is the first line of a new run." What comes of such a first line, of a skipped one and of the next of a run is given.
abbrev pub by_time : {A : Type 0} → Property → Clock → ℕ → A → A → A → A
by_time p k T first skipped next = cond k.is_blind (cond (beyond p k T) first skipped) next

-- What the calls so far have come to: the clock, and the run that is open (none while blind).
pub record Watch : Type 0 where
  pub clock : Clock
  pub run : Run

-- "A fresh session has an empty run, verdict 0 and latest stamp 0."
abbrev pub fresh : Watch
fresh = record { clock = fresh_clock; run = [] }

-- The watch after a line is taken.
abbrev pub with_line : Property → Watch → Line → Watch
with_line p w l =
    by_time p w.clock l.stamp
    (record { clock = ticked w.clock l false; run = l ∷ [] })
    (record { clock = ticked w.clock l true; run = [] })
    (record { clock = ticked w.clock l false; run = w.run ++ l ∷ [] })

-- The watch after a gap mark: "It closes the run .. and the session is blind."
abbrev pub with_mark : Watch → Mark → Watch
with_mark w g = record { clock = marked w.clock g; run = [] }

-- "6: more than 64 inputs would be open"; "Refusal 6 is never given while blind."
abbrev pub line_refusal : Property → Watch → Line → ℕ
line_refusal p w l =
    first_of (given 3 (action_above l.action))
    (first_of (stamp_refusal w.clock l.stamp)
    (given 6 (not w.clock.is_blind && ltb most_open (open_at p l.stamp (w.run ++ l ∷ [])))))

abbrev pub refusal : Property → Watch → Call → ℕ
refusal p w (Call.line l) = line_refusal p w l
refusal p w (Call.mark g) = mark_refusal w.clock g

abbrev pub taken : Property → Watch → Call → Watch
taken p w (Call.line l) = with_line p w l
taken p w (Call.mark g) = with_mark w g

-- What is refused alters nothing.
abbrev pub unless_refused : {A : Type 0} → ℕ → A → A → A
unless_refused zero new old = new
unless_refused (suc n) new old = old

abbrev pub next : Property → Watch → Call → Watch
next p w c = unless_refused (refusal p w c) (taken p w c) w

-- The watch after calls, from one that stands.
unfoldable pub watched : Property → Watch → List Call → Watch
watched p w [] = w
watched p w (c ∷ rest) = watched p (next p w c) rest

-- All of these calls are taken.
unfoldable pub AllTaken : Property → Watch → List Call → Type 0
AllTaken p w [] = Unit {0}
AllTaken p w (c ∷ rest) = (refusal p w c ≡ 0) × AllTaken p (taken p w c) rest

-- Those of the calls that are taken.
unfoldable pub kept : Property → Watch → List Call → List Call
kept p w [] = []
kept p w (c ∷ rest) = unless_refused (refusal p w c) (c ∷ kept p (next p w c) rest) (kept p (next p w c) rest)

-- The verdict that stands: "3 blind, no run is open".
abbrev pub Standing : Property → Watch → Verdict → Type 0
Standing p w v = cond w.clock.is_blind (v ≡ Verdict.blind) (IsVerdict p w.run v)

-- "Open is 0 while blind."
abbrev pub open_of : Property → Watch → ℕ
open_of p w = cond w.clock.is_blind 0 (open_at p w.clock.latest w.run)

-- What a call answers.
pub record Answer : Type 0 where
  pub refusal : ℕ
  pub verdict : ℕ
  pub open_count : ℕ

-- "A refusal carries 0 in all other numbers"
abbrev pub refused : ℕ → Answer
refused n = record { refusal = n; verdict = 0; open_count = 0 }

-- The answer to a call that is taken: after a line the verdict that then stands and the number open; a gap mark's
-- "answer gives the closed run's verdict (3 if already blind)".
pub record Told (p : Property) (w : Watch) (open_count : ℕ) (a : Answer) : Type 0 where
  pub taken : a.refusal ≡ 0
  pub verdict : Verdict
  pub stands : Standing p w verdict
  pub told : a.verdict ≡ verdict_number verdict
  pub counted : a.open_count ≡ open_count

abbrev pub TakenAnswer : Property → Watch → Call → Answer → Type 0
TakenAnswer p w (Call.line l) a = Told p (with_line p w l) (open_of p (with_line p w l)) a
TakenAnswer p w (Call.mark g) a = Told p w 0 a

abbrev pub AnswerBy : ℕ → Property → Watch → Call → Answer → Type 0
AnswerBy zero p w c a = TakenAnswer p w c a
AnswerBy (suc n) p w c a = a ≡ refused (suc n)

-- The answer to a call, refused or taken.
abbrev pub IsAnswer : Property → Watch → Call → Answer → Type 0
IsAnswer p w c a = AnswerBy (refusal p w c) p w c a
