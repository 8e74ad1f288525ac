-- One step over cuts and matched lengths. It lists no orders: for each cut before or after an open input it keeps a set of
-- what the matcher may remember there. How such sets are stored is a parameter (`Sets`); `lengths` is the one in use.
use Rattle.std.specs.Prelude.{ℕ, ◌+◌, ◌*◌, Bool, true, false, cond, not, ◌&&◌, List, [], ◌∷◌, length, leb, ltb}
use Rattle.meaning.specs.Limits.{most_open}
use Rattle.meaning.specs.Words.{Action, Property, Line}
use Rattle.meaning.specs.Node.{Verdict, verdict_number}
use Rattle.meaning.specs.Numbers.{given, first_of, action_above}
use Rattle.meaning.specs.Calls.{is_open, Mark, Call, Clock, fresh_clock, ticked, marked, stamp_refusal, mark_refusal, by_time}
use Rattle.meaning.specs.Calls.{unless_refused, Answer, refused}
use Rattle.meaning.specs.Matcher.{Lengths, none_of, at_start, either, moved, some_length}

-- Sets of what a matcher may remember.
pub record Sets : Type 1 where
  pub Set : Type 0
  pub none : Set
  pub start : Set
  pub join : Set → Set → Set
  pub move : Set → Line → Set
  pub some_broken : Set → Bool
  pub some_unbroken : Set → Bool

abbrev pub lengths : Property → Sets
lengths p =
    record {
      Set = Lengths;
      none = none_of;
      start = at_start;
      join = either;
      move = moved p;
      some_broken = λ s. s.with_broken;
      some_unbroken = some_length p;
    }

-- An open input, with the set of the cut after it.
pub record Held (Set : Type 0) : Type 0 where
  pub line : Line
  pub after : Set

-- "one before each open input and one after all": the set before all open inputs, and the open inputs.
pub record Front (Set : Type 0) : Type 0 where
  pub before : Set
  pub held : List (Held Set)

-- A session over cuts.
pub record Cuts (Set : Type 0) : Type 0 where
  pub clock : Clock
  pub front : Front Set

module _ (p : Property) (𝓢 : Sets) where
  -- The set of the cut after all open inputs: every explanation of the run ends there.
  unfoldable pub last_set : 𝓢.Set → List (Held 𝓢.Set) → 𝓢.Set
  last_set s [] = s
  last_set s (h ∷ rest) = last_set h.after rest

  -- "An input that has closed gives its place up": what came through its cut is in the next one already.
  unfoldable pub closed : ℕ → 𝓢.Set → List (Held 𝓢.Set) → Front 𝓢.Set
  closed T s [] = record { before = s; held = [] }
  closed T s (h ∷ rest) = cond (is_open p T h.line) (record { before = s; held = h ∷ rest }) (closed T h.after rest)

  -- A new input comes last.
  unfoldable pub appended : Line → 𝓢.Set → List (Held 𝓢.Set) → List (Held 𝓢.Set)
  appended x s [] = record { line = x; after = 𝓢.move s x } ∷ []
  appended x s (h ∷ rest) = h ∷ appended x h.after rest

  -- A new output comes after all outputs: at the cut after an open input directly, if that input may stand before it, or
  -- at an earlier cut, with that input behind it. `s` is the new set of the cut before `h`.
  abbrev pub swept_one : Line → 𝓢.Set → Held 𝓢.Set → 𝓢.Set
  swept_one y s h =
      𝓢.join (cond (leb (h.line.stamp + 2 * p.LB) y.stamp) (𝓢.move h.after y) 𝓢.none) (𝓢.move s h.line)

  unfoldable pub swept : Line → 𝓢.Set → List (Held 𝓢.Set) → List (Held 𝓢.Set)
  swept y s [] = []
  swept y s (h ∷ rest) = record { line = h.line; after = swept_one y s h } ∷ swept y (swept_one y s h) rest

  abbrev pub front_next : Action → Line → Front 𝓢.Set → Front 𝓢.Set
  front_next (Action.input k) x f = record { before = f.before; held = appended x f.before f.held }
  front_next (Action.output k) y f =
      record { before = 𝓢.move f.before y; held = swept y (𝓢.move f.before y) f.held }

  -- The front after one more line of the run.
  abbrev pub front_with : Front 𝓢.Set → Line → Front 𝓢.Set
  front_with f l = front_next l.action l (closed l.stamp f.before f.held)

  -- The front of an empty run; while blind nothing is held.
  abbrev pub fresh_front : Front 𝓢.Set
  fresh_front = record { before = 𝓢.start; held = [] }

  abbrev pub no_front : Front 𝓢.Set
  no_front = record { before = 𝓢.none; held = [] }

  abbrev pub fresh_cuts : Cuts 𝓢.Set
  fresh_cuts = record { clock = fresh_clock; front = fresh_front }

  -- "0 clear, no explanation breaks; 1 suspect, some break and some don't; 2 certain, all break"
  abbrev pub verdict_of : Bool → Bool → Verdict
  verdict_of false unbroken = Verdict.clear
  verdict_of true true = Verdict.suspect
  verdict_of true false = Verdict.certain

  abbrev pub front_verdict : Front 𝓢.Set → Verdict
  front_verdict f =
      let s : 𝓢.Set = last_set f.before f.held in
      verdict_of (𝓢.some_broken s) (𝓢.some_unbroken s)

  abbrev pub cuts_verdict : Cuts 𝓢.Set → Verdict
  cuts_verdict c = cond c.clock.is_blind Verdict.blind (front_verdict c.front)

  abbrev pub cuts_open : Cuts 𝓢.Set → ℕ
  cuts_open c = length c.front.held

  abbrev pub cuts_with_line : Cuts 𝓢.Set → Line → Cuts 𝓢.Set
  cuts_with_line c l =
      by_time p c.clock l.stamp
      (record { clock = ticked c.clock l false; front = front_with fresh_front l })
      (record { clock = ticked c.clock l true; front = no_front })
      (record { clock = ticked c.clock l false; front = front_with c.front l })

  abbrev pub cuts_with_mark : Cuts 𝓢.Set → Mark → Cuts 𝓢.Set
  cuts_with_mark c g = record { clock = marked c.clock g; front = no_front }

  -- Refusals 3, 4, 5 and 6 of a line, in this order.
  abbrev pub cuts_line_refusal : Cuts 𝓢.Set → Line → ℕ
  cuts_line_refusal c l =
      first_of (given 3 (action_above l.action))
      (first_of (stamp_refusal c.clock l.stamp)
      (given 6 (not c.clock.is_blind && ltb most_open (cuts_open (cuts_with_line c l)))))

  abbrev pub cuts_refusal : Cuts 𝓢.Set → Call → ℕ
  cuts_refusal c (Call.line l) = cuts_line_refusal c l
  cuts_refusal c (Call.mark g) = mark_refusal c.clock g

  abbrev pub cuts_taken : Cuts 𝓢.Set → Call → Cuts 𝓢.Set
  cuts_taken c (Call.line l) = cuts_with_line c l
  cuts_taken c (Call.mark g) = cuts_with_mark c g

  -- One step: the session after a call.
  abbrev pub cuts_next : Cuts 𝓢.Set → Call → Cuts 𝓢.Set
  cuts_next c k = unless_refused (cuts_refusal c k) (cuts_taken c k) c

  abbrev pub told : Verdict → ℕ → Answer
  told v n = record { refusal = 0; verdict = verdict_number v; open_count = n }

  abbrev pub cuts_told : Cuts 𝓢.Set → Call → Answer
  cuts_told c (Call.line l) = told (cuts_verdict (cuts_with_line c l)) (cuts_open (cuts_with_line c l))
  cuts_told c (Call.mark g) = told (cuts_verdict c) 0

  -- and its answer.
  abbrev pub cuts_answer : Cuts 𝓢.Set → Call → Answer
  cuts_answer c k = unless_refused (cuts_refusal c k) (cuts_told c k) (refused (cuts_refusal c k))

  unfoldable pub cuts_after : Cuts 𝓢.Set → List Call → Cuts 𝓢.Set
  cuts_after c [] = c
  cuts_after c (k ∷ rest) = cuts_after (cuts_next c k) rest

-- The session over cuts and matched lengths that calls on a fresh one have made.
abbrev pub grown : (p : Property) → List Call → Cuts Lengths
grown p calls = cuts_after p (lengths p) (fresh_cuts p (lengths p)) calls
