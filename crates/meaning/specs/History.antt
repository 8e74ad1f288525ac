-- Demand 3's words: a full history, lost lines counted.
use Rattle.std.specs.Prelude.{ℕ, ◌+◌, ◌*◌, ◌≤◌, max, ◌≡◌, ◌⊎◌, List, [], ◌∷◌, ◌++◌, length}
use Rattle.meaning.specs.Words.{Action, Property, Line, StampsFrom}
use Rattle.meaning.specs.Node.{ins, outs, actions, Breach}
use Rattle.meaning.specs.Calls.{Mark, Call}

-- A full history is what the proxy saw, in the order of its log: lines that reached the watcher, lines that were lost, gap marks.
pub data Event : Type 0 where
  line : Line → Event
  lost : Line → Event
  mark : Mark → Event

-- What the watcher is fed.
unfoldable pub fed : List Event → List Call
fed [] = []
fed (Event.line l ∷ h) = Call.line l ∷ fed h
fed (Event.lost l ∷ h) = fed h
fed (Event.mark g ∷ h) = Call.mark g ∷ fed h

-- The lines of the full history, lost lines counted.
unfoldable pub all_lines : List Event → List Line
all_lines [] = []
all_lines (Event.line l ∷ h) = l ∷ all_lines h
all_lines (Event.lost l ∷ h) = l ∷ all_lines h
all_lines (Event.mark g ∷ h) = all_lines h

-- "every lost line came, also at an equal stamp, after the last line taken before its gap mark, and is stamped .. no later than the mark".
-- Its mark stands behind it in the log, and no line is taken between the two; other marks may stand between them:
unfoldable pub MarkedBehind : Line → List Event → Type 0
MarkedBehind l [] = ⊥
MarkedBehind l (Event.line k ∷ h) = ⊥
MarkedBehind l (Event.lost k ∷ h) = MarkedBehind l h
MarkedBehind l (Event.mark g ∷ h) = (l.stamp ≤ g.stamp) ⊎ MarkedBehind l h

-- or it is one of these marks, which stand before it in the log, as does then every line taken before the mark:
unfoldable pub MarkedBefore : Line → List Mark → Type 0
MarkedBefore l [] = ⊥
MarkedBefore l (g ∷ marks) = (l.stamp ≤ g.stamp) ⊎ MarkedBefore l marks

-- Every lost line among these events has its mark; `marks` stand before the events.
unfoldable pub LostMarked : List Mark → List Event → Type 0
LostMarked marks [] = Unit {0}
LostMarked marks (Event.line l ∷ h) = LostMarked marks h
LostMarked marks (Event.lost l ∷ h) = (MarkedBefore l marks ⊎ MarkedBehind l h) × LostMarked marks h
LostMarked marks (Event.mark g ∷ h) = LostMarked (g ∷ marks) h

-- The premises of demand 3. "stamped no earlier than that line" and "stamps never fall over the full history" are one: the
-- stamps of lines never fall, lost lines counted. A line lost between two marks may be stamped below the first mark.
pub record Premises (h : List Event) : Type 0 where
  pub lost_marked : LostMarked [] h
  pub never_fall : StampsFrom 0 (all_lines h)

-- The highest stamp of "everything taken or marked", and of h.
abbrev pub stamp_of : Call → ℕ
stamp_of (Call.line l) = l.stamp
stamp_of (Call.mark g) = g.stamp

unfoldable pub highest : ℕ → List Call → ℕ
highest h [] = h
highest h (c ∷ rest) = highest (max h (stamp_of c)) rest

-- No line comes "more than twice the upper bound after everything taken or marked"; h is the highest stamp so far.
unfoldable pub Quiet : Property → ℕ → List Call → Type 0
Quiet p h [] = Unit {0}
Quiet p h (Call.line l ∷ rest) = (l.stamp ≤ h + 2 * p.UB) × Quiet p (max h l.stamp) rest
Quiet p h (Call.mark g ∷ rest) = Quiet p (max h g.stamp) rest

-- No gap mark among these.
unfoldable pub NoMark : List Call → Type 0
NoMark [] = Unit {0}
NoMark (Call.line l ∷ rest) = NoMark rest
NoMark (Call.mark g ∷ rest) = ⊥

-- Inputs keep their order and outputs keep theirs, so the line that stands behind `before` in an order is known by its
-- count in its channel. It was logged after `earlier`:
abbrev pub LoggedAfter : List Line → List Line → Action → Type 0
LoggedAfter earlier before (Action.input k) = length (ins earlier) ≤ length (ins before)
LoggedAfter earlier before (Action.output k) = length (outs earlier) ≤ length (outs before)

-- A breach "whose sequence begins, at the node, with that first line or with one logged after it", where `earlier` is
-- everything logged before that first line.
pub record BreaksAfter (p : Property) (earlier : List Line) (order : List Line) : Type 0 where
  pub before : List Line
  pub first : Line
  pub behind : List Line
  pub stands : order ≡ before ++ first ∷ behind
  pub begins : LoggedAfter earlier before first.action
  pub between : List ℕ
  pub breach : Breach p between (actions (first ∷ behind))
