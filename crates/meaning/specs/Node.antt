-- Document 01, "What could have happened at the node".
use Rattle.std.specs.Prelude.{ℕ, suc, ◌+◌, ◌*◌, ◌≤◌, ◌≡◌, false, List, [], ◌∷◌, ◌++◌, map, length, ℤ, pos, ◌+ℤ◌, ◌-ℤ◌, ◌≤ℤ◌}
use Rattle.meaning.specs.Words.{Action, Property, Line, Run}

-- The inputs of a list of lines, and its outputs, in their order.
abbrev pub keep_input : Action → Line → List Line → List Line
keep_input (Action.input k) l rest = l ∷ rest
keep_input (Action.output k) l rest = rest

abbrev pub keep_output : Action → Line → List Line → List Line
keep_output (Action.input k) l rest = rest
keep_output (Action.output k) l rest = l ∷ rest

abbrev pub ins : List Line → List Line
ins [] = []
ins (l ∷ rest) = keep_input l.action l (ins rest)

abbrev pub outs : List Line → List Line
outs [] = []
outs (l ∷ rest) = keep_output l.action l (outs rest)

-- "an order of all its lines in which inputs keep their order and outputs keep theirs"
pub record Order (run order : List Line) : Type 0 where
  pub inputs_kept : ins order ≡ ins run
  pub outputs_kept : outs order ≡ outs run

-- "an input stamped t at a moment from t + LB to t + UB and an output stamped t from t − UB to t − LB"
abbrev pub Window : Property → Action → ℕ → ℤ → Type 0
Window p (Action.input k) t m = ((pos t +ℤ pos p.LB) ≤ℤ m) × (m ≤ℤ (pos t +ℤ pos p.UB))
Window p (Action.output k) t m = ((pos t -ℤ pos p.UB) ≤ℤ m) × (m ≤ℤ (pos t -ℤ pos p.LB))

-- Each line of an order has a moment in its window.
abbrev pub Given : Property → List Line → List ℤ → Type 0
Given p [] [] = Unit {0}
Given p [] (m ∷ ms) = ⊥
Given p (l ∷ rest) [] = ⊥
Given p (l ∷ rest) (m ∷ ms) = Window p l.action l.stamp m × Given p rest ms

-- "never falling along that order"
abbrev pub NeverFall : List ℤ → Type 0
NeverFall [] = Unit {0}
NeverFall (m ∷ []) = Unit {0}
NeverFall (m ∷ n ∷ ms) = (m ≤ℤ n) × NeverFall (n ∷ ms)

-- "such that whole-number moments (negative ones allowed) can be given to the lines, never falling along that order"
pub record Timed (p : Property) (order : List Line) : Type 0 where
  pub moments : List ℤ
  pub given : Given p order moments
  pub never_fall : NeverFall moments

-- "An explanation of a run is an order of all its lines .. such that .."
pub record Explanation (p : Property) (run order : List Line) : Type 0 where
  pub is_order : Order run order
  pub timed : Timed p order

-- "An input stamped a may stand before an output stamped b exactly if b − a ≥ 2·LB, and after it exactly if b − a ≤ 2·UB"
abbrev pub InputFirst : Property → ℕ → ℕ → Type 0
InputFirst p a b = a + 2 * p.LB ≤ b

abbrev pub OutputFirst : Property → ℕ → ℕ → Type 0
OutputFirst p a b = b ≤ a + 2 * p.UB

-- Line number k of a list, counted from 1.
pub record Numbered (lines : List Line) (k : ℕ) (l : Line) : Type 0 where
  pub before : List Line
  pub after : List Line
  pub stands : lines ≡ before ++ l ∷ after
  pub counted : suc (length before) ≡ k

-- "A cut after i inputs and q outputs is possible (some explanation has it)"
pub record Possible (p : Property) (run : Run) (i q : ℕ) : Type 0 where
  pub before : List Line
  pub after : List Line
  pub explains : Explanation p run (before ++ after)
  pub inputs : length (ins before) ≡ i
  pub outputs : length (outs before) ≡ q

-- "exactly if input i may stand before output q + 1 and output q before input i + 1, where those exist"
pub record CutRule (p : Property) (run : Run) (i q : ℕ) : Type 0 where
  pub input_first : (x y : Line) → Numbered (ins run) i x → Numbered (outs run) (suc q) y → InputFirst p x.stamp y.stamp
  pub output_first : (x y : Line) → Numbered (ins run) (suc i) x → Numbered (outs run) q y → OutputFirst p x.stamp y.stamp

-- The actions of a list of lines, in its order.
abbrev pub actions : List Line → List Action
actions lines = map (λ (l : Line). l.action) lines

-- Document 02, CR 1: "an order breaks the property if the sequence occurs as neighbours, then any number of inputs, none
-- included, then an output outside the set." Of these actions the first are the sequence, then these inputs, then such an output:
pub record Breach (p : Property) (between : List ℕ) (behind : List Action) : Type 0 where
  pub answer : ℕ
  pub after : List Action
  pub occurs : behind ≡ p.sequence ++ (map Action.input between ++ Action.output answer ∷ after)
  pub outside : p.allowed answer ≡ false

-- and the order breaks if what stands behind some place in it is such a breach.
pub record Breaks (p : Property) (order : List Line) : Type 0 where
  pub before : List Line
  pub behind : List Line
  pub stands : order ≡ before ++ behind
  pub between : List ℕ
  pub breach : Breach p between (actions behind)

-- "0 clear, no explanation breaks; 1 suspect, some break and some don't; 2 certain, all break; 3 blind, no run is open"
pub data Verdict : Type 0 where
  clear suspect certain blind : Verdict

abbrev pub verdict_number : Verdict → ℕ
verdict_number Verdict.clear = 0
verdict_number Verdict.suspect = 1
verdict_number Verdict.certain = 2
verdict_number Verdict.blind = 3

-- Some explanation of the run of which a thing holds.
pub record Some (p : Property) (run : Run) (Holds : List Line → Type 0) : Type 0 where
  pub order : List Line
  pub explains : Explanation p run order
  pub holds : Holds order

-- The verdict on a run, for breaches of a sort.
abbrev pub VerdictFor : (List Line → Type 0) → Property → Run → Verdict → Type 0
VerdictFor Breaking p run Verdict.clear = (order : List Line) → Explanation p run order → ¬ Breaking order
VerdictFor Breaking p run Verdict.suspect = Some p run Breaking × Some p run (λ order. ¬ Breaking order)
VerdictFor Breaking p run Verdict.certain = (order : List Line) → Explanation p run order → Breaking order
VerdictFor Breaking p run Verdict.blind = ⊥

-- The verdict on an open run.
abbrev pub IsVerdict : Property → Run → Verdict → Type 0
IsVerdict p run v = VerdictFor (Breaks p) p run v
