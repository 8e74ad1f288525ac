-- The one map between the rows of a session and the front of the meaning. Open inputs have their stamps in row 0 and their actions' numbers
-- in row 1; the cuts of property j have their two words in rows 2 + 2j and 3 + 2j.
use Rattle.std.specs.Prelude.{ℕ, suc, ◌+◌, ◌*◌, ◌≤◌, ◌<◌, ◌≡◌, true, false, List, ◌∷◌, map, length}
use Rattle.laws.specs.Places.{first, padded}
use Rattle.meaning.specs.Words.{Action, action_number}
use Rattle.meaning.specs.Limits.{last_stamp}
use Rattle.meaning.specs.Numbers.{property_refusal}
use Rattle.meaning.specs.Matcher.{Lengths}
use Rattle.meaning.specs.Step.{Held, Front, lengths, swept_one}
use Rattle.property.specs.Meant.{action_of, meant}
use Rattle.property.specs.declared.Property.{Property}
use Rattle.matcher.specs.declared.Cut.{Cut}
use Rattle.matcher.specs.Sets.{set_of, cut_of, Fits, Moved}
use Rattle.rows.specs.declared.Span.{Span}
use Rattle.rows.specs.Rows.{word, with, Room}
use Rattle.held.specs.Held.{line_at}
use Rattle.cuts.specs.declared.Row.{Row}
use Rattle.cuts.specs.Steps.{line_of, front_then}

-- From the rows: what cut i of property j stores, and the rows with another cut there.
abbrev pub cut_at : List (List ℕ) → Span → ℕ → ℕ → Cut
cut_at rows s j i = record { mask = word rows s (2 + 2 * j) i; armed = word rows s (3 + 2 * j) i }

abbrev pub with_cut : List (List ℕ) → Span → ℕ → ℕ → Cut → List (List ℕ)
with_cut rows s j i c = with (with rows s (2 + 2 * j) i c.mask) s (3 + 2 * j) i c.armed

abbrev pub set_at : List (List ℕ) → Span → ℕ → ℕ → Lengths
set_at rows s j i = set_of (cut_at rows s j i)

-- Open input i, and the cut after it.
abbrev pub held_at : List (List ℕ) → Span → ℕ → ℕ → Held Lengths
held_at rows s j i = record { line = line_at rows s i; after = set_at rows s j (suc i) }

abbrev pub front_of : List (List ℕ) → Span → ℕ → Front Lengths
front_of rows s j = record { before = set_at rows s j 0; held = first (held_at rows s j) s.count }

-- The way back, for a record that a caller keeps. Places not in use are filled up with 0.
abbrev pub stored_held : Front Lengths → List ℕ
stored_held f = padded 65 0 (map (λ (h : Held Lengths). h.line.stamp) f.held)

abbrev pub stored_acts : Front Lengths → List ℕ
stored_acts f = padded 65 0 (map (λ (h : Held Lengths). action_number h.line.action) f.held)

-- The sets of a front's cuts, from the first to the last.
abbrev pub sets_of : Front Lengths → List Lengths
sets_of f = f.before ∷ map (λ (h : Held Lengths). h.after) f.held

abbrev pub stored_row : Front Lengths → Row
stored_row f =
    record {
      masks = padded 65 0 (map (λ (s : Lengths). (cut_of s).mask) (sets_of f));
      armed = padded 65 0 (map (λ (s : Lengths). (cut_of s).armed) (sets_of f));
    }

-- A line may go into these rows: a property that is taken, stamps and words in their ranges.
pub record Usable (p : Property) (rows : List (List ℕ)) (s : Span) (j : ℕ) : Type 0 where
  pub formed : property_refusal (meant p) ≡ 0
  pub room : Room rows s
  pub there : 3 + 2 * j < length rows
  pub stamps : (i : ℕ) → i < s.count → word rows s 0 i ≤ last_stamp
  pub fits : (i : ℕ) → i ≤ s.count → Fits p (cut_at rows s j i)

-- The rows hold a front, and the next line may go into them.
pub record Holds (p : Property) (f : Front Lengths) (rows : List (List ℕ)) (s : Span) (j : ℕ) : Type 0 where
  pub front : front_of rows s j ≡ f
  pub usable : Usable p rows s j

-- Rows other than those of property j are as they were.
abbrev pub Others : Span → ℕ → List (List ℕ) → List (List ℕ) → Type 0
Others s j before after = (k i : ℕ) → (k ≡ 2 + 2 * j → ⊥) → (k ≡ 3 + 2 * j → ⊥) → word after s k i ≡ word before s k i

-- What an output makes of one cut,
pub record SweptOne (p : Property) (action stamp held input : ℕ) (before after now : Cut) : Type 0 where
  pub set : set_of now
      ≡ swept_one (meant p) (lengths (meant p)) (line_of true action stamp) (set_of before) (record { line = line_of false input held; after = set_of after })
  pub fits : Fits p now

-- of the cuts of property j,
pub record Swept (p : Property) (s : Span) (j action stamp : ℕ) (before after : List (List ℕ)) : Type 0 where
  pub tall : length after ≡ length before
  pub others : Others s j before after
  pub holds : Holds p (front_then p (Action.output action) (line_of true action stamp) (front_of before s j)) after s j

-- and what an input does: one more cut, and the others as they were.
pub record Appended (p : Property) (s : Span) (j action : ℕ) (before after : List (List ℕ)) : Type 0 where
  pub tall : length after ≡ length before
  pub others : Others s j before after
  pub room : Room after s
  pub moved : Moved p (cut_at before s j s.count) (action_of false action) (cut_at after s j (suc s.count))
  pub kept : (i : ℕ) → i ≤ s.count → cut_at after s j i ≡ cut_at before s j i
