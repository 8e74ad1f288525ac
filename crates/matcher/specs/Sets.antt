-- What a cut stores: a set of what the matcher may remember there, in two words. Crates above know it by these names and
-- their laws alone (`proofs/Words.antt`).
use Rattle.std.specs.Prelude.{ℕ, zero, suc, ◌^◌, ◌<◌, ◌≡◌, Bool, true, false, cond, not, ◌&&◌, ◌||◌, length, eqb, leb}
use Rattle.laws.specs.Bits.{bit, mask_to}
use Rattle.meaning.specs.Words.{Action}
use Rattle.meaning.specs.Words
use Rattle.meaning.specs.Node.{Verdict}
use Rattle.meaning.specs.Matcher.{Lengths, some_to, some_length, moved, either}
use Rattle.meaning.specs.Step.{lengths, verdict_of}
use Rattle.property.specs.Meant.{meant}
use Rattle.property.specs.declared.Property.{Property}
use Rattle.matcher.specs.declared.Cut.{Cut}

-- The set that two words stand for: bit k of the mask is set where length k is in it, not armed; bit k + 1 of the other word where
-- length k is in it, armed; bit 0 of the other word where broken is.
unfoldable pub set_of : Cut → Lengths
set_of c = record { at = λ armed k. cond armed (bit c.armed (suc k)) (bit c.mask k); with_broken = bit c.armed 0 }

-- The way back.
abbrev pub armed_bits : Lengths → ℕ → Bool
armed_bits s zero = s.with_broken
armed_bits s (suc k) = s.at true k

unfoldable pub cut_of : Lengths → Cut
cut_of s = record { mask = mask_to 64 (s.at false); armed = mask_to 64 (armed_bits s) }

-- "a matched length above the sequence's", of n actions, in the one word or the other.
unfoldable pub stray : ℕ → Cut → Bool
stray n c = leb (2 ^ suc n) c.mask || leb (2 ^ suc (suc n)) c.armed

-- The words are those of a set for a property.
abbrev pub Fits : Property → Cut → Type 0
Fits p c = stray p.n c ≡ false

-- The verdict, where the set is that of every explanation.
abbrev pub set_verdict : Property → Lengths → Verdict
set_verdict p s = verdict_of (meant p) (lengths (meant p)) s.with_broken (some_length (meant p) s)

-- A set for a property has no length above the sequence's.
pub record Short (p : Words.Property) (s : Lengths) : Type 0 where
  pub none_above : (armed : Bool) (k : ℕ) → length p.sequence < k → s.at armed k ≡ false

-- Where a set of lengths up to n goes, if length k goes to f k.
abbrev pub stepped : ℕ → (ℕ → ℕ) → (ℕ → Bool) → ℕ → Bool
stepped n f s j = some_to n (λ k. s k && eqb (f k) j)

-- Behind an action, lengths that were not armed or are so no more, and lengths that stay armed: a whole match is armed too.
abbrev pub arranged : ℕ → (ℕ → Bool) → (ℕ → Bool) → Bool → Lengths
arranged n free still broken =
    record { at = λ armed j. cond armed ((free j && eqb j n) || still j) (free j && not (eqb j n)); with_broken = broken }

-- The same in words.
pub record Arranged (n free still broken : ℕ) (c : Cut) : Type 0 where
  pub set : set_of c ≡ arranged n (bit free) (bit still) (bit broken 0)
  pub low_mask : c.mask < 2 ^ suc n
  pub low_armed : c.armed < 2 ^ suc (suc n)

-- What an action leads to, and two sets joined: the meaning's, in words of the same property.
pub record Moved (p : Property) (before : Cut) (action : Action) (after : Cut) : Type 0 where
  pub set : (t : ℕ) → set_of after ≡ moved (meant p) (set_of before) (record { action = action; stamp = t })
  pub fits : Fits p after

pub record Joined (a b after : Cut) : Type 0 where
  pub set : set_of after ≡ either (set_of a) (set_of b)
  pub fits : (p : Property) → Fits p a → Fits p b → Fits p after
