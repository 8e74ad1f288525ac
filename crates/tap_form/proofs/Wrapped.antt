-- The wrapped difference, modulo 2 ^ 32.
use Rattle.std.proofs.Common.{◌≡◌, ℕ, ◌+◌, ◌^◌, ◌<◌, ◌≤◌, arith}
use Rattle.tap_form.specs.Tap.{counter_at, since}

pub counter_lt : (stamp : ℕ) → counter_at stamp < 2 ^ 32
counter_lt stamp = omega arith

-- Added to the stamp before it gives a stamp at which this counter stands,
pub since_back : (counter before : ℕ) → counter < 2 ^ 32 → counter_at (before + since counter before) ≡ counter
unfolding since
since_back counter before h = omega (arith, h)

-- the first one at or behind the stamp before,
pub since-lt : (counter before : ℕ) → since counter before < 2 ^ 32
unfolding since
since-lt counter before = omega arith

-- so that it "is right whenever true stamps of neighbours are less than 4,294,967,296 apart".
pub since_true : (stamp before : ℕ) → before ≤ stamp → stamp < before + 2 ^ 32 → before + since (counter_at stamp) before ≡ stamp
unfolding since
since_true stamp before l h = omega (arith, l, h)

-- "the first stamp is its counter"
pub since-first : (counter : ℕ) → counter < 2 ^ 32 → since counter 0 ≡ counter
unfolding since
since-first counter h = omega (arith, h)
