-- `matcher::arranged` meets its contract: the whole match is taken from the one word and put into the other.
use Prim.Native.Nat.{ℕ, suc, ◌*◌, ◌+◌, ◌-◌, ◌≤◌, ◌<◌, ◌%◌, ◌^◌}
use mathlib.Core.Path.{◌≡◌, refl, sym, subst, ◌∙◌}
use mathlib.Core.Bool.{Bool, true, false, cond}
use native.Mathlib.Omega.{arith}
use lib.Bits.{bit_and, bit_or, or_lt}
use mir.Val.{bool_byte}
use Rattle.matcher.specs.Sets.{Arranged}
use Rattle.matcher.proofs.Moves.{ones_pos, kept_is}
use Rattle.matcher.proofs.Words.{arranged_words, put_lt, few-lengths}
use Rattle.matcher.proofs.arranged.Goals as goal

byte_is : (b : Bool) → bool_byte b ≡ cond b 1 0
byte_is true = refl
byte_is false = refl

-- Whatever lengths stand beside those that stay armed, the word has room for them and for broken: what must fail does so in `returns`.
module _ (n x still : ℕ) (few : n ≤ 32) (f : x < 2 ^ suc n) (s : still < 2 ^ suc n) where
  room : bit_or x still * 2 < 2 ^ 64
  room = omega (arith, few-lengths n few, or_lt (suc n) x still f s)

  room_for : (b : ℕ) → b < 2 → bit_or x still * 2 + b < 2 ^ 64
  room_for b h = omega (arith, few-lengths n few, or_lt (suc n) x still f s)

pub overflow_sub-low : goal.overflow_sub-low
overflow_sub-low c = ones_pos c.args.n c.requires.0

pub overflow_mul-result : goal.overflow_mul-result
overflow_mul-result c = record { fits = room c.args.n _ c.args.still c.requires.0 (omega arith) c.requires.2 }

pub overflow_add-result : goal.overflow_add-result
overflow_add-result c =
    record { fits = room_for c.args.n _ c.args.still c.requires.0 (omega arith) c.requires.2 _ (omega (arith, put_lt c.args.broken, c.from.ensures ∙ byte_is c.args.broken)) }

pub returns : goal.returns
returns c =
    let a = c.args in
    let pre = c.requires in
    let broken : ℕ = cond a.broken 1 0 in
    let low : ℕ = bit_and a.free ((1 * 2 ^ a.n) % 2 ^ 64 - 1) in
    subst (λ (b : ℕ). Arranged a.n a.free a.still broken (record { mask = low; armed = bit_or (a.free - low) a.still * 2 + b })) (sym (c.from.ensures ∙ byte_is a.broken))
    (subst (λ (m : ℕ). Arranged a.n a.free a.still broken (record { mask = m; armed = bit_or (a.free - m) a.still * 2 + broken }))
    (sym (kept_is a.free a.n pre.0))
    (arranged_words a.n a.free a.still broken pre.1 pre.2 (put_lt a.broken)))
