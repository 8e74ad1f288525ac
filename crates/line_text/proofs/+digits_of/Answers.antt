-- `line_text::digits_of` meets its contract: below ten the digit alone, else the digits of its tenth and its last.
use Rattle.std.proofs.Common.{arith}
use Rattle.line_text.proofs.Digits.{decimal_small, decimal_more, length-decimal, length_more}
use Rattle.line_text.proofs.+digits_of.Goals as goal

pub returns-then-v-lt10 : goal.returns-then-v-lt10
returns-then-v-lt10 t c = rw (decimal_small c.args.v c.if-v-lt10.true) (cc)

pub put-requires-2 : goal.put-requires-2
put-requires-2 t c =
    rw c.digits_of.ensures (omega (arith, length_more c.args.v c.if-v-lt10.false c.ranges.v.fits, length-decimal c.args.v))

pub returns : goal.returns
returns t c = rw (decimal_more c.args.v c.if-v-lt10.false c.ranges.v.fits) (cc)
