-- A trace across the counter's return to 0, by the definitions alone: the records of `crates/tap_listing`.
use Rattle.std.proofs.Common.{◌≡◌, ℕ, List, [], ◌∷◌, refl, subst, lit≤}
use Rattle.fields.specs.Fields.{digit, number, bits, packed, form}
use Rattle.trace_form.specs.Trace.{Entry}
use Rattle.tap_form.specs.Tap.{tap_form}
use Rattle.tap_form.specs.Card.{card_form, CardCanSay, TapTakenAs}
use Rattle.tap_form.proofs.Card.{card_reads_back}

abbrev lines : List Entry
lines = Entry.input 0 4_294_967_250 ∷ Entry.output 2 4_294_967_270 ∷ Entry.output 2 4_294_967_311 ∷ Entry.gap 63 4_294_967_411 ∷ []

abbrev line-bytes : List ℕ
line-bytes =
    0x00 ∷ 0xFF ∷ 0xFF ∷ 0xFF ∷ 0xD2
    ∷ 0x42 ∷ 0xFF ∷ 0xFF ∷ 0xFF ∷ 0xE6
    ∷ 0x42 ∷ 0x00 ∷ 0x00 ∷ 0x00 ∷ 0x0F
    ∷ 0x80 ∷ 0x00 ∷ 0x00 ∷ 0x00 ∷ 0x73
    ∷ 0xC0 ∷ 0x00 ∷ 0x00 ∷ 0x00 ∷ 0x00 ∷ []

pub lines-sent : card_form lines ≡ line-bytes
unfolding card_form tap_form form packed number bits digit
lines-sent = refl

can_say : CardCanSay 0 lines
can_say =
    (lit≤ tt, lit≤ tt, lit≤ tt, lit≤ tt, (lit≤ tt, lit≤ tt, lit≤ tt, lit≤ tt, (lit≤ tt, lit≤ tt, lit≤ tt, lit≤ tt, (lit≤ tt, lit≤ tt, lit≤ tt, refl, tt))))

pub lines-read : TapTakenAs line-bytes 0 lines
lines-read = subst (λ (s : List ℕ). TapTakenAs s 0 lines) lines-sent (card_reads_back 0 lines (lit≤ tt) can_say)
