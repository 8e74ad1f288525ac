-- Lines of document 02, CR 6, byte for byte, by the definitions alone.
use mathlib.Core.Path.{◌≡◌, refl}
use mathlib.Core.List.{[], ◌∷◌, ◌++◌}
use lib.IntN.{pos, negsuc}
use Rattle.line_text.specs.Text.{digits, decimal}
use Rattle.printout.specs.Text.{word}
use Rattle.reason_text.specs.Reason.{signed, reached_text, placed_text, blind_text, stop_alone_text}

-- The reasons: `certain 3`, `2 90`, `1 -30`, `3 0`; `blind`; `stop 13`
pub reasons : reached_text 2 3 ++ placed_text 2 (pos 90) ++ placed_text 1 (negsuc 29) ++ placed_text 3 (pos 0)
    ≡ 99 ∷ 101 ∷ 114 ∷ 116 ∷ 97 ∷ 105 ∷ 110 ∷ 32 ∷ 51 ∷ 10 ∷ 50 ∷ 32 ∷ 57 ∷ 48 ∷ 10 ∷ 49 ∷ 32 ∷ 45 ∷ 51 ∷ 48 ∷ 10 ∷ 51 ∷ 32 ∷ 48 ∷ 10 ∷ []
unfolding reached_text placed_text signed decimal digits word
reasons = refl

pub blind_line : blind_text ≡ 98 ∷ 108 ∷ 105 ∷ 110 ∷ 100 ∷ 10 ∷ []
unfolding blind_text
blind_line = refl

pub stop_alone_line : stop_alone_text 13 ≡ 115 ∷ 116 ∷ 111 ∷ 112 ∷ 32 ∷ 49 ∷ 51 ∷ 10 ∷ []
unfolding stop_alone_text decimal digits
stop_alone_line = refl
