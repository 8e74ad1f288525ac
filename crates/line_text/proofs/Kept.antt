-- A word that is put behind a text leaves zeros behind both.
use Rattle.std.proofs.Common.{ℕ, ◌+◌, ◌-◌, ◌≤◌, ◌≡◌, refl, List, ◌++◌, length, take, drop, replicate, sym, ap, ◌∙◌, arith, length-append, append_assoc}
use Rattle.std.proofs.lemmas.List.{length-take, drop-replicate, drop_at}
use Rattle.std.proofs.lemmas.Slice.{take-put_mid}
use borrow.Rule.Slice.PartMut.{put_mid}
use Rattle.line_text.specs.Kept.{kept, Keeps}

module _ (room len : ℕ) (bytes w : List ℕ) (h : Keeps room bytes len) (fits : len + length w ≤ room) where
  abbrev after : List ℕ
  after = put_mid len (len + length w - len) bytes w

  pub text_after : take (len + length w) after ≡ take len bytes ++ w
  text_after = take-put_mid len (len + length w - len) bytes w (len + length w) refl (omega (arith, h.text, length-take len bytes))

  -- the zeros behind the text, and those that the word leaves
  behind : drop len bytes ≡ replicate (room - len) 0
  behind =
      ap (drop len) (sym h.zeros)
      ∙ drop_at (take len bytes) (replicate (room - length (take len bytes)) 0) len h.text
      ∙ ap (λ (n : ℕ). replicate (room - n) 0) h.text

  left : drop (len + length w - len) (drop len bytes) ≡ replicate (room - length (take len bytes ++ w)) 0
  left =
      let rest : room - len - (len + length w - len) ≡ room - length (take len bytes ++ w) = omega (arith, h.text, length-append (take len bytes) w) in
      rw (behind, drop-replicate, rest)

  pub keeps_after : Keeps room after (len + length w)
  keeps_after =
      record {
        within = fits;
        text = ap length text_after ∙ omega (arith, h.text, length-append (take len bytes) w);
        zeros = ap (kept room) text_after ∙ append_assoc (take len bytes) w _ ∙ ap (λ (l : List ℕ). take len bytes ++ (w ++ l)) (sym left);
      }

-- The text determines its room, byte by byte, and its number of bytes.
pub kept_once : (room : ℕ) (bytes bytes' : List ℕ) (len len' : ℕ) → Keeps room bytes len → Keeps room bytes' len' → take len bytes ≡ take len' bytes'
    → (bytes ≡ bytes') × (len ≡ len')
kept_once room bytes bytes' len len' h h' e =
    (sym h.zeros ∙ ap (kept room) e ∙ h'.zeros, sym h.text ∙ ap length e ∙ h'.text)
