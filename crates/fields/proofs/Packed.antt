-- Lists of bits, packed bytes and forms: what was put is read back, and what is read is what was put, each for every length.
use Prim.Native.Nat.{ℕ, zero, suc, ◌+◌, ◌-◌, ◌*◌, ◌/◌, ◌%◌, ◌^◌, ◌≤◌, ◌<◌}
use mathlib.Core.Path.{◌≡◌, refl, sym, ap, ap₂, ◌∙◌, subst}
use mathlib.Core.Logic.{⊎_elim}
use mathlib.Core.List.{List, [], ◌∷◌, ◌++◌}
use native.Mathlib.Nat.{zero-add, not-suc-le-zero, le_of_suc-le-suc, eq-or-lt_of_le}
use native.Mathlib.Numerals.{add-one}
use native.Mathlib.Omega.{arith}
use lib.Dec.{lit<}
use lib.ListN.{length, get_or, take, drop, set, replicate, length-append, get_or-append, get_or-eq_default}
use lib.Seq.{paste, drop-cons, set_at, append_snoc, take-append_seam, take-length, drop-append-add, get_or_at, ext_get_or, get_or-take, length-take-le}
use Rattle.std.proofs.lemmas.List.Edits.{paste-paste as paste_then_paste}
use Rattle.fields.specs.Fields.{digit, bit, number, field, bits, run, at, packed, size, form, Bits}
use Rattle.fields.proofs.Laws.{le-or-lt, digit_lt, length-bits, length_run, getD_run, digit-number, number_digits, number_same, number-add, number_at}

-- ---- lists of bits

pub Bits-append : (l r : List ℕ) → Bits (at l) → Bits (at r) → Bits (at (l ++ r))
Bits-append [] r bl br i = br i
Bits-append (x ∷ l) r bl br zero = bl zero
Bits-append (x ∷ l) r bl br (suc i) = Bits-append l r (λ j. bl (suc j)) br i

pub Bits-bits : (k v : ℕ) → Bits (at (bits k v))
unfolding bits
Bits-bits zero v i = lit< tt
Bits-bits (suc k) v zero = digit_lt v k
Bits-bits (suc k) v (suc i) = Bits-bits k v i

pub Bits-run : (f : ℕ → ℕ) → Bits f → (i k : ℕ) → Bits (at (run f i k))
unfolding run
Bits-run f b i zero j = lit< tt
Bits-run f b i (suc k) j =
    Bits-append (run f i k) (f (i + k) ∷ []) (Bits-run f b i k) (Bits-one (f (i + k)) (b (i + k))) j
  where
    Bits-one : (x : ℕ) → x < 2 → Bits (at (x ∷ []))
    Bits-one x h zero = h
    Bits-one x h (suc j) = lit< tt

pub Bits-zeros : (n : ℕ) → Bits (at (replicate n 0))
Bits-zeros zero i = lit< tt
Bits-zeros (suc n) zero = lit< tt
Bits-zeros (suc n) (suc i) = Bits-zeros n i

-- zero bits behind a list change no bit
pub at-zeros : (l : List ℕ) (n i : ℕ) → at (l ++ replicate n 0) i ≡ at l i
at-zeros [] zero i = refl
at-zeros [] (suc n) zero = refl
at-zeros [] (suc n) (suc i) = at-zeros [] n i
at-zeros (x ∷ l) n zero = refl
at-zeros (x ∷ l) n (suc i) = at-zeros l n i

-- bits put right behind the list l, which z follows
pub paste-behind : (l z b : List ℕ) (i k : ℕ) → length l ≡ i → length b ≡ k → paste (l ++ z) i b k ≡ (l ++ b) ++ drop k z
paste-behind l z b i k ei ek =
    subst (λ (x : ℕ). paste (l ++ z) x b k ≡ (l ++ b) ++ drop k z) ei
    (subst (λ (x : ℕ). paste (l ++ z) (length l) b x ≡ (l ++ b) ++ drop x z) ek
    (ap₂ (λ (x y : List ℕ). x ++ y ++ drop (length l + length b) (l ++ z)) (take-append_seam l z) (take-length b)
    ∙ ap (λ (x : List ℕ). (l ++ b) ++ x) (drop-append-add l z (length b))))

-- bits put right behind bits that were put
pub paste-paste : (d a b : List ℕ) (i ka kb : ℕ) → length a ≡ ka → length b ≡ kb → i ≤ length d → paste (paste d i a ka) (i + ka) b kb ≡ paste d i (a ++ b) (ka + kb)
paste-paste d a b i ka kb ea eb h = paste_then_paste d i a b ka kb (sym ea) (sym eb) h

-- ---- packed bytes

pub length-packed : (f : ℕ → ℕ) (n : ℕ) → length (packed f n) ≡ n
unfolding packed
length-packed f zero = refl
length-packed f (suc n) =
    length-append (packed f n) (number f (8 * n) 8 ∷ []) ∙ omega (arith, length-packed f n)

pub getD_packed : (f : ℕ → ℕ) (n j : ℕ) → j < n → get_or (packed f n) j 0 ≡ number f (8 * j) 8
unfolding packed
getD_packed f zero j h = absurd (not-suc-le-zero h)
getD_packed f (suc n) j h =
    ⊎_elim
    (λ e.
    get_or_at (packed f n) (number f (8 * n) 8) [] 0 j (length-packed f n ∙ sym e)
    ∙ ap (λ (x : ℕ). number f (8 * x) 8) (sym e))
    (λ l.
    get_or-append (packed f n) (number f (8 * n) 8 ∷ []) 0 j
    (subst (λ (x : ℕ). j < x) (sym (length-packed f n)) l)
    ∙ getD_packed f n j l)
    (eq-or-lt_of_le (le_of_suc-le-suc h))

pub packed-same : (f g : ℕ → ℕ) (n : ℕ) → ((i : ℕ) → i < 8 * n → f i ≡ g i) → packed f n ≡ packed g n
unfolding packed
packed-same f g zero e = refl
packed-same f g (suc n) e =
    ap₂ (λ (l : List ℕ) (x : ℕ). l ++ (x ∷ [])) (packed-same f g n (λ i h. e i (omega arith)))
    (number_same f g (8 * n) (8 * n) 8 (λ m h. e (8 * n + m) (omega arith)))

-- a turn of the loop that packs: its store takes n packed bytes to n + 1
pub packed_store : (f : ℕ → ℕ) (d : List ℕ) (n : ℕ) → n < length d → set (packed f n ++ drop n d) n (number f (8 * n) 8) ≡ packed f (n + 1) ++ drop (n + 1) d
unfolding packed
packed_store f d n h =
    ap (λ (l : List ℕ). set (packed f n ++ l) n (number f (8 * n) 8)) (drop-cons d n 0 h)
    ∙ set_at (packed f n) (get_or d n 0) (drop (suc n) d) (number f (8 * n) 8) n (length-packed f n)
    ∙ sym (append_snoc (packed f n) (number f (8 * n) 8) (drop (suc n) d))
    ∙ ap (λ (x : ℕ). packed f x ++ drop x d) (sym (add-one n))

-- bits out: the bits of packed bytes
pub bit-packed : (f : ℕ → ℕ) → Bits f → (n i : ℕ) → i < 8 * n → bit (packed f n) i ≡ f i
unfolding bit
bit-packed f b n i h =
    ap (λ (x : ℕ). digit x (7 - i % 8)) (getD_packed f n (i / 8) (omega arith))
    ∙ ap (digit (number f (8 * (i / 8)) 8)) (omega arith)
    ∙ digit-number f b (8 * (i / 8)) 8 (i % 8) (omega arith)
    ∙ ap f (omega arith)

-- what follows the bytes does not change their bits
pub bit-append : (s t : List ℕ) (i : ℕ) → i < 8 * length s → bit (s ++ t) i ≡ bit s i
unfolding bit
bit-append s t i h =
    ap (λ (x : ℕ). digit x (7 - i % 8)) (get_or-append s t 0 (i / 8) (omega arith))

pub field-append : (s t : List ℕ) (i k : ℕ) → i + k ≤ 8 * length s → field (s ++ t) i k ≡ field s i k
field-append s t i k h = number_same (bit (s ++ t)) (bit s) i i k (λ m l. bit-append s t (i + m) (omega arith))

-- the field of a byte's eight bits is the byte
pub field_byte : (s : List ℕ) (j : ℕ) → get_or s j 0 < 256 → field s (8 * j) 8 ≡ get_or s j 0
unfolding bit
field_byte s j b =
    number_digits (bit s) (8 * j) 8 (get_or s j 0) b
    (λ m lm.
    ap₂ (λ (x y : ℕ). digit (get_or s x 0) y) (omega arith) (omega arith))

-- a field that begins with a whole byte is that byte, shifted past the bits behind it, and their field
pub field_byte_first : (s : List ℕ) (j k : ℕ) → get_or s j 0 < 256 → field s (8 * j) (8 + k) ≡ get_or s j 0 * 2 ^ k + field s (8 * j + 8) k
field_byte_first s j k b =
    number-add (bit s) (8 * j) 8 k ∙ ap (λ (x : ℕ). x * 2 ^ k + field s (8 * j + 8) k) (field_byte s j b)

-- bytes back: bytes are the packing of their bits
pub packed-bits : (s : List ℕ) (n : ℕ) → n ≤ length s → ((i : ℕ) → get_or s i 0 < 256) → packed (bit s) n ≡ take n s
packed-bits s n h b =
    ext_get_or 0 (packed (bit s) n) (take n s) (length-packed (bit s) n ∙ sym (length-take-le n s h))
    (λ i l.
    let lt : i < n = subst (λ (x : ℕ). i < x) (length-packed (bit s) n) l in
    getD_packed (bit s) n i lt ∙ field_byte s i (b i) ∙ sym (get_or-take n s i 0 lt))

-- ---- forms

pub length-form : (l : List ℕ) → length (form l) ≡ size (length l)
unfolding form
length-form l = length-packed (at l) (size (length l))

-- a list of bits packed with zero bits behind it is its form
pub packed-zeros : (l : List ℕ) (n : ℕ) → packed (at (l ++ replicate n 0)) (size (length l)) ≡ form l
unfolding form
packed-zeros l n = packed-same (at (l ++ replicate n 0)) (at l) (size (length l)) (λ i h. at-zeros l n i)

-- the bits of a form, whatever follows it
pub bit-form : (l rest : List ℕ) → Bits (at l) → (i : ℕ) → i < 8 * size (length l) → bit (form l ++ rest) i ≡ at l i
unfolding form
bit-form l rest b i h =
    bit-append (form l) rest i (omega (arith, length-form l)) ∙ bit-packed (at l) b (size (length l)) i h

-- out: a field of a form holds what was put there, whatever follows the form
pub field_of_form : (l a : List ℕ) (i k v : ℕ) (r rest : List ℕ) → l ≡ a ++ bits k v ++ r → length a ≡ i → Bits (at l) → v < 2 ^ k → field (form l ++ rest) i k ≡ v
field_of_form l a i k v r rest e ei b h =
    number_same (bit (form l ++ rest)) (at l) i i k (λ m lt. bit-form l rest b (i + m) (omega (arith, long, lt)))
    ∙ ap₂ (λ (x : List ℕ) (y : ℕ). number (at x) y k) e (sym ei)
    ∙ number_at a r k v h
  where
    long : length l ≡ i + k + length r
    long =
        ap length e
        ∙ length-append (a ++ bits k v) r
        ∙ ap (λ (x : ℕ). x + length r) (length-append a (bits k v) ∙ ap₂ (λ (x y : ℕ). x + y) ei (length-bits k v))

-- back: bytes whose bits from bit n to a full byte are zero are the form of their first n bits
pub form-run : (s : List ℕ) (n : ℕ) → size n ≤ length s → ((i : ℕ) → get_or s i 0 < 256)
    → ((i : ℕ) → n ≤ i → i < 8 * size n → bit s i ≡ 0) → form (run (bit s) 0 n) ≡ take (size n) s
unfolding form
form-run s n h b pad =
    ap (λ (x : ℕ). packed (at (run (bit s) 0 n)) (size x)) (length_run (bit s) 0 n)
    ∙ packed-same (at (run (bit s) 0 n)) (bit s) (size n) same
    ∙ packed-bits s (size n) h b
  where
    same : (i : ℕ) → i < 8 * size n → at (run (bit s) 0 n) i ≡ bit s i
    same i l = ⊎_elim
        (λ (le : n ≤ i). get_or-eq_default (run (bit s) 0 n) 0 (omega (arith, length_run (bit s) 0 n)) ∙ sym (pad i le l))
        (λ (lt : i < n). getD_run (bit s) 0 n i lt ∙ ap (bit s) (zero-add i))
        (le-or-lt n i)
