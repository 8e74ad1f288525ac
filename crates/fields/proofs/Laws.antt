-- Digits out and digits back: the laws of digits, of the bits of a field, of runs of bits and of the number that a run is, each for every width.
use Prim.Native.Nat.{ℕ, zero, suc, ◌+◌, ◌-◌, ◌*◌, ◌/◌, ◌%◌, ◌^◌, ◌≤◌, ◌<◌, zero-le, suc-le-suc}
use mathlib.Core.Path.{◌≡◌, refl, sym, ap, ap₂, ◌∙◌, subst}
use mathlib.Core.Logic.{◌⊎◌, inl, inr, ⊎_elim}
use mathlib.Core.List.{List, [], ◌∷◌, ◌++◌, append_assoc, append-nil}
use native.Mathlib.Nat.{mod-lt, pow-suc, pow-succ', div-div-eq-div-mul, mul_assoc, add_assoc, add-zero, add-suc, div-one, not-suc-le-zero, le_of_suc-le-suc, eq-or-lt_of_le}
use native.Mathlib.Numerals.{add-one}
use native.Mathlib.Omega.{arith}
use lib.Dec.{lit<}
use lib.Pow.{pow_mono}
use lib.ListN.{length, get_or, length-append, get_or-append}
use lib.Seq.{get_or-append-add, get_or_at}
use Rattle.fields.specs.Fields.{digit, bit, number, bits, run, at, Bits, field}

pub le-or-lt : (a b : ℕ) → (a ≤ b) ⊎ (b < a)
le-or-lt zero b = inl zero-le
le-or-lt (suc a) zero = inr (suc-le-suc zero-le)
le-or-lt (suc a) (suc b) = ⊎_elim (λ p. inl (suc-le-suc p)) (λ q. inr (suc-le-suc q)) (le-or-lt a b)

-- ---- digits

pub digit_lt : (v k : ℕ) → digit v k < 2
unfolding digit
digit_lt v k = mod-lt (v / 2 ^ k) (lit< tt)

pub bit-lt : (s : List ℕ) → Bits (bit s)
unfolding bit
bit-lt s i = digit_lt (get_or s (i / 8) 0) (7 - i % 8)

pub digit-zero : (v : ℕ) → digit v 0 ≡ v % 2
unfolding digit
digit-zero v = ap (λ (x : ℕ). x % 2) (div-one v)

pub digit-suc : (v k : ℕ) → digit v (suc k) ≡ digit (v / 2) k
unfolding digit
digit-suc v k =
    ap (λ (x : ℕ). v / x % 2) (pow-succ' 2 k) ∙ ap (λ (x : ℕ). x % 2) (sym (div-div-eq-div-mul v 2 (2 ^ k)))

-- ---- the bits of a field

pub length-bits : (k v : ℕ) → length (bits k v) ≡ k
unfolding bits
length-bits zero v = refl
length-bits (suc k) v = ap suc (length-bits k v)

pub get_d_bits : (k v m : ℕ) → m < k → get_or (bits k v) m 0 ≡ digit v (k - 1 - m)
unfolding bits
get_d_bits zero v m h = absurd (not-suc-le-zero h)
get_d_bits (suc k) v zero h = ap (digit v) (omega arith)
get_d_bits (suc k) v (suc m) h = get_d_bits k v m (le_of_suc-le-suc h) ∙ ap (digit v) (omega arith)

-- the last bit of a field is the number's last digit
pub bits_snoc : (k v : ℕ) → bits (suc k) v ≡ bits k (v / 2) ++ (v % 2 ∷ [])
unfolding bits
bits_snoc zero v = ap (λ (x : ℕ). x ∷ []) (digit-zero v)
bits_snoc (suc k) v = ap₂ (λ (x : ℕ) (l : List ℕ). x ∷ l) (digit-suc v k) (bits_snoc k v)

-- ---- runs of bits

pub length_run : (f : ℕ → ℕ) (i k : ℕ) → length (run f i k) ≡ k
unfolding run
length_run f i zero = refl
length_run f i (suc k) = length-append (run f i k) (f (i + k) ∷ []) ∙ omega (arith, length_run f i k)

pub getD_run : (f : ℕ → ℕ) (i k m : ℕ) → m < k → get_or (run f i k) m 0 ≡ f (i + m)
unfolding run
getD_run f i zero m h = absurd (not-suc-le-zero h)
getD_run f i (suc k) m h =
    ⊎_elim
    (λ e.
    get_or_at (run f i k) (f (i + k)) [] 0 m (length_run f i k ∙ sym e) ∙ ap (λ (x : ℕ). f (i + x)) (sym e))
    (λ l.
    get_or-append (run f i k) (f (i + k) ∷ []) 0 m (subst (λ (x : ℕ). m < x) (sym (length_run f i k)) l)
    ∙ getD_run f i k m l)
    (eq-or-lt_of_le (le_of_suc-le-suc h))

pub run-add : (f : ℕ → ℕ) (i j k : ℕ) → run f i (j + k) ≡ run f i j ++ run f (i + j) k
unfolding run
run-add f i j zero = ap (run f i) (add-zero j) ∙ sym (append-nil (run f i j))
run-add f i j (suc k) =
    ap (run f i) (add-suc j k)
    ∙ ap₂ (λ (l : List ℕ) (x : ℕ). l ++ (f x ∷ [])) (run-add f i j k) (omega arith)
    ∙ append_assoc (run f i j) (run f (i + j) k) (f (i + j + k) ∷ [])

pub run-same : (f g : ℕ → ℕ) (i j k : ℕ) → ((m : ℕ) → m < k → f (i + m) ≡ g (j + m)) → run f i k ≡ run g j k
unfolding run
run-same f g i j zero e = refl
run-same f g i j (suc k) e =
    ap₂ (λ (l : List ℕ) (x : ℕ). l ++ (x ∷ [])) (run-same f g i j k (λ m h. e m (omega arith))) (e k (omega arith))

-- ---- the number of a run

pub number_lt : (f : ℕ → ℕ) → Bits f → (i k : ℕ) → number f i k < 2 ^ k
unfolding number
number_lt f b i zero = lit< tt
number_lt f b i (suc k) = omega (arith, number_lt f b i k, b (i + k), pow-suc 2 k)

pub field_lt : (s : List ℕ) (i k : ℕ) → field s i k < 2 ^ k
field_lt s i k = number_lt (bit s) (bit-lt s) i k

pub is_field_lt : {n : ℕ} (s : List ℕ) (i k : ℕ) → n ≡ field s i k → n < 2 ^ k
is_field_lt s i k e = subst (λ (m : ℕ). m < 2 ^ k) (sym e) (field_lt s i k)

pub number-one_more : (f : ℕ → ℕ) (i k : ℕ) → 2 * number f i k + f (i + k) ≡ number f i (k + 1)
unfolding number
number-one_more f i k = sym (ap (number f i) (add-one k))

-- digits out: the bits of the field are the bits that it was read from
pub bits-number : (f : ℕ → ℕ) → Bits f → (i k : ℕ) → bits k (number f i k) ≡ run f i k
unfolding number run bits
bits-number f b i zero = refl
bits-number f b i (suc k) =
    bits_snoc k (2 * number f i k + f (i + k))
    ∙ ap₂ (λ (x y : ℕ). bits k x ++ (y ∷ [])) (omega (arith, b (i + k))) (omega (arith, b (i + k)))
    ∙ ap (λ (l : List ℕ). l ++ (f (i + k) ∷ [])) (bits-number f b i k)

pub digit-number : (f : ℕ → ℕ) → Bits f → (i k m : ℕ) → m < k → digit (number f i k) (k - 1 - m) ≡ f (i + m)
digit-number f b i k m h =
    sym (get_d_bits k (number f i k) m h)
    ∙ ap (λ (l : List ℕ). get_or l m 0) (bits-number f b i k)
    ∙ getD_run f i k m h

-- digits back: the number of the digits of v is v
pub number_digits : (f : ℕ → ℕ) (i k v : ℕ) → v < 2 ^ k → ((m : ℕ) → m < k → f (i + m) ≡ digit v (k - 1 - m)) → number f i k ≡ v
unfolding number
number_digits f i zero v h e = omega arith
number_digits f i (suc k) v h e =
    let back : number f i k ≡ v / 2 =
    number_digits f i k (v / 2) (omega (arith, pow-suc 2 k))
    (λ m l. e m (omega arith) ∙ ap (digit v) (omega arith) ∙ digit-suc v (k - 1 - m)) in
    let last : f (i + k) ≡ v % 2 = e k (omega arith) ∙ ap (digit v) (omega arith) ∙ digit-zero v in
    omega arith

-- one bit more still fits
pub number_fits : (f : ℕ → ℕ) → Bits f → (i k w : ℕ) → k < w → 2 * number f i k + 1 < 2 ^ w
number_fits f b i k w h = omega (arith, number_lt f b i k, pow-suc 2 k, pow_mono {i = suc k} {j = w} h)

pub number_same : (f g : ℕ → ℕ) (i j k : ℕ) → ((m : ℕ) → m < k → f (i + m) ≡ g (j + m)) → number f i k ≡ number g j k
unfolding number
number_same f g i j zero e = refl
number_same f g i j (suc k) e =
    ap₂ (λ (x y : ℕ). 2 * x + y) (number_same f g i j k (λ m h. e m (omega arith))) (e k (omega arith))

-- two fields side by side are one: the first, shifted past the second, and the second
pub number-add : (f : ℕ → ℕ) (i j k : ℕ) → number f i (j + k) ≡ number f i j * 2 ^ k + number f (i + j) k
unfolding number
number-add f i j zero = ap (number f i) (add-zero j) ∙ omega arith
number-add f i j (suc k) =
    ap (number f i) (add-suc j k)
    ∙ ap₂ (λ (x y : ℕ). 2 * x + f y) (number-add f i j k) (sym (add_assoc i j k))
    ∙ omega (arith, ap (λ (x : ℕ). number f i j * x) (pow-suc 2 k), mul_assoc (number f i j) (2 ^ k) 2)

-- a field of one bit is that bit
pub number-one : (f : ℕ → ℕ) (i : ℕ) → number f i 1 ≡ f i
unfolding number
number-one f i = omega (arith, ap f (add-zero i))

-- a field of zero bits is 0
pub number-zeros : (f : ℕ → ℕ) (i k : ℕ) → ((m : ℕ) → m < k → f (i + m) ≡ 0) → number f i k ≡ 0
unfolding number
number-zeros f i zero e = refl
number-zeros f i (suc k) e = omega (arith, number-zeros f i k (λ m h. e m (omega arith)), e k (omega arith))

-- a field that is 0 has zero bits
pub zero_number : (f : ℕ → ℕ) (i k : ℕ) → number f i k ≡ 0 → (m : ℕ) → m < k → f (i + m) ≡ 0
unfolding number
zero_number f i zero z m h = absurd (not-suc-le-zero h)
zero_number f i (suc k) z m h =
    ⊎_elim (λ e. ap (λ (x : ℕ). f (i + x)) e ∙ omega arith) (λ l. zero_number f i k (omega arith) m l)
    (eq-or-lt_of_le (le_of_suc-le-suc h))

-- a field put into a list of bits is read back from its place there
pub number_at : (l r : List ℕ) (k v : ℕ) → v < 2 ^ k → number (at (l ++ bits k v ++ r)) (length l) k ≡ v
number_at l r k v h =
    number_digits (at (l ++ bits k v ++ r)) (length l) k v h
    (λ m lt.
    ap (λ (x : List ℕ). get_or x (length l + m) 0) (append_assoc l (bits k v) r)
    ∙ get_or-append-add l (bits k v ++ r) m 0
    ∙ get_or-append (bits k v) r 0 m (subst (λ (x : ℕ). m < x) (sym (length-bits k v)) lt)
    ∙ get_d_bits k v m lt)
