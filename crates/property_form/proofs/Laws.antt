-- Laws of the parts of the packed property: places, masks, and the bits of sequences.
use Prim.Native.Nat.{ℕ, zero, suc, ◌+◌, ◌-◌, ◌*◌, ◌/◌, ◌%◌, ◌^◌, ◌≤◌, ◌<◌}
use mathlib.Core.Path.{◌≡◌, refl, sym, ap, ap₂, ◌∙◌}
use mathlib.Core.Logic.{⊎_elim}
use mathlib.Core.Bool.{Bool, true, false}
use mathlib.Core.List.{List, [], ◌∷◌, ◌++◌, append_assoc, append-nil}
use native.Mathlib.Nat.{pow-suc, pow-succ', add-zero, add-suc, suc-add, mul-one, mul_left_comm, not-suc-le-zero, le_of_suc-le-suc}
use native.Mathlib.Numerals.{add-one}
use native.Mathlib.Omega.{arith}
use lib.ListN.{length, get_or, set, replicate, length-append, length-replicate, get_or-append}
use lib.Seq.{set_at, append_snoc, paste, ext_get_or, get_or-append-add}
use Rattle.std.specs.Int.{reverse_bits, reverse_bits_onto}
use Rattle.std.proofs.Common.{w64}
use Rattle.meaning.specs.Words.{Action}
use Rattle.laws.specs.Places.{first}
use Rattle.property.specs.Meant.{action_of}
use Rattle.laws.proofs.Places.{length-first, first_snoc, first-add, getD_first}
use Rattle.laws.proofs.Filled.{getD_repeat}
use Rattle.fields.specs.Fields.{digit, number, bits, run, Bits}
use Rattle.fields.proofs.Laws.{le-or-lt, digit_lt, digit-zero, digit-suc, length-bits, number-one, number_same, number-add, bits-number}
use Rattle.fields.proofs.Packed.{paste-paste}
use Rattle.property_form.specs.Form.{flag, action_bits, sequence_bits}
use Rattle.property_form.specs.Read.{places, mask}

-- a turn of a loop that fills the places
pub places_store : {A : Type 0} (f : ℕ → A) (d : A) (i : ℕ) → i < 32 → set (places f i d) i (f i) ≡ places f (i + 1) d
places_store f d i h =
    let e : 32 - i ≡ suc (32 - suc i) = omega arith in
    ap (λ k. set (first f i ++ replicate k d) i (f i)) e
    ∙ set_at (first f i) d (replicate (32 - suc i) d) (f i) i (length-first f i)
    ∙ sym (append_snoc (first f i) (f i) (replicate (32 - suc i) d))
    ∙ ap (λ l. l ++ replicate (32 - suc i) d) (sym (first_snoc f i))
    ∙ ap (λ k. places f k d) (sym (add-one i))

-- ---- masks

-- a field of k bits, taken from its last bit on, is the mask of its bits
field-reversed : (f : ℕ → ℕ) → Bits f → (i k a : ℕ) → reverse_bits_onto k (number f i k) a ≡ a * 2 ^ k + mask f i k
unfolding reverse_bits_onto mask number
field-reversed f b i zero a = omega arith
field-reversed f b i (suc k) a =
    let half : (2 * number f i k + f (i + k)) / 2 ≡ number f i k = omega (arith, b (i + k)) in
    let low : (2 * number f i k + f (i + k)) % 2 ≡ f (i + k) = omega (arith, b (i + k)) in
    ap₂ (λ (x y : ℕ). reverse_bits_onto k x (a * 2 + y)) half low
    ∙ field-reversed f b i k (a * 2 + f (i + k))
    ∙ omega (arith, ap (λ (p : ℕ). a * p) (pow-suc 2 k))

pub reversed-mask : (f : ℕ → ℕ) → Bits f → (i : ℕ) → reverse_bits w64 (number f i 64) ≡ mask f i 64
reversed-mask f b i = field-reversed f b i 64 0 ∙ omega arith

-- a number, taken from its last bit on, is the field of its digits from the first on
number-none : (f : ℕ → ℕ) (i : ℕ) → number f i zero ≡ 0
unfolding number
number-none f i = refl

digits-reversed : (k n a : ℕ) → reverse_bits_onto k n a ≡ a * 2 ^ k + number (digit n) 0 k
unfolding reverse_bits_onto
digits-reversed zero n a = omega (arith, number-none (digit n) 0)
digits-reversed (suc k) n a =
    let rest : number (digit n) (0 + 1) k ≡ number (digit (n / 2)) 0 k =
    number_same (digit n) (digit (n / 2)) (0 + 1) 0 k (λ m h. ap (digit n) (omega arith) ∙ digit-suc n m ∙ ap (digit (n / 2)) (omega arith)) in
    let one : number (digit n) 0 1 ≡ n % 2 = number-one (digit n) 0 ∙ digit-zero n in
    let all : number (digit n) 0 (suc k) ≡ n % 2 * 2 ^ k + number (digit (n / 2)) 0 k =
    ap (number (digit n) 0) (omega arith) ∙ number-add (digit n) 0 1 k ∙ ap₂ (λ (x y : ℕ). x * 2 ^ k + y) one rest in
    digits-reversed k (n / 2) (a * 2 + n % 2) ∙ omega (arith, all, ap (λ (p : ℕ). a * p) (pow-suc 2 k))

pub reversed-bits : (m : ℕ) → bits 64 (reverse_bits w64 m) ≡ run (digit m) 0 64
reversed-bits m = ap (bits 64) (digits-reversed 64 m 0 ∙ omega arith) ∙ bits-number (digit m) (digit_lt m) 0 64

-- ---- the bits of a sequence

pub length-action : (a : Action) → length (action_bits a) ≡ 7
unfolding action_bits
length-action (Action.input k) = length-append (bits 1 0) (bits 6 k) ∙ ap₂ (λ (x y : ℕ). x + y) (length-bits 1 0) (length-bits 6 k)
length-action (Action.output k) = length-append (bits 1 1) (bits 6 k) ∙ ap₂ (λ (x y : ℕ). x + y) (length-bits 1 1) (length-bits 6 k)

pub action_of-bits : (b : Bool) (k : ℕ) → action_bits (action_of b k) ≡ bits 1 (flag b) ++ bits 6 k
unfolding action_bits
action_of-bits true k = refl
action_of-bits false k = refl

pub sequence-append : (l r : List Action) → sequence_bits (l ++ r) ≡ sequence_bits l ++ sequence_bits r
unfolding sequence_bits
sequence-append [] r = refl
sequence-append (a ∷ l) r =
    ap (λ (x : List ℕ). action_bits a ++ x) (sequence-append l r)
    ∙ sym (append_assoc (action_bits a) (sequence_bits l) (sequence_bits r))

pub length-sequence : (l : List Action) → length (sequence_bits l) ≡ 7 * length l
unfolding sequence_bits
length-sequence [] = refl
length-sequence (a ∷ l) =
    length-append (action_bits a) (sequence_bits l) ∙ omega (arith, length-action a, length-sequence l)

-- one action more
pub sequence_snoc : (f : ℕ → Action) (i : ℕ) → sequence_bits (first f i) ++ action_bits (f i) ≡ sequence_bits (first f (i + 1))
unfolding sequence_bits
sequence_snoc f i =
    ap (λ (x : List ℕ). sequence_bits (first f i) ++ x) (sym (append-nil (action_bits (f i))))
    ∙ sym (sequence-append (first f i) (f i ∷ []))
    ∙ ap sequence_bits (sym (first_snoc f i))
    ∙ ap (λ (k : ℕ). sequence_bits (first f k)) (sym (add-one i))

pub length-sequence-first : (f : ℕ → Action) (i : ℕ) → length (sequence_bits (first f i)) ≡ 7 * i
length-sequence-first f i = length-sequence (first f i) ∙ ap (λ (k : ℕ). 7 * k) (length-first f i)

-- a turn of the loop that puts the actions' bits: a bit and a number, each right behind what was put before
pub action_put : (d l₁ l₂ l : List ℕ) (out : ℕ → Bool) (num : ℕ → ℕ) (i x y : ℕ) → 58 ≤ length d
    → l ≡ paste d 58 (sequence_bits (first (λ j. action_of (out j) (num j)) i)) (7 * i) → x ≡ flag (out i) → y ≡ num i
    → l₁ ≡ paste l (58 + 7 * i) (bits 1 x) 1 → l₂ ≡ paste l₁ (59 + 7 * i) (bits 6 y) 6
    → l₂ ≡ paste d 58 (sequence_bits (first (λ j. action_of (out j) (num j)) (i + 1))) (7 * (i + 1))
action_put d l₁ l₂ l out num i x y h e ex ey e₁ e₂ =
    e₂
    ∙ ap₂ (λ (a : List ℕ) (k : ℕ). paste a k (bits 6 y) 6) one at_59
    ∙ paste-paste d (S ++ bits 1 x) (bits 6 y) 58 (7 * i + 1) 6
    (length-append S (bits 1 x) ∙ ap₂ (λ (a b : ℕ). a + b) length_S (length-bits 1 x)) (length-bits 6 y) h
    ∙ ap₂ (λ (a : List ℕ) (k : ℕ). paste d 58 a k) joined more
  where
    S : List ℕ
    S = sequence_bits (first (λ j. action_of (out j) (num j)) i)

    length_S : length S ≡ 7 * i
    length_S = length-sequence-first (λ j. action_of (out j) (num j)) i

    one : l₁ ≡ paste d 58 (S ++ bits 1 x) (7 * i + 1)
    one =
        e₁
        ∙ ap (λ (a : List ℕ). paste a (58 + 7 * i) (bits 1 x) 1) e
        ∙ paste-paste d S (bits 1 x) 58 (7 * i) 1 length_S (length-bits 1 x) h

    at_59 : 59 + 7 * i ≡ 58 + (7 * i + 1)
    at_59 = omega arith

    more : 7 * i + 1 + 6 ≡ 7 * (i + 1)
    more = omega arith

    joined : (S ++ bits 1 x) ++ bits 6 y ≡ sequence_bits (first (λ j. action_of (out j) (num j)) (i + 1))
    joined =
        append_assoc S (bits 1 x) (bits 6 y)
        ∙ ap₂ (λ (a b : ℕ). S ++ (bits 1 a ++ bits 6 b)) ex ey
        ∙ ap (λ (a : List ℕ). S ++ a) (sym (action_of-bits (out i) (num i)))
        ∙ sequence_snoc (λ j. action_of (out j) (num j)) i

-- ---- places

pub getD_places : {A : Type 0} (f : ℕ → A) (n i : ℕ) (d : A) → i < n → get_or (places f n d) i d ≡ f i
getD_places f n i d h =
    get_or-append (first f n) (replicate (32 - n) d) d i (omega (arith, length-first f n)) ∙ getD_first f n i d h

-- a list of 32 places whose places from n on are d is its first n places
pub places_getD : {A : Type 0} (l : List A) (n : ℕ) (d : A) → length l ≡ 32 → n ≤ 32 → ((i : ℕ) → n ≤ i → get_or l i d ≡ d) → places (λ i. get_or l i d) n d ≡ l
places_getD l n d e h z =
    ext_get_or d (places (λ i. get_or l i d) n d) l
    (length-append (first (λ i. get_or l i d) n) (replicate (32 - n) d)
    ∙ omega (arith, length-first (λ i. get_or l i d) n, length-replicate (32 - n) d))
    (λ i lt. ⊎_elim (λ (le : n ≤ i). behind i le ∙ sym (z i le)) (λ (less : i < n). getD_places (λ i. get_or l i d) n i d less) (le-or-lt n i))
  where
    behind : (i : ℕ) → n ≤ i → get_or (places (λ i. get_or l i d) n d) i d ≡ d
    behind i le =
        let split : i ≡ length (first (λ i. get_or l i d) n) + (i - n) = omega (arith, length-first (λ i. get_or l i d) n) in
        ap (λ (k : ℕ). get_or (places (λ i. get_or l i d) n d) k d) split
        ∙ get_or-append-add (first (λ i. get_or l i d) n) (replicate (32 - n) d) (i - n) d
        ∙ getD_repeat d (32 - n) (i - n)

-- ---- masks, digit by digit

-- a mask from its first bit
pub mask_cons : (f : ℕ → ℕ) (i k : ℕ) → mask f i (suc k) ≡ f i + 2 * mask f (suc i) k
unfolding mask
mask_cons f i zero = omega (arith, ap f (add-zero i), mul-one (f (i + 0)))
mask_cons f i (suc k) =
    omega
    (arith, mask_cons f i k, double (f (i + suc k)) k, ap (λ (x : ℕ). f x * 2 ^ k) (add-suc i k ∙ sym (suc-add i k)))
  where
    double : (x k : ℕ) → x * 2 ^ suc k ≡ 2 * (x * 2 ^ k)
    double x k = ap (λ (y : ℕ). x * y) (pow-succ' 2 k) ∙ mul_left_comm x 2 (2 ^ k)

-- digits out
pub digit_mask : (f : ℕ → ℕ) → Bits f → (i k j : ℕ) → j < k → digit (mask f i k) j ≡ f (i + j)
digit_mask f b i zero j h = absurd (not-suc-le-zero h)
digit_mask f b i (suc k) zero h =
    digit-zero (mask f i (suc k))
    ∙ ap (λ (x : ℕ). x % 2) (mask_cons f i k)
    ∙ omega (arith, b i)
    ∙ ap f (sym (add-zero i))
digit_mask f b i (suc k) (suc j) h =
    digit-suc (mask f i (suc k)) j
    ∙ ap (λ (x : ℕ). digit (x / 2) j) (mask_cons f i k)
    ∙ ap (λ (x : ℕ). digit x j) (half (f i) (mask f (suc i) k) (b i))
    ∙ digit_mask f b (suc i) k j (le_of_suc-le-suc h)
    ∙ ap f (suc-add i j ∙ sym (add-suc i j))
  where
    half : (x m : ℕ) → x < 2 → (x + 2 * m) / 2 ≡ m
    half x m h = omega arith

mask-none : (f : ℕ → ℕ) (i : ℕ) → mask f i zero ≡ 0
unfolding mask
mask-none f i = refl

-- digits back
pub mask-digits : (f : ℕ → ℕ) (i k v : ℕ) → v < 2 ^ k → ((j : ℕ) → j < k → f (i + j) ≡ digit v j) → mask f i k ≡ v
mask-digits f i zero v h e = mask-none f i ∙ omega arith
mask-digits f i (suc k) v h e =
    let back : mask f (suc i) k ≡ v / 2 =
    mask-digits f (suc i) k (v / 2) (omega (arith, pow-suc 2 k))
    (λ j l. ap f (suc-add i j ∙ sym (add-suc i j)) ∙ e (suc j) (omega arith) ∙ digit-suc v j) in
    let low : f i ≡ v % 2 = ap f (sym (add-zero i)) ∙ e zero (omega arith) ∙ digit-zero v in
    mask_cons f i k ∙ omega arith

-- a sequence's bits, at action i
pub sequence_split : (f : ℕ → Action) (n i : ℕ) → i < n
    → sequence_bits (first f n) ≡ sequence_bits (first f i) ++ (action_bits (f i) ++ sequence_bits (first (λ j. f (i + suc j)) (n - suc i)))
unfolding sequence_bits first
sequence_split f n i h =
    let n-is : n ≡ i + suc (n - suc i) = omega arith in
    ap (λ (k : ℕ). sequence_bits (first f k)) n-is
    ∙ ap sequence_bits (first-add f i (suc (n - suc i)))
    ∙ sequence-append (first f i) (first (λ j. f (i + j)) (suc (n - suc i)))
    ∙ ap (λ (k : ℕ). sequence_bits (first f i) ++ (action_bits (f k) ++ sequence_bits (first (λ j. f (i + suc j)) (n - suc i)))) (add-zero i)
