-- The bits of a packed property: how many they are, that they are bits, and what the writer's list of bits holds.
use Prim.Native.Nat.{ℕ, zero, suc, ◌+◌, ◌-◌, ◌*◌, ◌<◌}
use mathlib.Core.Path.{◌≡◌, refl, sym, ap, ap₂, ◌∙◌}
use mathlib.Core.Bool.{Bool, true, false}
use mathlib.Core.List.{List, [], ◌∷◌, ◌++◌}
use native.Mathlib.Nat.{zero-add, sub-zero, zero-sub, suc-sub-suc}
use native.Mathlib.Omega.{arith}
use lib.Dec.{eqb, lit<}
use lib.ListN.{length, get_or, drop, replicate, length-append}
use lib.Seq.{paste, take_all}
use Rattle.meaning.specs.Words.{Action}
use Rattle.meaning.specs.Words
use Rattle.property.specs.declared.Property.{Property}
use Rattle.property.specs.Meant.{action_of, meant, sequence_of}
use Rattle.laws.specs.Bits.{bit}
use Rattle.laws.proofs.Places.{length-first}
use Rattle.fields.specs.Fields.{digit, bits, run, at, size, Bits}
use Rattle.fields.proofs.Laws.{digit_lt, length-bits, length_run, run-same}
use Rattle.fields.proofs.Packed.{Bits-append, Bits-bits, Bits-run, paste-paste, length-form}
use Rattle.property_form.specs.Form.{flag, action_bits, sequence_bits, allowed_bits, property_bits, property_form, form_bits, form_size}
use Rattle.property_form.proofs.Laws.{length-sequence, length-sequence-first}

-- ---- flags

pub flag-lt : (b : Bool) → flag b < 2
flag-lt true = lit< tt
flag-lt false = lit< tt

-- a bit that is tested and written is that bit
pub flag-eqb : (x : ℕ) → x < 2 → flag (eqb x 1) ≡ x
flag-eqb zero h = refl
flag-eqb (suc zero) h = refl
flag-eqb (suc (suc x)) h = let z : ⊥ = omega arith in absurd z

pub eqb-flag : (b : Bool) → eqb (flag b) 1 ≡ b
eqb-flag true = refl
eqb-flag false = refl

-- ---- the length

pub length-allowed : (allowed : ℕ → Bool) → length (allowed_bits allowed) ≡ 64
unfolding allowed_bits
length-allowed allowed = length_run (λ k. flag (allowed k)) 0 64

pub length-head : (n lb ub : ℕ) → length (bits 6 n ++ bits 26 lb ++ bits 26 ub) ≡ 58
length-head n lb ub =
    length-append (bits 6 n ++ bits 26 lb) (bits 26 ub)
    ∙ ap₂ (λ (a b : ℕ). a + b)
    (length-append (bits 6 n) (bits 26 lb) ∙ ap₂ (λ (a b : ℕ). a + b) (length-bits 6 n) (length-bits 26 lb))
    (length-bits 26 ub)

pub length-property : (q : Words.Property) → length (property_bits q) ≡ form_bits (length q.sequence)
unfolding property_bits
length-property q =
    length-append (H ++ S) A
    ∙ omega (arith, length-append H S, length-head (length q.sequence) q.LB q.UB, length-sequence q.sequence, length-allowed q.allowed)
  where
    H : List ℕ
    H = bits 6 (length q.sequence) ++ bits 26 q.LB ++ bits 26 q.UB

    S : List ℕ
    S = sequence_bits q.sequence

    A : List ℕ
    A = allowed_bits q.allowed

-- "17 bytes for n = 1, 44 for n = 32"
pub length-property_form : (q : Words.Property) → length (property_form q) ≡ form_size (length q.sequence)
unfolding property_form
length-property_form q = length-form (property_bits q) ∙ ap size (length-property q)

-- Action i of a property record, whose form has the length of its n actions.
abbrev pub action_at : Property → ℕ → Action
action_at p i = action_of (get_or p.output i false) (get_or p.number i 0)

pub length_of_bits : (p : Property) → length (property_bits (meant p)) ≡ form_bits p.n
length_of_bits p = length-property (meant p) ∙ ap form_bits (length-first (action_at p) p.n)

pub length_of_form : (p : Property) → length (property_form (meant p)) ≡ form_size p.n
length_of_form p = length-property_form (meant p) ∙ ap form_size (length-first (action_at p) p.n)

-- ---- they are bits

pub Bits-action : (a : Action) → Bits (at (action_bits a))
unfolding action_bits
Bits-action (Action.input k) i = Bits-append (bits 1 0) (bits 6 k) (Bits-bits 1 0) (Bits-bits 6 k) i
Bits-action (Action.output k) i = Bits-append (bits 1 1) (bits 6 k) (Bits-bits 1 1) (Bits-bits 6 k) i

pub Bits-sequence : (l : List Action) → Bits (at (sequence_bits l))
unfolding sequence_bits
Bits-sequence [] i = lit< tt
Bits-sequence (a ∷ l) i = Bits-append (action_bits a) (sequence_bits l) (Bits-action a) (Bits-sequence l) i

pub Bits-allowed : (allowed : ℕ → Bool) → Bits (at (allowed_bits allowed))
unfolding allowed_bits
Bits-allowed allowed = Bits-run (λ k. flag (allowed k)) (λ k. flag-lt (allowed k)) 0 64

pub Bits-property : (q : Words.Property) → Bits (at (property_bits q))
unfolding property_bits
Bits-property q =
    Bits-append (a ++ b ++ c ++ d) e
    (Bits-append (a ++ b ++ c) d
    (Bits-append (a ++ b) c (Bits-append a b (Bits-bits 6 (length q.sequence)) (Bits-bits 26 q.LB)) (Bits-bits 26 q.UB))
    (Bits-sequence q.sequence))
    (Bits-allowed q.allowed)
  where
    a : List ℕ
    a = bits 6 (length q.sequence)

    b : List ℕ
    b = bits 26 q.LB

    c : List ℕ
    c = bits 26 q.UB

    d : List ℕ
    d = sequence_bits q.sequence

    e : List ℕ
    e = allowed_bits q.allowed

-- ---- what the writer puts

-- a mask's bits, the first for output 0
pub allowed_of : (m : ℕ) → allowed_bits (bit m) ≡ run (digit m) 0 64
unfolding allowed_bits digit
allowed_of m =
    run-same (λ k. flag (bit m k)) (digit m) 0 0 64 (λ k h. flag-eqb (digit m (0 + k)) (digit_lt m (0 + k)))

abbrev zeros : ℕ → List ℕ
zeros n = replicate n 0

drop-zeros : (k n : ℕ) → ◌≡◌ {A = List ℕ} (drop k (zeros n)) (zeros (n - k))
drop-zeros zero n = ap zeros (sym (sub-zero n))
drop-zeros (suc k) zero = ap zeros (sym (zero-sub (suc k)))
drop-zeros (suc k) (suc n) = drop-zeros k n ∙ ap zeros (sym (suc-sub-suc n k))

-- bits put at the front of a list of zeros
paste-front : (b : List ℕ) (k n : ℕ) → length b ≡ k → paste (replicate n 0) 0 b k ≡ b ++ replicate (n - k) 0
paste-front b k n e =
    ap₂ (λ (x y : List ℕ). x ++ y) (take_all k b (omega arith))
    (ap (λ (x : ℕ). drop x (replicate n 0)) (zero-add k) ∙ drop-zeros k n)

-- the five puts, one right behind the other
pub put_all : (p : Property) (l₁ l₂ l₃ l₄ l₅ : List ℕ)
    → l₁ ≡ paste (replicate 352 0) 0 (bits 6 p.n) 6
    → l₂ ≡ paste l₁ 6 (bits 26 p.lb) 26
    → l₃ ≡ paste l₂ 32 (bits 26 p.ub) 26
    → l₄ ≡ paste l₃ 58 (sequence_bits (sequence_of p)) (7 * p.n)
    → l₅ ≡ paste l₄ (58 + 7 * p.n) (run (digit p.allowed) 0 64) 64
    → l₅ ≡ property_bits (meant p) ++ replicate (352 - form_bits p.n) 0
unfolding property_bits
put_all p l₁ l₂ l₃ l₄ l₅ e₁ e₂ e₃ e₄ e₅ =
    five
    ∙ paste-front (a ++ b ++ c ++ d ++ e) (58 + 7 * p.n + 64) 352 length-all
    ∙ ap₂ (λ (x : List ℕ) (y : ℕ). x ++ replicate (352 - y) 0) written bits_in_all
  where
    z : List ℕ
    z = replicate 352 0

    a : List ℕ
    a = bits 6 p.n

    b : List ℕ
    b = bits 26 p.lb

    c : List ℕ
    c = bits 26 p.ub

    d : List ℕ
    d = sequence_bits (sequence_of p)

    e : List ℕ
    e = run (digit p.allowed) 0 64

    length_d : length d ≡ 7 * p.n
    length_d = length-sequence-first (action_at p) p.n

    length_ab : length (a ++ b) ≡ 32
    length_ab = length-append a b ∙ ap₂ (λ (x y : ℕ). x + y) (length-bits 6 p.n) (length-bits 26 p.lb)

    length_abc : length (a ++ b ++ c) ≡ 58
    length_abc = length-head p.n p.lb p.ub

    length_abcd : length (a ++ b ++ c ++ d) ≡ 58 + 7 * p.n
    length_abcd = length-append (a ++ b ++ c) d ∙ ap₂ (λ (x y : ℕ). x + y) length_abc length_d

    length-all : length (a ++ b ++ c ++ d ++ e) ≡ 58 + 7 * p.n + 64
    length-all =
        length-append (a ++ b ++ c ++ d) e
        ∙ ap₂ (λ (x y : ℕ). x + y) length_abcd (length_run (digit p.allowed) 0 64)

    two : l₂ ≡ paste z 0 (a ++ b) 32
    two =
        e₂
        ∙ ap (λ (x : List ℕ). paste x 6 b 26) e₁
        ∙ paste-paste z a b 0 6 26 (length-bits 6 p.n) (length-bits 26 p.lb) (omega arith)

    three : l₃ ≡ paste z 0 (a ++ b ++ c) 58
    three =
        e₃
        ∙ ap (λ (x : List ℕ). paste x 32 c 26) two
        ∙ paste-paste z (a ++ b) c 0 32 26 length_ab (length-bits 26 p.ub) (omega arith)

    four : l₄ ≡ paste z 0 (a ++ b ++ c ++ d) (58 + 7 * p.n)
    four =
        e₄
        ∙ ap (λ (x : List ℕ). paste x 58 d (7 * p.n)) three
        ∙ paste-paste z (a ++ b ++ c) d 0 58 (7 * p.n) length_abc length_d (omega arith)

    five : l₅ ≡ paste z 0 (a ++ b ++ c ++ d ++ e) (58 + 7 * p.n + 64)
    five =
        e₅
        ∙ ap₂ (λ (x : List ℕ) (y : ℕ). paste x y e 64) four (sym (zero-add (58 + 7 * p.n)))
        ∙ paste-paste z (a ++ b ++ c ++ d) e 0 (58 + 7 * p.n) 64 length_abcd (length_run (digit p.allowed) 0 64) (omega arith)

    bits_in_all : 58 + 7 * p.n + 64 ≡ form_bits p.n
    bits_in_all = omega arith

    written : a ++ b ++ c ++ d ++ e ≡ bits 6 (length (sequence_of p)) ++ b ++ c ++ d ++ allowed_bits (bit p.allowed)
    written =
        ap₂ (λ (x : ℕ) (y : List ℕ). bits 6 x ++ b ++ c ++ d ++ y)
        (sym (length-first (action_at p) p.n))
        (sym (allowed_of p.allowed))
