-- The rows of a record, and the record that is made of rows.
use Prim.Native.Nat.{ℕ, zero, suc, ◌+◌, ◌<◌}
use mathlib.Core.Path.{◌≡◌, refl, sym, ap, ◌∙◌}
use mathlib.Core.Bool.{Bool, true, false, cond}
use mathlib.Core.List.{List, [], ◌∷◌, map}
use native.Mathlib.Omega.{arith}
use native.Mathlib.Numerals.{add-one}
use lib.ListN.{length, get_or, replicate, length-replicate}
use Rattle.laws.specs.Places.{first, padded}
use Rattle.laws.specs.Filled.{Filled}
use Rattle.laws.specs.Bits.{mask_to}
use Rattle.laws.proofs.Filled.{getD_repeat}
use Rattle.laws.proofs.Places.{padded_is, first-same, map_first, length-first}
use Rattle.meaning.specs.Words.{action_number}
use Rattle.meaning.specs.Matcher.{Lengths, at_start, none_of}
use Rattle.meaning.specs.Step.{Held, Front}
use Rattle.property.specs.declared.Property.{Property}
use Rattle.property.specs.Zeros.{zeros}
use Rattle.matcher.specs.declared.Cut.{Cut}
use Rattle.matcher.specs.Sets.{cut_of}
use Rattle.matcher.proofs.Words.{cut_back}
use Rattle.rows.specs.declared.Span.{Span}
use Rattle.rows.specs.Rows.{spanning, Within, Room}
use Rattle.clock.specs.declared.Clock.{Clock}
use Rattle.cuts.specs.Steps.{front_none, fresh_by}
use Rattle.cuts.specs.Fronts.{cut_at, set_at, held_at, front_of, sets_of}
use Rattle.session_record.specs.declared.Pair.{Pair}
use Rattle.session_record.specs.Record.{record_of}
use Rattle.session_record.specs.Step.{no_session}
use Rattle.session_record.specs.Lent.{Memory, held_in, record_in, Ready, of_arrays, packed_pair, packed_of, blank}

-- Four rows, each with its places.
pub four_room : (a b c d : List ℕ) → length a ≡ 65 → length b ≡ 65 → length c ≡ 65 → length d ≡ 65 → (s : Span) → Within s → Room (a ∷ b ∷ c ∷ d ∷ []) s
four_room a b c d x y z w s within = record { long = long; shared = omega arith; within = within }
  where
    long : (k : ℕ) → k < 4 → length (get_or (a ∷ b ∷ c ∷ d ∷ []) k []) ≡ 65
    long zero h = x
    long (suc zero) h = y
    long (suc (suc zero)) h = z
    long (suc (suc (suc zero))) h = w
    long (suc (suc (suc (suc k)))) h = let q : ⊥ = omega arith in absurd q

-- An array of zeros, filled up to n, is a list in its places.
pub filled_padded : (w : ℕ) (g : ℕ → ℕ) (n : ℕ) (r : List ℕ) → Filled 0 0 n g (replicate w 0) r → r ≡ padded w 0 (first g n)
filled_padded w g n r f =
    padded_is 0 r (first g n) g n w refl (f.long ∙ length-replicate {A = ℕ} w 0) (λ i h. f.inside i (omega arith) h)
    (λ i h. f.above i h ∙ getD_repeat 0 w i)

-- The record of rows, pair by pair.
pub packed_made : (p : Property) (rows : List (List ℕ)) (s s' : Span) (cuts : ℕ) (clock : Clock) (inputs words : Pair) → s' ≡ spanning s.count
    → inputs ≡ packed_pair rows s 0 s.count → words ≡ packed_pair rows s 2 cuts
    → of_arrays p inputs.first inputs.second words.first words.second (record { span = s'; clock = clock }) ≡ packed_of p rows s cuts clock
packed_made p rows s s' cuts clock inputs words e h w =
    λ i. of_arrays p (h i).first (h i).second (w i).first (w i).second (record { span = e i; clock = clock })

module _ (m : Memory) (ready : Ready m) where
  abbrev rows : List (List ℕ)
  rows = m.rows

  abbrev s : Span
  s = m.status.span

  sets_first : (h : Lengths → ℕ) → map h (sets_of (front_of rows s 0)) ≡ first (λ i. h (set_at rows s 0 i)) (suc s.count)
  unfolding first
  sets_first h =
      ap (λ (l : List ℕ). h (set_at rows s 0 0) ∷ l)
      (ap (map h) (map_first (λ (x : Held Lengths). x.after) (held_at rows s 0) s.count) ∙ map_first h (λ i. set_at rows s 0 (suc i)) s.count)

  -- While a run is open, all its cuts are in use,
  packed_open : m.status.clock.blind ≡ false → (n : ℕ) → n ≡ s.count + 1 → packed_of m.property rows s n m.status.clock ≡ record_in m
  packed_open b n e =
      (λ i.
      of_arrays m.property
      (padded 65 0 (sym (map_first (λ (x : Held Lengths). x.line.stamp) (held_at rows s 0) s.count) i))
      (padded 65 0 (sym (map_first (λ (x : Held Lengths). action_number x.line.action) (held_at rows s 0) s.count) i))
      (padded 65 0 (words (λ (c : Cut). c.mask) i))
      (padded 65 0 (words (λ (c : Cut). c.armed) i))
      (record { span = spanning (sym (length-first (held_at rows s 0) s.count) i); clock = m.status.clock }))
      ∙ ap (λ (f : Front Lengths). record_of m.property (record { clock = (held_in m).clock; front = f })) own
    where
      own : front_of rows s 0 ≡ (held_in m).front
      own = ap (λ (x : Bool). cond x (front_none m.property) (front_of rows s 0)) (sym b)

      words : (w : Cut → ℕ) → first (λ i. w (cut_at rows s 0 i)) n ≡ map (λ (x : Lengths). w (cut_of x)) (sets_of (front_of rows s 0))
      words w =
          ap (first (λ i. w (cut_at rows s 0 i))) (e ∙ add-one s.count)
          ∙ first-same (λ i. w (cut_at rows s 0 i)) (λ i. w (cut_of (set_at rows s 0 i))) (suc s.count)
          (λ i h. ap w (sym (cut_back m.property ready.ranged.formed (cut_at rows s 0 i) (ready.ranged.fits b i (omega arith)))))
          ∙ sym (sets_first (λ (x : Lengths). w (cut_of x)))

  -- and while blind none.
  packed-blind : m.status.clock.blind ≡ true → packed_of m.property rows s 0 m.status.clock ≡ record_in m
  unfolding first cut_of mask_to
  packed-blind b =
      (λ i. packed_of m.property rows (record { start = s.start; count = ready.ranged.none_blind b i }) 0 m.status.clock)
      ∙ ap (λ (x : Bool). record_of m.property (record { clock = (held_in m).clock; front = cond x (front_none m.property) (front_of rows s 0) })) (sym b)

  -- So the record is that of so many cuts.
  pub packed_in : (n : ℕ) → n ≡ cond m.status.clock.blind 0 (s.count + 1) → packed_of m.property rows s n m.status.clock ≡ record_in m
  packed_in n e = go m.status.clock.blind refl
    where
      go : (b : Bool) → m.status.clock.blind ≡ b → packed_of m.property rows s n m.status.clock ≡ record_in m
      go true q = ap (λ (k : ℕ). packed_of m.property rows s k m.status.clock) (e ∙ ap (λ (x : Bool). cond x 0 (s.count + 1)) q) ∙ packed-blind q
      go false q = packed_open q n (e ∙ ap (λ (x : Bool). cond x 0 (s.count + 1)) q)

-- The record of a fresh session, and that of zeros.
pub blank-fresh : (p : Property) → blank p (cut_of at_start) ≡ record_of p (fresh_by p)
unfolding first cut_of mask_to
blank-fresh p = refl

pub blank-zeros : blank zeros (cut_of none_of) ≡ no_session
unfolding first cut_of mask_to
blank-zeros = refl
