-- The cuts of one property in their rows: one cut stored, and the sweep of an output through the cuts.
use Prim.Native.Nat.{ℕ, suc, ◌+◌, ◌*◌, ◌≤◌, ◌<◌}
use mathlib.Core.Path.{◌≡◌, refl, sym, ap, ap₂, ◌∙◌, subst}
use mathlib.Core.Bool.{Bool, true, false}
use mathlib.Core.List.{List}
use native.Mathlib.Numerals.{add-one}
use native.Mathlib.Omega.{arith}
use lib.ListN.{length}
use lib.Dec.{eqb}
use borrow.Author.Tests.{eqb-true, eqb-false}
use Rattle.laws.proofs.Places.{first-same}
use Rattle.meaning.specs.Words.{Action, Line}
use Rattle.meaning.specs.Limits.{last_stamp}
use Rattle.meaning.specs.Matcher.{Lengths, moved}
use Rattle.meaning.specs.Step.{Held, lengths, swept, swept_one}
use Rattle.meaning.proofs.Fronts.{swept-set, swept-first}
use Rattle.property.specs.Meant.{meant}
use Rattle.property.specs.declared.Property.{Property}
use Rattle.matcher.specs.declared.Cut.{Cut}
use Rattle.matcher.specs.Sets.{set_of, Fits}
use Rattle.rows.specs.declared.Span.{Span}
use Rattle.rows.specs.Rows.{word, with, Room}
use Rattle.rows.proofs.Rows.{tall-with, room-with, word_here, word-there, word_elsewhere}
use Rattle.held.specs.Held.{line_at}
use Rattle.cuts.specs.Steps.{line_of}
use Rattle.cuts.specs.Fronts.{cut_at, with_cut, set_at, held_at, Usable, Others, SweptOne, Swept}

abbrev cut_with : ℕ → ℕ → Cut
cut_with m a = record { mask = m; armed = a }

pub cut_same : (a b m n : ℕ) → a ≡ b → m ≡ n → cut_with a m ≡ cut_with b n
cut_same a b m n e f = ap₂ cut_with e f

pub line_same : (a b m n : ℕ) → a ≡ b → m ≡ n → ◌≡◌ {A = Line} (record { action = Action.input a; stamp = m }) (record { action = Action.input b; stamp = n })
line_same a b m n e f = ap₂ (λ (x y : ℕ). record { action = Action.input x; stamp = y }) e f

pub held_same : (l l' : Line) (s s' : Lengths) → l ≡ l' → s ≡ s' → ◌≡◌ {A = Held Lengths} (record { line = l; after = s }) (record { line = l'; after = s' })
held_same l l' s s' e f = ap₂ (λ (x : Line) (y : Lengths). record { line = x; after = y }) e f

-- ---- one cut stored

module _ (rows : List (List ℕ)) (s : Span) (j i : ℕ) (c : Cut) (room : Room rows s) (there : 3 + 2 * j < length rows) (few : i ≤ 64) where
  abbrev half : List (List ℕ)
  half = with rows s (2 + 2 * j) i c.mask

  half_room : Room half s
  half_room = room-with rows s (2 + 2 * j) i c.mask room (omega arith) few

  half_there : 3 + 2 * j < length half
  half_there = subst (λ (n : ℕ). 3 + 2 * j < n) (sym (tall-with rows s (2 + 2 * j) i c.mask)) there

  pub cut_tall : length (with_cut rows s j i c) ≡ length rows
  cut_tall = tall-with half s (3 + 2 * j) i c.armed ∙ tall-with rows s (2 + 2 * j) i c.mask

  pub cut_room : Room (with_cut rows s j i c) s
  cut_room = room-with half s (3 + 2 * j) i c.armed half_room half_there few

  pub cut_others : Others s j rows (with_cut rows s j i c)
  cut_others k m x y = word_elsewhere half s (3 + 2 * j) i c.armed k m y ∙ word_elsewhere rows s (2 + 2 * j) i c.mask k m x

  pub cut_here : cut_at (with_cut rows s j i c) s j i ≡ c
  cut_here =
      cut_same _ _ _ _
      (word_elsewhere half s (3 + 2 * j) i c.armed (2 + 2 * j) i (λ (e : 2 + 2 * j ≡ 3 + 2 * j). omega arith)
      ∙ word_here rows s (2 + 2 * j) i c.mask room (omega arith) few)
      (word_here half s (3 + 2 * j) i c.armed half_room half_there few)

  pub cut_there : (m : ℕ) → m ≤ 64 → (m ≡ i → ⊥) → cut_at (with_cut rows s j i c) s j m ≡ cut_at rows s j m
  cut_there m l d =
      cut_same _ _ _ _
      (word_elsewhere half s (3 + 2 * j) i c.armed (2 + 2 * j) m (λ (e : 2 + 2 * j ≡ 3 + 2 * j). omega arith)
      ∙ word-there rows s (2 + 2 * j) i c.mask room (omega arith) few m l d)
      (word-there half s (3 + 2 * j) i c.armed half_room half_there few m l d
      ∙ word_elsewhere rows s (2 + 2 * j) i c.mask (3 + 2 * j) m (λ (e : 3 + 2 * j ≡ 2 + 2 * j). omega arith))

-- The rows of the open inputs are not among those of a property.
pub line_kept : (s : Span) (j : ℕ) (before after : List (List ℕ)) → Others s j before after → (i : ℕ) → line_at after s i ≡ line_at before s i
line_kept s j before after o i =
    line_same _ _ _ _ (o 1 i (λ (e : 1 ≡ 2 + 2 * j). omega arith) (λ (e : 1 ≡ 3 + 2 * j). omega arith))
    (o 0 i (λ (e : 0 ≡ 2 + 2 * j). omega arith) (λ (e : 0 ≡ 3 + 2 * j). omega arith))

-- ---- an output goes through the cuts

-- With the first cut's new set, which is in its place already.
module _ (p : Property) (rows : List (List ℕ)) (s : Span) (j action stamp : ℕ) (head : Lengths) where
  abbrev y : Line
  y = line_of true action stamp

  -- The sets of the cuts after the output, from the first.
  abbrev pub new_set : ℕ → Lengths
  new_set i = swept-set (meant p) (lengths (meant p)) y head (held_at rows s j) i

  -- The first i cuts have their new sets, and all else is as it was.
  pub record Sweeping (i : ℕ) (now : List (List ℕ)) : Type 0 where
    pub tall : length now ≡ length rows
    pub room : Room now s
    pub others : Others s j rows now
    pub swept : (k : ℕ) → k < i → set_at now s j k ≡ new_set k
    pub fits : (k : ℕ) → k < i → Fits p (cut_at now s j k)
    pub kept : (k : ℕ) → i ≤ k → k ≤ 64 → cut_at now s j k ≡ cut_at rows s j k

  pub new_set_none : head ≡ new_set 0
  unfolding swept-set
  new_set_none = refl

  pub sweeping_first : (c : Cut) → Room rows s → cut_at rows s j 0 ≡ c → set_of c ≡ head → Fits p c → Sweeping 1 rows
  sweeping_first c room e is fit =
      record {
        tall = refl;
        room = room;
        others = λ k m x z. refl;
        swept = λ k l. let q : k ≡ 0 = omega arith in ap (set_at rows s j) q ∙ ap set_of e ∙ is ∙ new_set_none ∙ ap new_set (sym q);
        fits = λ k l. let q : k ≡ 0 = omega arith in subst (Fits p) (sym (ap (cut_at rows s j) q ∙ e)) fit;
        kept = λ k l few. refl;
      }

  pub sweeping_more : (i : ℕ) (now after : List (List ℕ)) (c : Cut) → 3 + 2 * j < length rows → i ≤ 64 → Sweeping i now → set_of c ≡ new_set i → Fits p c
      → after ≡ with_cut now s j i c → Sweeping (i + 1) after
  sweeping_more i now after c there few w is fit e = subst (Sweeping (i + 1)) (sym e) stored
    where
      there_now : 3 + 2 * j < length now
      there_now = subst (λ (n : ℕ). 3 + 2 * j < n) (sym w.tall) there

      here : (k : ℕ) → k ≡ i → cut_at (with_cut now s j i c) s j k ≡ c
      here k q = ap (cut_at (with_cut now s j i c) s j) q ∙ cut_here now s j i c w.room there_now few

      other : (k : ℕ) → k ≤ 64 → (k ≡ i → ⊥) → cut_at (with_cut now s j i c) s j k ≡ cut_at now s j k
      other = cut_there now s j i c w.room there_now few

      swept : (k : ℕ) → k < i + 1 → (x : Bool) → (x ≡ true → k ≡ i) → (x ≡ false → k ≡ i → ⊥) → set_at (with_cut now s j i c) s j k ≡ new_set k
      swept k l true t n = ap set_of (here k (t refl)) ∙ is ∙ ap new_set (sym (t refl))
      swept k l false t n = let d : k ≡ i → ⊥ = n refl in ap set_of (other k (omega arith) d) ∙ w.swept k (omega arith)

      fits : (k : ℕ) → k < i + 1 → (x : Bool) → (x ≡ true → k ≡ i) → (x ≡ false → k ≡ i → ⊥) → Fits p (cut_at (with_cut now s j i c) s j k)
      fits k l true t n = subst (Fits p) (sym (here k (t refl))) fit
      fits k l false t n = let d : k ≡ i → ⊥ = n refl in subst (Fits p) (sym (other k (omega arith) d)) (w.fits k (omega arith))

      stored : Sweeping (i + 1) (with_cut now s j i c)
      stored =
          record {
            tall = cut_tall now s j i c w.room there_now few ∙ w.tall;
            room = cut_room now s j i c w.room there_now few;
            others = λ k m x z. cut_others now s j i c w.room there_now few k m x z ∙ w.others k m x z;
            swept = λ k l. swept k l (eqb k i) (eqb-true k i) (eqb-false k i);
            fits = λ k l. fits k l (eqb k i) (eqb-true k i) (eqb-false k i);
            kept = λ k l h. other k h (λ (q : k ≡ i). omega arith) ∙ w.kept k (omega arith) h;
          }

  -- each next set from the one before, in the code's words: the cut that was read is as before
  pub new_set_next : (i : ℕ) (now : List (List ℕ)) (before after next : Cut) (held input : ℕ) → Sweeping (i + 1) now → i < 64
      → set_of before ≡ new_set i → after ≡ cut_at now s j (i + 1) → held ≡ word rows s 0 i → input ≡ word rows s 1 i
      → SweptOne p action stamp held input before after next → set_of next ≡ new_set (i + 1)
  unfolding swept-set
  new_set_next i now before after next held input w few e f h n o =
      o.set
      ∙ ap (λ (l : Line). one l (set_of before) (set_of after)) (line_same _ _ _ _ n h)
      ∙ ap₂ (one (line_at rows s i)) e (ap set_of (f ∙ w.kept (i + 1) (omega arith) (omega arith) ∙ ap (cut_at rows s j) (add-one i)))
      ∙ ap new_set (sym (add-one i))
    where
      one : Line → Lengths → Lengths → Lengths
      one l x z = swept_one (meant p) (lengths (meant p)) y x (record { line = l; after = z })

-- The whole sweep: the first cut's new set stored, and then the others.
module _ (p : Property) (rows mid now : List (List ℕ)) (s : Span) (j action stamp : ℕ) (c : Cut) (u : Usable p rows s j)
    (head : set_of c ≡ moved (meant p) (set_at rows s j 0) (line_of true action stamp)) (put : mid ≡ with_cut rows s j 0 c)
    (w : Sweeping p mid s j action stamp (set_of c) (s.count + 1) now) where
  mid_others : Others s j rows mid
  mid_others = subst (Others s j rows) (sym put) (cut_others rows s j 0 c u.room u.there (omega arith))

  now_others : Others s j rows now
  now_others k i x z = w.others k i x z ∙ mid_others k i x z

  -- the open inputs, and the old sets behind them
  held_mid : (i : ℕ) → i < s.count → held_at mid s j i ≡ held_at rows s j i
  held_mid i h =
      held_same _ _ _ _ (line_kept s j rows mid mid_others i)
      (ap set_of
      (ap (λ (r : List (List ℕ)). cut_at r s j (suc i)) put
      ∙ cut_there rows s j 0 c u.room u.there (omega arith) (suc i) (omega (arith, u.room.within.few)) (λ (e : suc i ≡ 0). omega arith)))

  tall : length now ≡ length rows
  tall = w.tall ∙ ap length put ∙ cut_tall rows s j 0 c u.room u.there (omega arith)

  pub rows-swept : Swept p s j action stamp rows now
  rows-swept =
      record {
        tall = tall;
        others = now_others;
        holds =
            record {
              front =
                  ap₂ (λ (x : Lengths) (l : List (Held Lengths)). record { before = x; held = l })
                  (w.swept 0 (omega arith) ∙ sym (new_set_none p mid s j action stamp (set_of c)) ∙ head)
                  (first-same (held_at now s j) (λ i. record { line = line_at mid s i; after = new_set p mid s j action stamp (set_of c) (suc i) }) s.count
                  (λ i h. held_same _ _ _ _ (line_kept s j mid now w.others i) (w.swept (suc i) (omega arith)))
                  ∙ sym (swept-first (meant p) (lengths (meant p)) (line_of true action stamp) (set_of c) (held_at mid s j) s.count)
                  ∙ ap₂ (swept (meant p) (lengths (meant p)) (line_of true action stamp)) head (first-same (held_at mid s j) (held_at rows s j) s.count held_mid));
              usable =
                  record {
                    formed = u.formed;
                    room = w.room;
                    there = subst (λ (n : ℕ). 3 + 2 * j < n) (sym tall) u.there;
                    stamps = λ i h. subst (λ (l : Line). l.stamp ≤ last_stamp) (sym (line_kept s j rows now now_others i)) (u.stamps i h);
                    fits = λ i h. w.fits i (omega arith);
                  };
            };
      }
