-- Sessions over cuts whose record refusal 10 does not name: the record stands for the session, and each call leads to such a one.
use Prim.Native.Nat.{ℕ, zero, suc, ◌≤◌, ◌<◌}
use mathlib.Core.Path.{◌≡◌, refl, sym, ap, subst, ◌∙◌}
use mathlib.Core.Bool.{Bool, true, false, true≢false, cond, not, ◌&&◌}
use native.Mathlib.Omega.{arith}
use borrow.Author.Tests.{eq-eqb, ltb-false, ltb-true, le-ltb}
use lib.ListN.{length}
use lib.Dec.{ltb}
use Rattle.laws.proofs.Places.{length-first}
use Rattle.laws.proofs.Tests.{neither}
use Rattle.laws.proofs.Below.{none_below}
use Rattle.meaning.specs.Limits.{last_stamp, most_open}
use Rattle.meaning.specs.Numbers.{given, property_refusal, action_above}
use Rattle.meaning.specs.Calls.{Call, Clock, ticked, unless_refused, stamp_refusal}
use Rattle.meaning.specs.Matcher.{Lengths, none_of}
use Rattle.meaning.specs.Step.{Front, Cuts, lengths}
use Rattle.meaning.proofs.Tests.{some_to-none}
use Rattle.meaning.proofs.Refusals.{first_of-none, none_first, given-none}
use Rattle.meaning.proofs.Calls.{not-refused-stamp, not-refused-mark}
use Rattle.meaning.proofs.Clocks.{blind_if, by_time_is, by_time_each}
use Rattle.meaning.proofs.Fronts.{few-first}
use Rattle.meaning.proofs.InOrder.{InOrder, ended, nothing, stamp_at, order-inputs, order-next, order-within, order-first, order-with}
use Rattle.meaning.proofs.Throughout.{Throughout, Preserved, with_throughout, fresh_throughout, none_throughout}
use Rattle.property.specs.Meant.{meant}
use Rattle.property.specs.declared.Property.{Property}
use Rattle.matcher.specs.Sets.{Short}
use Rattle.matcher.proofs.Words.{fits_short, none_short, start_short, either_short, moved_short}
use Rattle.rows.specs.declared.Span.{Span}
use Rattle.rows.specs.Rows.{last_place, spanning, word}
use Rattle.clock.specs.Time.{clock_of}
use Rattle.cuts.specs.Steps.{front_after, front_fresh, front_none, fresh_by, refusal_by, taken_by, next_by}
use Rattle.cuts.specs.Fronts.{cut_at, held_at, front_of}
use Rattle.session_record.specs.Record.{cuts_of, record_of, out_of_range}
use Rattle.session_record.specs.Lent.{Memory, held_in, Ranged}
use Rattle.session_record.proofs.Each.{all_first}
use Rattle.session_record.proofs.Map.{stored_rows, stamp_stored, stored_fits, front_back}

pub record Fit (p : Property) (c : Cuts Lengths) : Type 0 where
  pub few : length c.front.held ≤ most_open
  pub order : InOrder 0 c.front.held c.clock.latest
  pub short : Throughout (Short (meant p)) c.front
  pub limit : c.clock.latest ≤ last_stamp
  pub none_blind : c.clock.is_blind ≡ true → c.front ≡ front_none p

-- the sets of the meaning's step keep to the lengths of the sequence
short_kept : (p : Property) → Preserved (lengths (meant p)) (Short (meant p))
short_kept p =
    record {
      none = none_short (meant p);
      start = start_short (meant p);
      join = λ s t h k. either_short (meant p) s t h k;
      move = λ s l h. moved_short (meant p) s l;
    }

-- nothing is held while blind
blind_fit : (p : Property) (k : Clock) → k.latest ≤ last_stamp → Fit p (record { clock = k; front = front_none p })
blind_fit p k h =
    record {
      few = omega arith;
      order = ended {t = 0} {e = k.latest} (omega arith);
      short = none_throughout (meant p) (short_kept p);
      limit = h;
      none_blind = λ b. refl;
    }

pub fresh_fit : (p : Property) → Fit p (fresh_by p)
fresh_fit p =
    record {
      few = omega arith;
      order = ended {t = 0} {e = 0} (omega arith);
      short = fresh_throughout (meant p) (short_kept p);
      limit = omega arith;
      none_blind = λ b. absurd (true≢false (sym b));
    }

-- memory that refusal 10 does not name stands for such a session
pub ranged_fit : (m : Memory) → Ranged m → Fit m.property (held_in m)
ranged_fit m r = go m.status.clock.blind refl
  where
    go : (b : Bool) → m.status.clock.blind ≡ b
        → Fit m.property (record { clock = blind_if b (clock_of m.status.clock); front = cond b (front_none m.property) (front_of m.rows m.status.span 0) })
    go true e = blind_fit m.property (blind_if true (clock_of m.status.clock)) r.limit
    go false e =
        record {
          few = subst (λ (n : ℕ). n ≤ most_open) (sym (length-first (held_at m.rows m.status.span 0) m.status.span.count)) r.within.few;
          order =
              order-first (held_at m.rows m.status.span 0) 0 m.status.span.count m.status.clock.latest
              (λ i. tt) (λ z. omega arith) (λ h. omega arith) r.rising r.last;
          short =
              record {
                before = fits_short m.property r.formed (cut_at m.rows m.status.span 0 0) (r.fits e 0 (omega arith));
                held = all_first (held_at m.rows m.status.span 0) m.status.span.count
                    (λ i h. fits_short m.property r.formed (cut_at m.rows m.status.span 0 (suc i)) (r.fits e (suc i) (omega arith)));
              };
          limit = r.limit;
          none_blind = λ b. absurd (true≢false (sym b));
        }

module _ (p : Property) (good : property_refusal (meant p) ≡ 0) where
  module _ {c : Cuts Lengths} (f : Fit p c) where
    abbrev own : Span
    own = spanning (length c.front.held)

    -- the record of such a session stands for it,
    pub cuts_back : cuts_of (record_of p c) ≡ c
    cuts_back = λ i. record { clock = c.clock; front = same c.clock.is_blind refl i }
      where
        same : (b : Bool) → c.clock.is_blind ≡ b → cond b (front_none p) (front_of (stored_rows c.front) own 0) ≡ c.front
        same true e = sym (f.none_blind e)
        same false e = front_back p good c.front f.few (order-inputs f.order) f.short

    stamp : (j : ℕ) → j < length c.front.held → word (stored_rows c.front) own 0 j ≡ stamp_at (nothing none_of) c.front.held j
    stamp j k = stamp_stored p good c.front f.few (order-inputs f.order) f.short j k

    no_fall : (i : ℕ) → i < length c.front.held
        → ltb (cond (ltb (suc i) (length c.front.held)) (word (stored_rows c.front) own 0 (suc i)) c.clock.latest) (word (stored_rows c.front) own 0 i) ≡ false
    no_fall i h = go (ltb (suc i) (length c.front.held)) (ltb-true (suc i) (length c.front.held))
      where
        go : (t : Bool) → (t ≡ true → suc i < length c.front.held)
            → ltb (cond t (word (stored_rows c.front) own 0 (suc i)) c.clock.latest) (word (stored_rows c.front) own 0 i) ≡ false
        go true y =
            le-ltb (word (stored_rows c.front) own 0 (suc i)) (word (stored_rows c.front) own 0 i)
            (omega (arith, stamp i h, stamp (suc i) (y refl), order-next (nothing none_of) f.order i (y refl)))
        go false y = le-ltb c.clock.latest (word (stored_rows c.front) own 0 i) (omega (arith, stamp i h, order-within (nothing none_of) f.order i h))

    empty_blind : (b : Bool) → c.clock.is_blind ≡ b → b && ltb 0 (length c.front.held) ≡ false
    empty_blind true e = ap (λ (x : Front Lengths). ltb 0 (length x.held)) (f.none_blind e)
    empty_blind false e = refl

    not-long : (b : Bool) {t : Bool} → t ≡ false → not b && t ≡ false
    not-long true e = refl
    not-long false e = e

    -- and refusal 10 does not name it.
    pub in_range : out_of_range (record_of p c) ≡ false
    unfolding out_of_range
    in_range =
        neither
        (neither
        (neither
        (neither
        (neither (neither (ap not (eq-eqb (property_refusal (meant p)) 0 good)) (le-ltb last_place 0 (omega arith))) (le-ltb most_open (length c.front.held) f.few))
        (none_below (length c.front.held) _ no_fall))
        (empty_blind c.clock.is_blind refl))
        (le-ltb last_stamp c.clock.latest f.limit))
        (not-long c.clock.is_blind
        (some_to-none (length c.front.held) _ (λ i h. stored_fits p good c.front f.few (order-inputs f.order) f.short i h)))

  stamp-limit : (k : Clock) (t : ℕ) → stamp_refusal k t ≡ 0 → t ≤ last_stamp
  stamp-limit k t q = ltb-false last_stamp t (none_first 3 (ltb last_stamp t) q).0

  -- A call that is taken leads to such a session.
  pub taken_fit : {c : Cuts Lengths} → Fit p c → (k : Call) → refusal_by p c k ≡ 0 → Fit p (taken_by p c k)
  taken_fit {c} f (Call.line l) e =
      by_time_each (meant p) c.clock l.stamp _ _ _ (Fit p)
      (λ b far.
      open_fit (front_fresh p) 0 (ended {t = 0} {e = 0} (omega arith)) (fresh_throughout (meant p) (short_kept p)) (omega arith)
      (few-first (meant p) (lengths (meant p)) l.action l.stamp))
      (λ b far. blind_fit p (ticked c.clock l true) in_time)
      (λ b. open_fit c.front c.clock.latest f.order f.short (not-refused-stamp c.clock l.stamp q.0) (room b))
    where
      q : (stamp_refusal c.clock l.stamp ≡ 0)
          × (given 6 (not c.clock.is_blind && ltb most_open (length (taken_by p c (Call.line l)).front.held)) ≡ 0)
      q = first_of-none (stamp_refusal c.clock l.stamp) (none_first 2 (action_above l.action) e).1

      in_time : l.stamp ≤ last_stamp
      in_time = stamp-limit c.clock l.stamp q.0

      room : c.clock.is_blind ≡ false → length (front_after p c.front l).held ≤ most_open
      room b =
          let w : taken_by p c (Call.line l) ≡ record { clock = ticked c.clock l false; front = front_after p c.front l } =
          by_time_is (meant p) c.clock l.stamp _ _ _ b refl in
          ltb-false most_open _ (sym (λ i. not (b i) && ltb most_open (length (w i).front.held)) ∙ given-none 5 _ q.1)

      open_fit : (g : Front Lengths) (t : ℕ) → InOrder 0 g.held t → Throughout (Short (meant p)) g → t ≤ l.stamp
          → length (front_after p g l).held ≤ most_open → Fit p (record { clock = ticked c.clock l false; front = front_after p g l })
      open_fit g t order short le few =
          record {
            few = few;
            order = order-with (meant p) (lengths (meant p)) g l.action l.stamp le order;
            short = with_throughout (meant p) (short_kept p) g l short;
            limit = in_time;
            none_blind = λ b. absurd (true≢false (sym b));
          }
  taken_fit {c} f (Call.mark g) e = blind_fit p _ (stamp-limit c.clock g.stamp (not-refused-mark c.clock g e))

  pub next_fit : {c : Cuts Lengths} → Fit p c → (k : Call) → Fit p (next_by p c k)
  next_fit {c} f k = go (refusal_by p c k) (taken_fit f k)
    where
      go : (n : ℕ) → (n ≡ 0 → Fit p (taken_by p c k)) → Fit p (unless_refused {A = Cuts Lengths} n (taken_by p c k) c)
      go zero h = h refl
      go (suc n) h = f
