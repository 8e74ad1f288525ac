-- The chain of the records: what a program that lists them one by one has added so far, and what comes next.
use Prim.Native.Nat.{ℕ, suc, ◌+◌, ◌*◌, ◌≤◌, ◌<◌}
use mathlib.Core.Path.{◌≡◌, refl, sym, ◌∙◌, ap, ap₂}
use mathlib.Core.Bool.{Bool, true, false, true≢false, cond}
use mathlib.Core.List.{List, [], ◌++◌, append-nil, append_assoc}
use native.Mathlib.Omega.{arith}
use lib.ListN.{length, take, drop, length-append}
use lib.Seq.{take_all, take_at, drop_at}
use Rattle.trace_form.proofs.Reader.{by_size}
use Rattle.session_record.specs.declared.Session.{Session}
use Rattle.listing_shell.specs.Next.{NextText}

-- What one record adds to a listing, and what the next one starts from.
pub record OneAdds : Type 0 where
  pub text : List ℕ
  pub session : Session
  pub count : ℕ
  pub more : Bool

-- What at most so many records add is what each adds, which is something, up to one that ends the listing. Fewer bytes than a record has end it.
pub record OneByOne (size : ℕ) (lines : ℕ → Session → ℕ → List ℕ → List ℕ) (one : Session → ℕ → List ℕ → OneAdds) : Type 0 where
  pub none : (s : Session) (count : ℕ) (bytes : List ℕ) → lines 0 s count bytes ≡ []
  pub first : (most : ℕ) (s : Session) (count : ℕ) (bytes : List ℕ)
      → lines (suc most) s count bytes
      ≡ (one s count (take size bytes)).text
      ++ cond (one s count (take size bytes)).more (lines most (one s count (take size bytes)).session (one s count (take size bytes)).count (drop size bytes)) []
  pub some : (s : Session) (count : ℕ) (bytes : List ℕ) → 1 ≤ length (one s count bytes).text
  pub short : (s : Session) (count : ℕ) (bytes : List ℕ) → length bytes < size → (one s count bytes).more ≡ false

-- So many records were read, and this text was added for them: whatever comes behind, the listing of it all is this text and what is added from here.
pub record SoFar (size : ℕ) (lines : ℕ → Session → ℕ → List ℕ → List ℕ) (begun : Session) (records : ℕ) (s : Session) (count : ℕ) : Type 0 where
  pub read : List ℕ
  pub whole : length read ≡ size * records
  pub text : List ℕ
  pub listed : (most : ℕ) (rest : List ℕ) → lines (records + most) begun 0 (read ++ rest) ≡ text ++ lines most s count rest

module _ {size : ℕ} {lines : ℕ → Session → ℕ → List ℕ → List ℕ} (begun : Session) where
  pub none_read : SoFar size lines begun 0 begun 0
  none_read = record { read = []; whole = omega arith; text = []; listed = λ most rest. ap (λ (n : ℕ). lines n begun 0 rest) (from_none most) }
    where
      from_none : (most : ℕ) → 0 + most ≡ most
      from_none most = omega arith

  module _ {one : Session → ℕ → List ℕ → OneAdds} (by : OneByOne size lines one) {records : ℕ} {s : Session} {count : ℕ}
      (so_far : SoFar size lines begun records s count) (came : List ℕ) (few : length came ≤ size) where
    abbrev added : OneAdds
    added = one s count came

    -- what these bytes add, with none behind them
    alone : lines 1 s count came ≡ added.text
    alone =
        by.first 0 s count came
        ∙ ap₂ ◌++◌ (ap (λ (l : List ℕ). (one s count l).text) (take_all size came few)) (none-behind (one s count (take size came)).more _ (by.none _ _ _))
        ∙ append-nil added.text
      where
        none-behind : (more : Bool) (l : List ℕ) → l ≡ [] → cond more l [] ≡ []
        none-behind true l e = e
        none-behind false l e = refl

    -- The text that they add is the next of the listing.
    pub next-text : NextText size (λ most bytes. lines most begun 0 bytes) records added.text
    next-text =
        record {
          read = so_far.read;
          whole = so_far.whole;
          came = came;
          few = few;
          adds = one_more ∙ so_far.listed 1 came ∙ ap₂ ◌++◌ (sym before) alone;
          some = by.some s count came;
        }
      where
        one_more : lines (suc records) begun 0 (so_far.read ++ came) ≡ lines (records + 1) begun 0 (so_far.read ++ came)
        one_more = let e : suc records ≡ records + 1 = omega arith in ap (λ (n : ℕ). lines n begun 0 (so_far.read ++ came)) e

        before : lines records begun 0 so_far.read ≡ so_far.text
        before =
            (let e : records ≡ records + 0 = omega arith in ap₂ (λ (n : ℕ) (l : List ℕ). lines n begun 0 l) e (sym (append-nil so_far.read)))
            ∙ so_far.listed 0 []
            ∙ ap (λ (l : List ℕ). so_far.text ++ l) (by.none s count [])
            ∙ append-nil so_far.text

    -- If the listing goes on, a record was read whole, and what was added so far has their text behind it.
    module _ (goes_on : added.more ≡ true) where
      as_long : length came ≡ size
      as_long = by_size size came (λ h. omega (arith, few, h)) (λ h. absurd (true≢false (sym goes_on ∙ by.short s count came h)))

      then : (most : ℕ) (rest : List ℕ) → lines (suc most) s count (came ++ rest) ≡ added.text ++ lines most added.session added.count rest
      then most rest =
          by.first most s count (came ++ rest)
          ∙ ap₂ on (take_at came rest size as_long) (drop_at came rest size as_long)
          ∙ ap (λ (b : Bool). added.text ++ cond b (lines most added.session added.count rest) []) goes_on
        where
          on : List ℕ → List ℕ → List ℕ
          on front behind = (one s count front).text ++ cond (one s count front).more (lines most (one s count front).session (one s count front).count behind) []

      pub one_further : SoFar size lines begun (records + 1) added.session added.count
      one_further =
          record {
            read = so_far.read ++ came;
            whole = omega (arith, length-append so_far.read came, so_far.whole, as_long, times);
            text = so_far.text ++ added.text;
            listed = λ most rest.
                ap₂ (λ (n : ℕ) (l : List ℕ). lines n begun 0 l) (moved most) (append_assoc so_far.read came rest)
                ∙ so_far.listed (suc most) (came ++ rest)
                ∙ ap (λ (l : List ℕ). so_far.text ++ l) (then most rest)
                ∙ sym (append_assoc so_far.text added.text _);
          }
        where
          times : size * (records + 1) ≡ size * records + size
          times = omega arith

          moved : (most : ℕ) → records + 1 + most ≡ records + suc most
          moved most = omega arith
