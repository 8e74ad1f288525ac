-- The laws of a list's entries, one entry at a time.
use Prim.Native.Nat.{ℕ, zero, suc, ◌-◌, ◌/◌, ◌%◌, ◌≤◌, ◌<◌}
use mathlib.Core.Path.{◌≡◌, refl, sym, ◌∙◌, ap, ap₂}
use mathlib.Core.Bool.{Bool, true, false, ◌&&◌, ◌||◌, cond, true≢false}
use mathlib.Core.List.{List, [], ◌∷◌}
use native.Mathlib.Omega.{arith}
use lib.ListN.{length, take, drop, length-drop}
use lib.Dec.{ltb}
use lib.Seq.{length-take-le, take_all}
use borrow.Author.Tests.{ltb-true, ltb-false, eqb-true, lt-ltb, le-ltb, not-false}
use Rattle.laws.proofs.Tests.{or_split}
use Rattle.std.specs.List.{list_any}
use Rattle.name_list.specs.Names.{first, name_size, entry_size, name_read, any_outside, zero_bit_set, size_outside, entry_broken, entries_broken, list_broken, entry_read, entries_read}
use Rattle.name_list.specs.Front.{breaks_rule}

pub broken_step : (most least : ℕ) (l : List ℕ) → 0 < length l
    → entries_broken (suc most) least l ≡ entry_broken least l || entries_broken most (suc (first l)) (drop (entry_size l) l)
unfolding entries_broken
broken_step most least l h =
    ap (λ (t : Bool). t && (entry_broken least l || entries_broken most (suc (first l)) (drop (entry_size l) l))) (lt-ltb 0 (length l) h)

pub read_step : (most : ℕ) (l : List ℕ) → 0 < length l → entries_read (suc most) l ≡ entry_read l ∷ entries_read most (drop (entry_size l) l)
unfolding entries_read
read_step most l h = ap (λ (t : Bool). cond t (entry_read l ∷ entries_read most (drop (entry_size l) l)) []) (lt-ltb 0 (length l) h)

-- no bytes, no entry
pub broken-end : (most least : ℕ) (l : List ℕ) → length l ≤ 0 → entries_broken most least l ≡ false
unfolding entries_broken
broken-end zero least l h = le-ltb 0 (length l) h
broken-end (suc most) least l h =
    ap (λ (t : Bool). t && (entry_broken least l || entries_broken most (suc (first l)) (drop (entry_size l) l))) (le-ltb 0 (length l) h)

pub read-end : (most : ℕ) (l : List ℕ) → length l ≤ 0 → entries_read most l ≡ []
unfolding entries_read
read-end zero l h = refl
read-end (suc most) l h = ap (λ (t : Bool). cond t (entry_read l ∷ entries_read most (drop (entry_size l) l)) []) (le-ltb 0 (length l) h)

-- An entry at the front that breaks no rule.
pub record Whole (least : ℕ) (l : List ℕ) : Type 0 where
  pub there : entry_size l ≤ length l
  pub zero_bit : first l / 64 % 2 ≡ 0
  pub rises : least ≤ first l
  pub some : 1 ≤ name_size l
  pub most : name_size l ≤ 40
  pub inside : any_outside (name_read l) ≡ false

pub entry_whole : (least : ℕ) (l : List ℕ) → entry_broken least l ≡ false → Whole least l
unfolding entry_broken
entry_whole least l e =
    let a = or_split (ltb (length l) (entry_size l)) _ e in
    let b = or_split (zero_bit_set (first l)) _ a.1 in
    let c = or_split (ltb (first l) least) _ b.1 in
    let d = or_split (size_outside (name_size l)) _ c.1 in
    let f = or_split (ltb (name_size l) 1) _ d.0 in
    record {
      there = ltb-false _ _ a.0;
      zero_bit = eqb-true _ 0 (not-false _ b.0);
      rises = ltb-false _ _ c.0;
      some = ltb-false _ _ f.0;
      most = ltb-false _ _ f.1;
      inside = d.1;
    }

-- A list with an entry, none of which breaks a rule: so many less one stand behind the first.
pub record Good (most least : ℕ) (l : List ℕ) : Type 0 where
  pub less : ℕ
  pub counted : most ≡ suc less
  pub whole : Whole least l
  pub behind : entries_broken less (suc (first l)) (drop (entry_size l) l) ≡ false

pub good_step : (most least : ℕ) (l : List ℕ) → 0 < length l → entries_broken most least l ≡ false → Good most least l
good_step zero least l h e = absurd (unfold entries_broken in (true≢false (sym (lt-ltb 0 (length l) h) ∙ e)))
good_step (suc most) least l h e =
    let s = or_split (entry_broken least l) _ (sym (broken_step most least l h) ∙ e) in
    record { less = most; counted = refl; whole = entry_whole least l s.0; behind = s.1 }

-- the name has as many bytes as its length byte says
pub name-long : (least : ℕ) (l : List ℕ) → Whole least l → length (name_read l) ≡ name_size l
name-long least l w = length-take-le (name_size l) (drop 2 l) (omega (arith, w.there, length-drop 2 l))

-- ---- tests, one after the other

pub or_here : {a : Bool} (b : Bool) → a ≡ true → true ≡ a || b
or_here {a} b e = sym (ap (λ (t : Bool). t || b) e)

pub or-next : {a b r : Bool} → a ≡ false → r ≡ b → r ≡ a || b
or-next {a} {b} e h = h ∙ sym (ap (λ (t : Bool). t || b) e)

-- ---- the bytes of a name

pub outside_any : (l : List ℕ) → any_outside l ≡ list_any (λ b. ltb b 33 || ltb 126 b) l
unfolding any_outside
outside_any [] = refl
outside_any (b ∷ rest) = ap (λ (t : Bool). (ltb b 33 || ltb 126 b) || t) (outside_any rest)

-- ---- the entry at the front

-- The rules of an entry that stands apart are those of its bytes.
pub front-rules : (least : ℕ) (l : List ℕ) → entry_size l ≤ length l → breaks_rule least (first l) (name_read l) ≡ entry_broken least l
unfolding entry_broken
front-rules least l h =
    ap₂ (λ (n : ℕ) (t : Bool). zero_bit_set (first l) || (ltb (first l) least || (size_outside n || t))) (length-take-le (name_size l) (drop 2 l) (omega (arith, length-drop 2 l))) (sym (outside_any (name_read l)))
    ∙ or-next (le-ltb (length l) (entry_size l) h) refl

pub cut_short : (least : ℕ) (l : List ℕ) → length l < entry_size l → entry_broken least l ≡ true
unfolding entry_broken
cut_short least l h = sym (or_here _ (lt-ltb (length l) (entry_size l) h))

-- ---- what a check has left

-- These bytes of the list decide, and there are no more entries in them than this.
pub record Judged (list : List ℕ) (least : ℕ) (rest : List ℕ) : Type 0 where
  pub most : ℕ
  pub enough : length rest ≤ most
  pub same : entries_broken most least rest ≡ entries_broken (length list) 0 list

pub judged_all : (list : List ℕ) → Judged list 0 list
judged_all list = record { most = length list; enough = omega arith; same = refl }

module _ (list : List ℕ) (least : ℕ) (rest : List ℕ) (left : Judged list least rest) where
  pub judged_here : 0 < length rest → entry_broken least rest ≡ true → true ≡ entries_broken (length list) 0 list
  judged_here h e = go left.most ∙ left.same
    where
      go : (most : ℕ) → true ≡ entries_broken most least rest
      go zero = unfold entries_broken in (sym (lt-ltb 0 (length rest) h))
      go (suc most) = or_here _ e ∙ sym (broken_step most least rest h)

  pub judged_on : 0 < length rest → entry_broken least rest ≡ false → Judged list (suc (first rest)) (drop (entry_size rest) rest)
  judged_on h e = go left.most left.enough left.same
    where
      go : (most : ℕ) → length rest ≤ most → entries_broken most least rest ≡ entries_broken (length list) 0 list → Judged list (suc (first rest)) (drop (entry_size rest) rest)
      go zero k same = absurd (omega arith)
      go (suc most) k same =
          record {
            most = most;
            enough = omega (arith, length-drop (entry_size rest) rest);
            same = or-next e refl ∙ sym (broken_step most least rest h) ∙ same;
          }

  -- where no entry can be split off, what is left is cut short, or nothing
  pub judged-end : length rest < entry_size rest → ltb 0 (length rest) ≡ entries_broken (length list) 0 list
  judged-end h = go (ltb 0 (length rest)) (ltb-true 0 (length rest)) (ltb-false 0 (length rest))
    where
      go : (t : Bool) → (t ≡ true → 0 < length rest) → (t ≡ false → length rest ≤ 0) → t ≡ entries_broken (length list) 0 list
      go true y n = judged_here (y refl) (cut_short least rest h)
      go false y n = sym (broken-end left.most least rest (n refl)) ∙ left.same

-- a list that is not too long
pub by_entries : (list : List ℕ) (t : Bool) → length list ≤ 8192 → t ≡ entries_broken (length list) 0 list → t ≡ list_broken list
unfolding list_broken
by_entries list t h e = or-next (le-ltb 8192 (length list) h) e

-- ---- a list from byte i on

pub part-all : (list : List ℕ) (i : ℕ) → take (length list - i) (drop i list) ≡ drop i list
part-all list i = take_all (length list - i) (drop i list) (omega (arith, length-drop i list))
