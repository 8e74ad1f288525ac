-- What `printout` and `reason_text` write is what the documents say, byte for byte.
use Prim.Native.Nat.{ℕ}
use mathlib.Core.Path.{◌≡◌, refl, sym, ◌∙◌, ap}
use mathlib.Core.List.{List, [], ◌∷◌, ◌++◌, append_assoc}
use lib.IntN.{ℤ, pos, negsuc}
use Rattle.meaning.specs.Words.{Action}
use Rattle.meaning.specs.Node.{Verdict, verdict_number}
use Rattle.trace_form.specs.Trace.{Entry, kind_of, action_of, stamp_of}
use Rattle.line_text.specs.Text.{decimal}
use Rattle.printout.specs.Text.{letter, word, header_text, line_text, end_text, stop_text}
use Rattle.printout.specs.Named.{named_header_text, front_text, back_text, shown_name, named_line_text}
use Rattle.reason_text.specs.Reason.{signed, reached_text, placed_text, blind_text, stop_alone_text}
use Rattle.demands.specs.Texts.{bytes, header, Row, kind_text, action_text, stamp_text, verdict_text, row_text, end_line, stop_line}
use Rattle.demands.specs.Texts.{named_header, or_none, name_text, named_row_text, reached_line, moment_text, placed_line, blind_line, stop_alone_line}

-- ---- letters and words

letter-says : (e : Entry) → letter (kind_of e) ∷ [] ≡ kind_text e
unfolding letter
letter-says (Entry.input k t) = refl
letter-says (Entry.output k t) = refl
letter-says (Entry.gap n t) = refl

action-says : (e : Entry) → decimal (action_of e) ≡ action_text e
action-says (Entry.input k t) = refl
action-says (Entry.output k t) = refl
action-says (Entry.gap n t) = refl

stamp-says : (e : Entry) → decimal (stamp_of e) ≡ stamp_text e
stamp-says (Entry.input k t) = refl
stamp-says (Entry.output k t) = refl
stamp-says (Entry.gap n t) = refl

word-says : (v : Verdict) → word (verdict_number v) ≡ verdict_text v
unfolding word
word-says Verdict.clear = refl
word-says Verdict.suspect = refl
word-says Verdict.certain = refl
word-says Verdict.blind = refl

-- ---- The lines. `printout::header`, `end`, `stop` and `named_header`;
pub demand_header : (header_text ≡ header) × (named_header_text ≡ named_header)
unfolding header_text named_header_text
demand_header = (refl, refl)

pub demand_last : (count refusal : ℕ) → (end_text count ≡ end_line count) × (stop_text count refusal ≡ stop_line count refusal)
unfolding end_text stop_text
demand_last count refusal = (refl, simp append_assoc)

-- `line`, of the numbers of a record and of a verdict;
pub demand_line : (r : Row)
    → line_text r.number (kind_of r.entry) (action_of r.entry) (stamp_of r.entry) (verdict_number r.verdict) r.open_count ≡ row_text r
unfolding line_text
demand_line r =
    let e = r.entry in
    grouped (decimal r.number) (letter (kind_of e)) (decimal (action_of e)) (decimal (stamp_of e)) (word (verdict_number r.verdict)) (decimal r.open_count)
    ∙ (λ i.
    (decimal r.number ++ bytes " " ++ letter-says e i ++ bytes " " ++ action-says e i ++ bytes " ")
    ++ (stamp-says e i ++ bytes " " ++ word-says r.verdict i ++ bytes " " ++ decimal r.open_count ++ bytes "\n"))
  where
    seven : (a b c d e f g : List ℕ) → a ++ b ++ c ++ d ++ e ++ f ++ g ≡ a ++ (b ++ (c ++ (d ++ (e ++ (f ++ g)))))
    seven a b c d e f g = simp append_assoc

    twelve : (a b c d e f g h i j k l : List ℕ)
        → (a ++ b ++ c ++ d ++ e ++ f) ++ (g ++ h ++ i ++ j ++ k ++ l) ≡ a ++ (b ++ (c ++ (d ++ (e ++ (f ++ (g ++ (h ++ (i ++ (j ++ (k ++ l))))))))))
    twelve a b c d e f g h i j k l = simp append_assoc

    grouped : (n : List ℕ) (k : ℕ) (a t w o : List ℕ)
        → n ++ (32 ∷ k ∷ []) ++ (32 ∷ a) ++ (32 ∷ t) ++ (32 ∷ w) ++ (32 ∷ o) ++ (10 ∷ [])
        ≡ (n ++ (32 ∷ []) ++ (k ∷ []) ++ (32 ∷ []) ++ a ++ (32 ∷ [])) ++ (t ++ (32 ∷ []) ++ w ++ (32 ∷ []) ++ o ++ (10 ∷ []))
    grouped n k a t w o = seven n _ _ _ _ _ _ ∙ sym (twelve n _ (k ∷ []) _ a _ t _ w _ o _)

-- the line with a name, which `named::record` adds;
pub demand_named_line : (names : Action → List ℕ) (r : Row) (name : List ℕ) → or_none name ≡ name_text names r.entry
    → named_line_text r.number (kind_of r.entry) (action_of r.entry) name (stamp_of r.entry) (verdict_number r.verdict) r.open_count
    ≡ named_row_text names r
unfolding named_line_text front_text back_text
demand_named_line names r name q =
    let e = r.entry in
    grouped (decimal r.number) (letter (kind_of e)) (decimal (action_of e)) (shown_name name) (decimal (stamp_of e)) (word (verdict_number r.verdict)) (decimal r.open_count)
    ∙ (λ i.
    (decimal r.number ++ bytes " " ++ letter-says e i ++ bytes " " ++ action-says e i ++ bytes " ")
    ++ (shown i ++ bytes " " ++ (stamp-says e i ++ bytes " " ++ word-says r.verdict i ++ bytes " " ++ decimal r.open_count ++ bytes "\n")))
  where
    dash : (name : List ℕ) → shown_name name ≡ or_none name
    dash [] = unfold shown_name in refl
    dash (b ∷ name) = unfold shown_name in refl

    shown : shown_name name ≡ name_text names r.entry
    shown = dash name ∙ q

    grouped : (n : List ℕ) (k : ℕ) (a m t w o : List ℕ)
        → (n ++ (32 ∷ k ∷ []) ++ (32 ∷ a)) ++ (32 ∷ m) ++ ((32 ∷ t) ++ (32 ∷ w) ++ (32 ∷ o) ++ (10 ∷ []))
        ≡ (n ++ (32 ∷ []) ++ (k ∷ []) ++ (32 ∷ []) ++ a ++ (32 ∷ [])) ++ (m ++ (32 ∷ []) ++ (t ++ (32 ∷ []) ++ w ++ (32 ∷ []) ++ o ++ (10 ∷ [])))
    grouped n k a m t w o = simp append_assoc

two_fields : (w n : List ℕ) → w ++ (32 ∷ n) ++ (10 ∷ []) ≡ w ++ (32 ∷ []) ++ n ++ (10 ∷ [])
two_fields w n = simp append_assoc

-- and `reason_text::reached`, `placed`, `blind` and `stop`.
pub demand_reached : (verdict : Verdict) (line : ℕ) → reached_text (verdict_number verdict) line ≡ reached_line verdict line
unfolding reached_text
demand_reached verdict line =
    ap (λ (w : List ℕ). w ++ (32 ∷ decimal line) ++ (10 ∷ [])) (word-says verdict) ∙ two_fields (verdict_text verdict) (decimal line)

pub demand_placed : (number : ℕ) (moment : ℤ) → placed_text number moment ≡ placed_line number moment
unfolding placed_text
demand_placed number moment = ap (λ (m : List ℕ). decimal number ++ (32 ∷ m) ++ (10 ∷ [])) (sign moment) ∙ two_fields (decimal number) (moment_text moment)
  where
    sign : (m : ℤ) → signed m ≡ moment_text m
    sign (pos n) = unfold signed in refl
    sign (negsuc n) = unfold signed in refl

pub demand_alone : (refusal : ℕ) → (blind_text ≡ blind_line) × (stop_alone_text refusal ≡ stop_alone_line refusal)
unfolding blind_text stop_alone_text
demand_alone refusal = (refl, refl)
