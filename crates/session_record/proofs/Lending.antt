-- A record that refusal 10 does not name, lent, and what is given back of it.
use Rattle.std.specs.Prelude.{Result, Ok, Err, MatchResult}
use mathlib.Core.Path.{◌≡◌, refl, sym, ◌∙◌, ap, subst}
use mathlib.Core.Bool.{false}
use mathlib.Core.List.{List}
use Prim.Native.Nat.{ℕ}
use Rattle.meaning.specs.Calls.{Call}
use Rattle.outcomes.specs.declared.Refusal.{Refusal}
use Rattle.outcomes.proofs.Same.{refusal_not_0}
use Rattle.property.specs.declared.Property.{Property}
use Rattle.rows.specs.declared.Span.{Span}
use Rattle.rows.specs.Rows.{Within, Room}
use Rattle.session_record.specs.declared.Session.{Session}
use Rattle.session_record.specs.declared.Told.{Told}
use Rattle.session_record.specs.declared.Stepped.{Stepped}
use Rattle.session_record.specs.Record.{rows_of, out_of_range}
use Rattle.session_record.specs.Step.{answer_in, stepping_in, stepped_of}
use Rattle.session_record.specs.Lent.{Memory, memory, memory_of, record_in, Ready, Advanced}
use Rattle.session_record.proofs.Ready.{lent-ready, by_value_taken, by_value_refused}

module _ (s : Session) (fit : out_of_range s ≡ false) (p : Property) (own : p ≡ s.property) (rows : List (List ℕ)) (same : rows ≡ rows_of s) where
  -- A call can start from it.
  pub lends : ((span : Span) → Within span → Room rows span) → Ready (memory p rows s.shared.status)
  lends rooms = subst (λ (q : Property). Ready (memory q rows s.shared.status)) (sym own) (lent-ready s fit rows same rooms)

  -- What it means is what the record means.
  pub lent_is : memory p rows s.shared.status ≡ memory_of s
  lent_is = λ i. memory (own i) (same i) s.shared.status

  module _ (k : Call) (r : Result Told Refusal) {after : Memory} (h : Advanced (memory p rows s.shared.status) k (answer_in r) after) where
    led : (x : Result Told Refusal) → r ≡ x → Advanced (memory_of s) k (answer_in x) after
    led x e = subst (λ (m : Memory). Advanced m k (answer_in x) after) lent_is (subst (λ (y : Result Told Refusal). Advanced (memory p rows s.shared.status) k (answer_in y) after) e h)

    -- taken: the session after it,
    pub taken_back : (told : Told) → r ≡ Ok told → (t : Session) → t ≡ record_in after → stepping_in (record { answer = Ok told; session = t }) ≡ stepped_of s k
    taken_back told e t is =
        ap (λ (x : Session). stepping_in (record { answer = Ok told; session = x })) is ∙ by_value_taken s fit k (answer_in (Ok told)) after (led (Ok told) e) refl

    -- and refused, the record as it was.
    pub refused_back : (refusal : Refusal) → r ≡ Err refusal → (t : Stepped) → t ≡ record { answer = Err refusal; session = s } → stepping_in t ≡ stepped_of s k
    refused_back refusal e t is =
        ap stepping_in is ∙ by_value_refused s fit k (answer_in (Err refusal)) after (led (Err refusal) e) (refusal_not_0 refusal)

    -- So for either.
    pub given : (t : Stepped)
        → MatchResult r (λ told. t ≡ record { answer = Ok told; session = record_in after }) (λ refusal. t ≡ record { answer = Err refusal; session = s })
        → stepping_in t ≡ stepped_of s k
    given t = by_case r refl
      where
        by_case : (x : Result Told Refusal) → r ≡ x
            → MatchResult x (λ told. t ≡ record { answer = Ok told; session = record_in after }) (λ refusal. t ≡ record { answer = Err refusal; session = s })
            → stepping_in t ≡ stepped_of s k
        by_case (Ok told) e h = ap stepping_in h ∙ taken_back told e (record_in after) refl
        by_case (Err refusal) e h = refused_back refusal e t h
