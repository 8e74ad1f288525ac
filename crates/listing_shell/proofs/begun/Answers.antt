-- `listing_shell::begun` meets its contract: what the property adds is that of the bytes that came.
use Rattle.std.proofs.Common.{◌≡◌, ◌≤◌, ℕ, List, true, false, refl, sym, subst, take}
use Rattle.io.specs.Counts.{IsPrefixLen}
use Rattle.property_form.specs.Form.{form_size}
use Rattle.property_form.specs.Read.{length_read}
use Rattle.session_record.specs.Record.{out_of_range}
use Rattle.printed.specs.declared.Printed.{Printed}
use Rattle.printed.specs.Printed.{begun_of}
use Rattle.printed.proofs.Walks.{begins_fit}
use Rattle.listing_shell.specs.Next.{Begun}
use Rattle.listing_shell.proofs.begun.Goals as goal

-- of so many bytes
begins : (n : ℕ) (form : List ℕ) → IsPrefixLen n form × (n ≤ form_size (length_read (take n form))) → Begun (begun_of (take n form))
begins n form h = record { bytes = take n form; few = subst (λ (k : ℕ). k ≤ form_size (length_read (take n form))) h.0.1 h.1; adds = refl }

pub returns : goal.returns
returns g c =
    let f = c.read_form-got in
    subst (λ (p : Printed). Begun p × (p.more ≡ true → out_of_range p.session ≡ false)) (sym c.begin.ensures)
    (begins f.result f.new.form f.ensures, begins_fit _)
