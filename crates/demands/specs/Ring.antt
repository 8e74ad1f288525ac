-- The ring of a session record (document 02, CR 9).
use Rattle.std.specs.Prelude.{ℕ, ◌+◌, ◌%◌, ◌≤◌, ◌<◌, ◌≡◌, false, List, get_or}
use Rattle.session_record.specs.declared.Session.{Session}

abbrev pub start_of : Session → ℕ
start_of s = s.shared.status.span.start

abbrev pub count_of : Session → ℕ
count_of s = s.shared.status.span.count

-- What stands at index i of one of the record's lists: at the place start + i, and behind the last of the 65 comes the first.
abbrev pub at : Session → List ℕ → ℕ → ℕ
at s places i = get_or places ((start_of s + i) % 65) 0

-- Two records, each with its own start, that say the same: "The old list becomes the meaning of the ring". Held input i and the cut before it
-- stand at index i, the last cut at index count; a blind session has no cut. What stands in other places is passed over.
pub record SaysSame (s r : Session) : Type 0 where
  pub property : s.property ≡ r.property
  pub starts : (start_of s ≤ 64) × (start_of r ≤ 64)
  pub count : count_of s ≡ count_of r
  pub latest : s.shared.status.clock.latest ≡ r.shared.status.clock.latest
  pub blind : s.shared.status.clock.blind ≡ r.shared.status.clock.blind
  pub stamps : (i : ℕ) → i < count_of s → at s s.shared.held i ≡ at r r.shared.held i
  pub actions : (i : ℕ) → i < count_of s → at s s.shared.acts i ≡ at r r.shared.acts i
  pub masks : s.shared.status.clock.blind ≡ false → (i : ℕ) → i ≤ count_of s → at s s.row.masks i ≡ at r r.row.masks i
  pub armed : s.shared.status.clock.blind ≡ false → (i : ℕ) → i ≤ count_of s → at s s.row.armed i ≡ at r r.row.armed i
