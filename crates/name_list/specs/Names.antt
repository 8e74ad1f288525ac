-- Document 02, CR 2: "A name list is packed entries: 1 bit direction, 1 zero bit, 6 bits action, then a length byte from 1 to 40,
-- then that many bytes from 33 to 126, with first bytes strictly rising."
use Rattle.std.specs.Prelude.{ℕ, zero, suc, ◌+◌, ◌/◌, ◌%◌, ◌≤◌, Bool, false, ◌&&◌, ◌||◌, not, cond, List, [], ◌∷◌, ◌++◌, length, take, drop, get_or, ltb, eqb}
use Rattle.meaning.specs.Words.{Action}
pub use Rattle.meaning.specs.Words.{action_number}

-- What an entry says: this action has this name.
pub record Entry : Type 0 where
  pub action : Action
  pub name : List ℕ

-- "1 bit direction, 1 zero bit, 6 bits action": an output's is 128 more.
abbrev pub first_byte : Action → ℕ
first_byte (Action.input k) = k
first_byte (Action.output k) = 128 + k

abbrev pub entry_form : Entry → List ℕ
entry_form e = first_byte e.action ∷ length e.name ∷ e.name

-- A list is its entries, one behind the other.
unfoldable pub list_form : List Entry → List ℕ
list_form [] = []
list_form (e ∷ rest) = entry_form e ++ list_form rest

-- ---- The rules of a list's bytes

-- The first byte of the entry at the front, its length byte, the number of its bytes, and its name.
abbrev pub first : List ℕ → ℕ
first bytes = get_or bytes 0 0

abbrev pub name_size : List ℕ → ℕ
name_size bytes = get_or bytes 1 0

abbrev pub entry_size : List ℕ → ℕ
entry_size bytes = 2 + name_size bytes

abbrev pub name_read : List ℕ → List ℕ
name_read bytes = take (name_size bytes) (drop 2 bytes)

-- "a byte outside 33 to 126"
unfoldable pub any_outside : List ℕ → Bool
any_outside [] = false
any_outside (b ∷ rest) = (ltb b 33 || ltb 126 b) || any_outside rest

-- "the zero bit not zero"
abbrev pub zero_bit_set : ℕ → Bool
zero_bit_set b = not (eqb (b / 64 % 2) 0)

-- "a length byte of 0 or above 40"
abbrev pub size_outside : ℕ → Bool
size_outside n = ltb n 1 || ltb 40 n

-- The entry at the front of the bytes breaks a rule: it is "cut short", its zero bit is not zero, its first byte is below `least` (the
-- one before, and one more), its length byte or a byte of its name is outside.
unfoldable pub entry_broken : ℕ → List ℕ → Bool
entry_broken least bytes =
    ltb (length bytes) (entry_size bytes)
    || (zero_bit_set (first bytes) || (ltb (first bytes) least || (size_outside (name_size bytes) || any_outside (name_read bytes))))

-- One of at most so many entries does: there is one, and it does or one behind it.
unfoldable pub entries_broken : ℕ → ℕ → List ℕ → Bool
entries_broken zero least bytes = ltb 0 (length bytes)
entries_broken (suc most) least bytes =
    ltb 0 (length bytes) && (entry_broken least bytes || entries_broken most (suc (first bytes)) (drop (entry_size bytes) bytes))

-- "A list above 8,192 bytes counts as broken." There are no more entries than bytes.
unfoldable pub list_broken : List ℕ → Bool
list_broken list = ltb 8192 (length list) || entries_broken (length list) 0 list

-- ---- What a list means

-- The action whose first byte this is.
abbrev pub action_read : ℕ → Action
action_read b = cond (eqb (b / 128) 0) (Action.input (b % 64)) (Action.output (b % 64))

abbrev pub entry_read : List ℕ → Entry
entry_read bytes = record { action = action_read (first bytes); name = name_read bytes }

unfoldable pub entries_read : ℕ → List ℕ → List Entry
entries_read zero bytes = []
entries_read (suc most) bytes = cond (ltb 0 (length bytes)) (entry_read bytes ∷ entries_read most (drop (entry_size bytes) bytes)) []

-- The entries of a list.
unfoldable pub entries : List ℕ → List Entry
entries list = entries_read (length list) list

-- The name of an action: no bytes where it has no entry.
unfoldable pub name_in : List Entry → Action → List ℕ
name_in [] a = []
name_in (e ∷ rest) a = cond (eqb (first_byte e.action) (first_byte a)) e.name (name_in rest a)

-- What a list means: a map from action to name.
abbrev pub names_in : List ℕ → Action → List ℕ
names_in list = name_in (entries list)

-- ---- The same rules of entries, with no bytes: what `list_broken` is proved to refuse, no more and no less

unfoldable pub AllInside : List ℕ → Type 0
AllInside [] = Unit {0}
AllInside (b ∷ rest) = (33 ≤ b) × (b ≤ 126) × AllInside rest

pub record EntryGood (e : Entry) : Type 0 where
  -- "k from 0 to 63"
  pub action_fits : action_number e.action ≤ 63
  pub some : 1 ≤ length e.name
  pub most : length e.name ≤ 40
  pub inside : AllInside e.name

-- "with first bytes strictly rising"
unfoldable pub Rising : ℕ → List Entry → Type 0
Rising least [] = Unit {0}
Rising least (e ∷ rest) = (least ≤ first_byte e.action) × EntryGood e × Rising (suc (first_byte e.action)) rest
