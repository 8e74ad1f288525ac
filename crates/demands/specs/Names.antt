-- Document 02, CR 2: a list of names, bit by bit, and the second program's input.
use Rattle.std.specs.Prelude.{ℕ, ◌+◌, ◌||◌, List, [], ◌∷◌, ◌++◌, length, take, drop, ltb}
use Rattle.meaning.specs.Words.{Action}
use Rattle.meaning.specs.Numbers.{given, first_of}
use Rattle.fields.specs.Fields.{field, bits, form}
use Rattle.name_list.specs.Names.{Entry, list_broken}
use Rattle.demands.specs.Packed.{property_bytes}

-- "1 bit direction, 1 zero bit, 6 bits action, then a length byte"; as in a property, "0 input, 1 output".
abbrev pub entry_bits : Action → (size : ℕ) → List ℕ
entry_bits (Action.input k) size = bits 1 0 ++ bits 1 0 ++ bits 6 k ++ bits 8 size
entry_bits (Action.output k) size = bits 1 1 ++ bits 1 0 ++ bits 6 k ++ bits 8 size

-- "A name list is packed entries: .., then that many bytes"
unfoldable pub packed_list : List Entry → List ℕ
packed_list [] = []
packed_list (e ∷ rest) = (form (entry_bits e.action (length e.name)) ++ e.name) ++ packed_list rest

-- "the two lists, each behind two bytes of its length": the list at the front, and what stands behind it.
abbrev pub list_front : List ℕ → List ℕ
list_front input = take (field input 0 16) (drop 2 input)

abbrev pub list_behind : List ℕ → List ℕ
list_behind input = drop (field input 0 16) (drop 2 input)

-- "a bad list (7 if cut short)", with its number: 11 for the site's, 12 for the release's.
abbrev pub list_number : ℕ → List ℕ → ℕ
list_number number input =
    first_of (given 7 (ltb (length input) 2 || ltb (length input) (2 + field input 0 16))) (given number (list_broken (list_front input)))

-- "then the input of the first program": the property at the front of it, of 122 + 7n bits, and the records behind it.
abbrev pub property_front : List ℕ → List ℕ
property_front log = take (property_bytes (field log 0 6)) log

abbrev pub property_behind : List ℕ → List ℕ
property_behind log = drop (property_bytes (field log 0 6)) log
