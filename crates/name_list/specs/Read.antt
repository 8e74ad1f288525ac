-- Document 02, CR 2: a list as the second program reads it.
use Rattle.std.specs.Prelude.{ℕ, ◌+◌, ◌*◌, ◌||◌, List, length, get_or, ltb}
use Rattle.meaning.specs.Numbers.{given, first_of}
use Rattle.name_list.specs.Names.{list_broken}

-- "the two lists, each behind two bytes of its length", most significant first
abbrev pub list_size : List ℕ → ℕ
list_size head = 256 * get_or head 0 0 + get_or head 1 0

-- The refusal of a list by what was read of these two bytes and of the list: "7 if cut short", else the list's own number.
unfoldable pub list_refusal : ℕ → List ℕ → List ℕ → ℕ
list_refusal number head list =
    first_of (given 7 (ltb (length head) 2 || ltb (length list) (list_size head))) (given number (list_broken list))
