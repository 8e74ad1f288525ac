-- The interface for C. Document 01 has no number for it: include/anthegyra.h says what it stands for and when it goes up.
use Rattle.std.specs.Prelude.{ℕ}

abbrev pub interface_version : ℕ
interface_version = 4
