-- How many bytes of the list an answer says; 0 where it says none.
use Rattle.std.specs.Prelude.{ℕ}
use Rattle.file_load.specs.declared.Loaded.{Loaded}
use Rattle.file_load.specs.declared.Loaded.TheVariants as Answer

abbrev pub loaded_bytes : Loaded → ℕ
loaded_bytes (Answer.Bytes n) = n
loaded_bytes Answer.Missing = 0
loaded_bytes (Answer.Unreadable e) = 0
loaded_bytes Answer.TooLong = 0
