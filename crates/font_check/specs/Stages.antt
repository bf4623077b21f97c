-- What was read, compiled: what each part of checking a file ensures. The contract of the whole is font_checks/specs/Checked.
use Rattle.std.specs.Prelude.{◌≡◌, List, ℕ, ◌*◌, ◌≤◌, ℤ, length, take}
use Rattle.fonts.specs.declared.Compiled.{Compiled}
use Rattle.fonts.specs.declared.Compiled.TheVariants as Compile
use Rattle.fonts.specs.Fonts.{font_of}
use Rattle.fonts.specs.Compiled.{Compiles}
use Rattle.file_fonts.specs.declared.FileFont.{FileFont}
use Rattle.file_fonts.specs.declared.FileFont.TheVariants as Read
use Rattle.font_check_parts.specs.CheckParts.{TablesZero}

-- how many instructions, kerns and entries were read
abbrev pub program_count : FileFont → ℕ
program_count (Read.Font n k e m boundary left design) = n
program_count (Read.Refused x) = 0

abbrev pub kern_count : FileFont → ℕ
kern_count (Read.Font n k e m boundary left design) = k
kern_count (Read.Refused x) = 0

abbrev pub entry_count : FileFont → ℕ
entry_count (Read.Font n k e m boundary left design) = e
entry_count (Read.Refused x) = 0

-- the lists that they stand in are as long
pub record CountsFit (font : FileFont) (instructions kerns entries : List ℤ) : Type 0 where
  pub program : 4 * program_count font ≤ length instructions
  pub kern_list : kern_count font ≤ length kerns
  pub entry_list : 2 * entry_count font ≤ length entries

-- what was read, compiled at its design size; what was refused stays refused
abbrev pub CompilesRead : FileFont → List ℤ → List ℤ → List ℤ → List ℤ → List ℤ → List ℤ → List ℕ → Compiled → List ℤ → List ℤ → List ℤ →
    List ℕ → Type 0
CompilesRead (Read.Font n k e m boundary left design) instructions kerns entries pairs ops loops work r pairs' ops' loops' work' =
    Compiles (font_of (take (4 * n) instructions) (take k kerns) (take (2 * e) entries) boundary left design) 0 pairs ops loops work r
    pairs' ops' loops' work'
CompilesRead (Read.Refused x) instructions kerns entries pairs ops loops work r pairs' ops' loops' work' =
    (r ≡ Compile.Refused x) × TablesZero pairs ops loops work pairs' ops' loops' work'
