-- The lists that compiling writes, zeroed, and the answer of checking a file.
use Rattle.std.specs.Prelude.{◌≡◌, List, ℕ, ℤ, pos, length, replicate}
use Rattle.file_fonts.specs.declared.FileFont.{FileFont}
use Rattle.file_fonts.specs.declared.FileFont.TheVariants as Read
use Rattle.font_checks.specs.declared.Checked.{Checked}
use Rattle.font_checks.specs.declared.Checked.TheVariants as Answer

-- the lists that compiling writes are zeros
pub record TablesZero (pairs ops loops : List ℤ) (work : List ℕ) (pairs' ops' loops' : List ℤ) (work' : List ℕ) : Type 0 where
  pub table : pairs' ≡ replicate (length pairs) (pos 0)
  pub ops_table_lem : ops' ≡ replicate (length ops) (pos 0)
  pub loop_list_lem : loops' ≡ replicate (length loops) (pos 0)
  pub cleared : work' ≡ replicate (length work) 0

-- what reading answered, with the counts of pairs, ops and loops
abbrev pub checked_font : FileFont → ℕ → ℕ → ℕ → Checked
checked_font (Read.Font n k e m boundary left design) p o l = Answer.Font n k e m boundary left design p o l
checked_font (Read.Refused x) p o l = Answer.Refused x
