-- What the pass of repair over the steps of a program is held to: R171 to R177; TFtoPL 70 to 77.
use Rattle.std.specs.Prelude.{◌≡◌, Bool, cond, List, [], ◌++◌, ℕ, ℤ, leb}
use Rattle.std.proofs.lemmas.List.Edits.{sets}
use Rattle.lang.specs.Every.{both}
use Rattle.lang.specs.Records.{count}
use Rattle.repairs.specs.Damaged.{DamagedProgram}
use Rattle.repairs.specs.Repaired.{repaired_upto}
use Rattle.repairs.specs.Warnings.{skip_warnings, steps_warnings}
use Rattle.repairs.specs.Pushed.{Pushed}

-- at most 32,767 steps (R230), a replacement that is a character (R166), and at most 65,535 warnings before
abbrev pub is_fixable : DamagedProgram → ℕ → Bool
is_fixable p n = both (leb (count p.instructions) 32767) (both (leb p.replacement 255) (leb n 65535))

-- the warnings of skips (3), then those of steps (4 to 9)
abbrev pub fix_warnings : DamagedProgram → List ℤ
fix_warnings p = skip_warnings p (count p.instructions) ++ steps_warnings p (count p.instructions)

-- The repaired steps at the front of `fixed`, and their warnings after n others; what passes the end of a list is left off. Where the
-- program is not fixable, nothing is written, and there are n warnings still.
pub record Fixes (p : DamagedProgram) (n : ℕ) (fixed warnings : List ℤ) (r : ℕ) (fixed' warnings' : List ℤ) : Type 0 where
  pub instructions : fixed' ≡ sets fixed 0 (cond (is_fixable p n) (repaired_upto p (count p.instructions)) [])
  pub warned : Pushed warnings n (cond (is_fixable p n) (fix_warnings p) []) warnings' r
