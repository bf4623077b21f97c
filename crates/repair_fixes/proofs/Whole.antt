-- One step more, warned of and repaired; and both passes together: the warnings of skips, and then those of steps.
-- Assumes nothing.
use mathlib.Core.Path.{◌≡◌, refl, sym, ◌∙◌, subst}
use mathlib.Core.Bool.{Bool, true, false}
use mathlib.Core.List.{List}
use Prim.Native.Nat.{ℕ, ◌+◌, ◌*◌, ◌<◌}
use lib.IntN.{ℤ}
use lib.Seq.{sets}
use mir.Syntax.{w32}
use mir.Val.{SFits}
use Rattle.words.specs.Words.{word_of, number_of}
use Rattle.words.proofs.Bits.{number_word}
use Rattle.lang.specs.Records.{count}
use Rattle.repairs.specs.Damaged.{DamagedProgram, program_by}
use Rattle.repairs.specs.Repaired.{repaired_step}
use Rattle.repairs.specs.Warnings.{skip_warnings, step_warnings}
use Rattle.repairs.proofs.Pushing.{pushed_none}
use Rattle.repair_fixes.specs.Fixing.{is_fixable, Fixes}
use Rattle.repair_fixes.specs.StepFixes.{PushedUpTo, FixesUpto}
use Rattle.repair_fixes.proofs.Pushes.{and_then, steps_none, steps_more}
use Rattle.repair_fixes.proofs.Writes.{written_none, written_more}

module _ (p : DamagedProgram) where
  pub fixes_none : (n : ℕ) (fixed warnings : List ℤ) → FixesUpto p 0 n fixed warnings n fixed warnings
  fixes_none n fixed warnings = record { instructions = written_none p fixed; warned = steps_none p warnings n }

  pub fixes_more : (k : ℕ) {n m : ℕ} {fixed warnings f₁ f₂ w₁ w₂ : List ℤ} {r : ℕ} → FixesUpto p k n fixed warnings m f₁ w₁ →
      PushedUpTo 5 w₁ m (step_warnings p k) w₂ r → f₂ ≡ sets f₁ (4 * k) (repaired_step p k) → FixesUpto p (k + 1) n fixed warnings r f₂ w₂
  fixes_more k {fixed = fixed} {f₁ = f₁} {f₂} a b c =
      record { instructions = written_more p k fixed f₁ f₂ a.instructions c; warned = steps_more p k a.warned b }

  -- nothing is done
  pub untouched : (n : ℕ) (fixed warnings : List ℤ) → is_fixable p n ≡ false → Fixes p n fixed warnings n fixed warnings
  untouched n fixed warnings h = record { instructions = rw h; warned = rw h (pushed_none warnings n) }

-- the boundary character is passed on by its 32 bits
module _ (s kerns : List ℤ) (boundary : ℤ) (replacement : ℕ) (existing marks through : List ℕ) (fits : SFits w32 boundary) where
  -- the program with the boundary character b
  abbrev lent : ℤ → DamagedProgram
  lent b = program_by s kerns b replacement existing marks through

  pub fixes_whole : {k n m : ℕ} {fixed warnings w₁ : List ℤ} {r : ℕ} {fixed' warnings' : List ℤ} → is_fixable (lent boundary) n ≡ true →
      PushedUpTo k warnings n (skip_warnings (lent (number_of (word_of boundary))) (count s)) w₁ m →
      FixesUpto (lent (number_of (word_of boundary))) (count s) m fixed w₁ r fixed' warnings' → Fixes (lent boundary) n fixed warnings r fixed' warnings'
  fixes_whole {n = n} {fixed = fixed} {warnings} {r = r} {fixed'} {warnings'} h a b =
      subst (λ (z : ℤ). Fixes (lent z) n fixed warnings r fixed' warnings') (number_word boundary fits)
      (record { instructions = rw h b.instructions; warned = rw h (and_then a b.warned).pushed })
