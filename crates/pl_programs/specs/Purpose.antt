-- What is read from a text is a program of kern values and ligatures: proofs/Theorems proves it.
use Rattle.std.specs.Prelude.{◌≡◌, false, List, ℕ, ◌*◌, ◌<◌, ◌≤◌, pos, length, get_or}
use Rattle.std.proofs.Math.Option.{some}
use Rattle.std.specs.Int.{w32}
use Rattle.std.proofs.Common.{SFits}
use Rattle.lang.specs.Records.{count, is_kind}
use Rattle.lang.specs.Checks.{program_refusal}
use Rattle.property_lists.specs.ListReading.{ListRead, pl_read}

-- four numbers a step, all of them i32; neither 1 nor 2 of at most 32,767 steps; no kern index
pub record ReadProgram (r : ListRead) : Type 0 where
  pub fours : length r.program ≡ 4 * r.now.steps
  pub fits : (i : ℕ) → SFits w32 (get_or r.program i (pos 0))
  pub taken : r.now.steps ≤ 32767 → program_refusal r.program ≡ 0
  pub no_index : (i : ℕ) → i < count r.program → is_kind 1 r.program i ≡ false

-- of every text that is read
abbrev pub ReadIsProgram : Type 0
ReadIsProgram = (text : List ℕ) (r : ListRead) → pl_read text ≡ some r → ReadProgram r
