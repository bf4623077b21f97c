-- What is proved of the two: proofs/Theorems proves each.
use Rattle.std.specs.Prelude.{◌≡◌, ℕ, ◌+◌, ◌<◌, ◌≤◌, ℤ, pos, length}
use Rattle.std.proofs.Math.Option.{some}
use Rattle.std.specs.Int.{w32}
use Rattle.std.proofs.Common.{SFits}
use Rattle.points.specs.Printing.{decimals_from, scaled_text}
use Rattle.points.specs.Scanning.{scaled_of}

-- five decimals are enough: with room for more the loop of TeX 103 prints the same
abbrev pub FiveSuffice : Type 0
FiveSuffice = (more s : ℕ) → decimals_from (5 + more) 10 s ≡ decimals_from 5 10 s

-- what is printed for a size is read as that size (TeX 103 says so)
abbrev pub ReadBack : Type 0
ReadBack = (n : ℕ) → n < 134217728 → scaled_of (scaled_text (pos n)) ≡ some n

-- what is printed for an i32 has 3 to 12 bytes
abbrev pub FewBytes : Type 0
FewBytes = (z : ℤ) → SFits w32 z → (3 ≤ length (scaled_text z)) × (length (scaled_text z) ≤ 12)
