-- The theorems that specs/Purpose states. `meant-lead`: each entry of a file, unpacked, leads to an instruction, by ascending character. `meant-taken`:
-- compiling refuses the font that a file means with none of 1 to 5. Assumes nothing.
use mathlib.Core.Path.{◌≡◌, refl}
use mathlib.Core.Bool.{Bool, true, false, cond}
use mathlib.Core.List.{List}
use Prim.Native.Nat.{ℕ, ◌+◌, ◌*◌, ◌-◌, ◌≤◌}
use native.Mathlib.Omega.{arith}
use lib.Dec.{leb, ltb}
use lib.IntN.{ℤ, pos, negsuc}
use borrow.Author.Tests.{le-leb}
use Rattle.words.proofs.Lists.{length_tabulate}
use Rattle.lang.specs.Every.{both}
use Rattle.lang.specs.Records.{count}
use Rattle.lang.specs.Checks.{absent_refusal, design_refusal}
use Rattle.files.specs.Lengths.{lengths_of, char_count, char_start, command_start, kern_start}
use Rattle.files.specs.Commands.{word_byte, is_first255, kern_number}
use Rattle.files.specs.Reading.{file_instructions}
use Rattle.files.proofs.Lengths.{taken_fits}
use Rattle.file_reading.proofs.Laws.{length_commands}
use Rattle.file_fonts.specs.Meant.{meant_entries, or_ten_points, ten_points}
use Rattle.file_fonts.specs.Purpose.{AreBytes, MeantLead, MeantTaken}
use Rattle.file_fonts.proofs.Ascending.{Ascending, placed, ascends, ascending_taken, file_ascending, unpacked_ascending}
use Rattle.file_fonts.proofs.Programs.{program_taken}

meant_ascending : (file : List ℕ) → AreBytes file →
    Ascending (count (file_instructions file)) (meant_entries file) ((lengths_of file).bc + char_count (lengths_of file))
meant_ascending file bytes =
    unpacked_ascending (file_instructions file)
    (file_ascending file bytes (lengths_of file).bc (char_start (lengths_of file)) (char_count (lengths_of file)))

pub meant_lead : MeantLead
meant_lead file bytes =
    let a = meant_ascending file bytes in
    record {
      below = λ i h. let p = placed a i h in rw p.entry_is p.entry_below;
      ascending = λ i j h l. ascends a i j h l;
    }

-- ---- what is absent or in range

absent_or_lem : (n m : ℕ) (t : Bool) → m ≤ n → absent_refusal n (cond t (pos m) (negsuc 0)) ≡ 0
absent_or_lem n m true h = rw (le-leb m n h)
absent_or_lem n m false h = refl

design_some : (t : Bool) (z : ℤ) → design_refusal (cond t (or_ten_points z) ten_points) ≡ 0
design_some true (pos n) = by (leb 16 n)
  where
    by : (t : Bool) → design_refusal (cond t (pos n) ten_points) ≡ 0
    by true = refl
    by false = refl
design_some true (negsuc n) = refl
design_some false z = refl

pub meant_taken : MeantTaken
meant_taken file bytes ok =
    let f = taken_fits file ok in
    let w = command_start (lengths_of file) in
    let v = kern_start (lengths_of file) - 1 in
    rw (
      program_taken file w bytes (lengths_of file).nl f.small_nl,
      length_tabulate (lengths_of file).nk (λ i. kern_number file (kern_start (lengths_of file) + i)),
      le-leb (lengths_of file).nk 32767 f.small_nk,
      ascending_taken (meant_ascending file bytes) (omega (arith, length_commands file w (lengths_of file).nl, f.small_nl)) (omega (arith, f.low, f.high)),
      absent_or_lem 255 (word_byte file w 1) (both (ltb 0 (lengths_of file).nl) (is_first255 file w)) (omega (arith, bytes (4 * w + 1))),
      absent_or_lem 65535 (256 * word_byte file v 2 + word_byte file v 3) (both (ltb 0 (lengths_of file).nl) (is_first255 file v))
          (omega (arith, bytes (4 * v + 2), bytes (4 * v + 3))),
      design_some (leb 2 (lengths_of file).lh) (kern_number file 7),
    )
