-- What TeX checks when it loads a file, of each instruction and character.
-- Assumes nothing.
use mathlib.Core.Path.{◌≡◌, refl, sym, ◌∙◌}
use mathlib.Core.Bool.{Bool, true, false, cond}
use mathlib.Core.List.{List}
use Prim.Native.Nat.{ℕ, ◌+◌, ◌-◌, ◌*◌, ◌<◌, ◌≤◌}
use native.Mathlib.Omega.{arith}
use lib.Dec.{leb, ltb}
use borrow.Author.Tests.{lt-ltb, le-leb, lt-leb, leb-true, ltb-true}
use Rattle.lang.specs.Every.{both, every}
use Rattle.lang.proofs.Every.{both_left, both_right, every_at}
use Rattle.files.specs.Lengths.{lengths_of, lengths_refusal}
use Rattle.files.specs.Commands.{is_lig_tagged}
use Rattle.files.proofs.Lengths.{taken_fits}
use Rattle.main_loop_fonts.specs.Search.{skip_byte, op_byte, rem_byte, restart_at, char_info, has_program, lig_kern_start, loads_start, loads_next, loads_kern}
use Rattle.main_loop_fonts.specs.Search.{loads_instruction, tex_loads}

pub record TexLoads (file : List ℕ) : Type 0 where
  pub starts : (c : ℕ) → has_program file c ≡ true → lig_kern_start file c < (lengths_of file).nl
  pub restarts : (k : ℕ) → k < (lengths_of file).nl → 128 < skip_byte file k → restart_at file k < (lengths_of file).nl
  pub nexts : (k : ℕ) → k < (lengths_of file).nl → skip_byte file k < 128 → k + skip_byte file k + 1 < (lengths_of file).nl
  pub kerns : (k : ℕ) → k < (lengths_of file).nl → skip_byte file k ≤ 128 → 128 ≤ op_byte file k →
      256 * (op_byte file k - 128) + rem_byte file k < (lengths_of file).nk

module _ (file : List ℕ) (ok : lengths_refusal file ≡ 0) (test : tex_loads file ≡ true) where
  start_at : (c : ℕ) → c < 256 → loads_start file c ≡ true
  start_at c h = every_at 256 c (loads_start file) (both_left (every 256 (loads_start file)) (every (lengths_of file).nl (loads_instruction file)) test) h

  instruction_at_lem : (k : ℕ) → k < (lengths_of file).nl → loads_instruction file k ≡ true
  instruction_at_lem k h =
      every_at (lengths_of file).nl k (loads_instruction file)
      (both_right (every 256 (loads_start file)) (every (lengths_of file).nl (loads_instruction file)) test) h

  -- a character with a program is one of the file
  is_char : (c : ℕ) → has_program file c ≡ true → c < 256
  is_char c t =
      let a = both_right (leb (lengths_of file).bc c) (both (leb c (lengths_of file).ec) (is_lig_tagged file (char_info file c))) t in
      omega (arith, leb-true c (lengths_of file).ec (both_left (leb c (lengths_of file).ec) (is_lig_tagged file (char_info file c)) a), (taken_fits file ok).high)

  plain_at : (k : ℕ) → k < (lengths_of file).nl → skip_byte file k ≤ 128 → both (loads_next file k) (loads_kern file k) ≡ true
  plain_at k h l = rw (le-leb (skip_byte file k) 128 l) at (instruction_at_lem k h)

  pub loaded : TexLoads file
  loaded =
      record {
        starts = λ c t. ltb-true (lig_kern_start file c) (lengths_of file).nl (rw t at (start_at c (is_char c t)));
        restarts = λ k h l. ltb-true (restart_at file k) (lengths_of file).nl (rw (lt-leb (skip_byte file k) 128 l) at (instruction_at_lem k h));
        nexts =
            λ k h l.
            ltb-true (k + skip_byte file k + 1) (lengths_of file).nl
            (rw (lt-ltb (skip_byte file k) 128 l) at (both_left (loads_next file k) (loads_kern file k) (plain_at k h (omega arith))));
        kerns =
            λ k h l m.
            ltb-true (256 * (op_byte file k - 128) + rem_byte file k) (lengths_of file).nk
            (rw (le-leb 128 (op_byte file k) m) at (both_right (loads_next file k) (loads_kern file k) (plain_at k h l)));
      }
