-- The small font of specs/Example is taken, so that what `every-written-font` asks is met by a font: antt computes it.
-- Assumes nothing.
use mathlib.Core.Path.{refl}
use mathlib.Core.List.{List}
use Prim.Native.Nat.{ℕ, zero, suc}
use native.Mathlib.Omega.{arith}
use Rattle.words.specs.Lists.{tabulate}
use Rattle.lang.specs.Every.{every}
use Rattle.program_kerns.specs.Kerns.{kern_place, values}
use Rattle.pack_labels.specs.Labels.{insert_label, labels, redirects_from}
use Rattle.pack.specs.Packing.{redirects_to}
use Rattle.files.specs.Purpose.{AreI32}
use Rattle.main_loop_fonts.specs.Example.{small_file}
use Rattle.main_loop_fonts.proofs.Example.{small_file_bytes}
use Rattle.main_loop_writings.specs.Purpose.{WritesForTex}
use Rattle.main_loop_writings.specs.Example.{small_font}

program_fits : AreI32 small_font.instructions
program_fits zero = record { sfits = omega arith }
program_fits (suc zero) = record { sfits = omega arith }
program_fits (suc (suc zero)) = record { sfits = omega arith }
program_fits (suc (suc (suc zero))) = record { sfits = omega arith }
program_fits (suc (suc (suc (suc zero)))) = record { sfits = omega arith }
program_fits (suc (suc (suc (suc (suc zero))))) = record { sfits = omega arith }
program_fits (suc (suc (suc (suc (suc (suc zero)))))) = record { sfits = omega arith }
program_fits (suc (suc (suc (suc (suc (suc (suc zero))))))) = record { sfits = omega arith }
program_fits (suc (suc (suc (suc (suc (suc (suc (suc i)))))))) = record { sfits = omega arith }

pub small_font_taken : WritesForTex small_file small_font 84
unfolding every labels insert_label redirects_from redirects_to values kern_place tabulate
small_font_taken =
    record {
      old_bytes = small_file_bytes;
      program_numbers = program_fits;
      kern_numbers = λ i. record { sfits = omega arith };
      accepted = refl;
      nexts = refl;
    }
