-- The small file of specs/Example is one that TeX loads, and its words are set as TeX sets them: antt computes it from the bytes. So what `file-read` asks of
-- a file is met by one.
-- Assumes nothing.
use mathlib.Core.Path.{◌≡◌, refl}
use mathlib.Core.Bool.{Bool, true, false}
use mathlib.Core.List.{List, map}
use Prim.Native.Nat.{ℕ, ◌<◌}
use native.Mathlib.Omega.{arith}
use lib.Dec.{ltb}
use lib.ListN.{length, get_or, get_or-eq_default}
use borrow.Author.Tests.{ltb-true, ltb-false}
use Rattle.tfm.specs.Scaled.{to_scaled, halve}
use Rattle.lang.specs.Every.{every}
use Rattle.lang.proofs.Every.{every_at}
use Rattle.files.specs.Lengths.{lengths_refusal}
use Rattle.file_fonts.specs.Purpose.{AreBytes}
use Rattle.main_loops.specs.Loop.{turns}
use Rattle.main_loops.specs.Words.{tex_nodes}
use Rattle.main_loop_fonts.specs.Search.{search_from, tex_loads}
use Rattle.main_loop_fonts.specs.Example.{small_file, small_words, small_made}

-- a list of bytes, by one test
bytes_by : (xs : List ℕ) → every (length xs) (λ i. ltb (get_or xs i 0) 256) ≡ true → (i : ℕ) (t : Bool) → ltb i (length xs) ≡ t → get_or xs i 0 < 256
bytes_by xs h i true t = ltb-true (get_or xs i 0) 256 (every_at (length xs) i (λ j. ltb (get_or xs j 0) 256) h (ltb-true i (length xs) t))
bytes_by xs h i false t = rw (get_or-eq_default xs 0 (ltb-false i (length xs) t)) (omega arith)

pub small_file_bytes : AreBytes small_file
unfolding every
small_file_bytes i = bytes_by small_file refl i (ltb i (length small_file)) refl

pub small_file_taken : lengths_refusal small_file ≡ 0
unfolding every
small_file_taken = refl

pub small_file_loads : tex_loads small_file ≡ true
unfolding every
small_file_loads = refl

pub small_file_set : map small_made small_words ≡ map tex_nodes small_words
unfolding turns search_from to_scaled halve
small_file_set = refl
