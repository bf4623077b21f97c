-- The font that the small file of main_loop_fonts/specs/Example means, as it is lent (R497): its entry is at the first instruction, its
-- kern a value. Theorem `small-font-taken` of proofs/Example: it is a font of which theorem `every-written-font` speaks, written into that file.
use Rattle.std.specs.Prelude.{[], ◌∷◌, pos, negsuc}
use Rattle.files.specs.Writing.{Writable, writable}

abbrev pub small_font : Writable
small_font =
    writable (pos 0 ∷ pos 97 ∷ pos 0 ∷ pos 1048576 ∷ negsuc 0 ∷ pos 98 ∷ pos 2 ∷ pos 99 ∷ []) [] (pos 97 ∷ pos 0 ∷ []) (pos 33) (pos 1)
