-- The warnings of a font (R167 to R181), four numbers each: kind, index or character, old, new; unused numbers are zero. TFtoPL 66 to 77
-- and 88 to 95. The order is the Rust's (R180, R181).
use Rattle.std.specs.Prelude.{Bool, cond, not, List, [], ◌∷◌, ◌++◌, ℕ, zero, suc, ◌/◌, ℤ, pos, length}
use Rattle.lang.specs.Records.{count, field}
use Rattle.lang.specs.Checks.{char_at}
use Rattle.reading.specs.Depth.{Pair}
use Rattle.fonts.specs.Numbers.{left_number}
use Rattle.fonts.specs.Compiled.{loops_of_font}
use Rattle.repairs.specs.Damaged.{Damaged, DamagedProgram, program_of, unpacks, left_goes}
use Rattle.repairs.specs.Repaired.{skip_goes, redirect_warns, is_ligature, right_goes, kern_goes, inserted_by, product_goes, tag_goes}
use Rattle.repairs.specs.Repaired.{repaired_font}

-- the four numbers of a warning
abbrev pub warning : ℕ → ℤ → ℤ → ℤ → List ℤ
warning kind at old new = pos kind ∷ at ∷ old ∷ new ∷ []

-- a warning where a test holds, else none
abbrev pub warn_if : Bool → List ℤ → List ℤ
warn_if t w = cond t w []

-- 1 (R169): the left entry is past the end
abbrev pub left_warning : Damaged → List ℤ
left_warning d = warn_if (left_goes d) (warning 1 (pos 0) (pos 0) (pos 0))

-- 2 (R170): of the first k entries, those that do not unpack
unfoldable pub entry_warnings : Damaged → ℕ → List ℤ
entry_warnings d zero = []
entry_warnings d (suc k) = entry_warnings d k ++ warn_if (not (unpacks d k)) (warning 2 (char_at d.entries k) (pos 0) (pos 0))

-- 3 (R171): of the first k steps, those that are reachable and skip past the end
unfoldable pub skip_warnings : DamagedProgram → ℕ → List ℤ
skip_warnings p zero = []
skip_warnings p (suc k) = skip_warnings p k ++ warn_if (skip_goes p k) (warning 3 (pos k) (pos 0) (pos 0))

-- of step i (R181): 9; or 4 (a ligature step) or 5 (a kern step), then 7, or 6 and 8
abbrev pub step_warnings : DamagedProgram → ℕ → List ℤ
step_warnings p i =
    warn_if (redirect_warns p i) (warning 9 (pos i) (pos 0) (pos 0))
    ++ warn_if (right_goes p i) (warning (cond (is_ligature p i) 4 5) (pos i) (field p.instructions i 1) (pos p.replacement))
    ++ warn_if (kern_goes p i) (warning 7 (pos i) (pos 0) (pos 0))
    ++ warn_if (product_goes p i) (warning 6 (pos i) (pos (inserted_by p i)) (pos p.replacement))
    ++ warn_if (tag_goes p i) (warning 8 (pos i) (pos 0) (pos 0))

-- of the first k steps, reachable or not (R179)
unfoldable pub steps_warnings : DamagedProgram → ℕ → List ℤ
steps_warnings p zero = []
steps_warnings p (suc k) = steps_warnings p k ++ step_warnings p k

-- 10 (R178): the loops of the repaired font
unfoldable pub loop_warnings : List Pair → List ℤ
loop_warnings [] = []
loop_warnings (p ∷ ps) = warning 10 (left_number p.left) (pos p.right) (pos 0) ++ loop_warnings ps

-- kinds 1 to 9
abbrev pub repair_warnings : Damaged → List ℤ
repair_warnings d =
    left_warning d
    ++ entry_warnings d (length d.entries / 2)
    ++ skip_warnings (program_of d) (count d.instructions)
    ++ steps_warnings (program_of d) (count d.instructions)

-- all of them, in their order (R180)
abbrev pub warnings_of : Damaged → List ℤ
warnings_of d = repair_warnings d ++ loop_warnings (loops_of_font (repaired_font d))
