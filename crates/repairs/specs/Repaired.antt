-- A font repaired (R171 to R177): TFtoPL 70 (skips) and 71 to 77 (steps), step by step.
use Rattle.std.specs.Prelude.{Bool, true, false, cond, not, List, [], ◌∷◌, ◌++◌, ℕ, zero, suc, ◌+◌, ◌*◌, ◌/◌, ◌%◌, ◌^◌, ℤ, pos, negsuc, leb, eqb, length, get_or}
use Rattle.std.specs.Int.Signed.{non_neg}
use Rattle.words.specs.Words.{word_of}
use Rattle.lang.specs.Every.{both}
use Rattle.lang.specs.Operations.{is_standard}
use Rattle.lang.specs.Records.{count, field, is_kind}
use Rattle.entry_targets.specs.Targets.{target_at}
use Rattle.fonts.specs.Fonts.{Font, font_of}
use Rattle.repairs.specs.declared.Faults.{Faults}
use Rattle.repairs.specs.Damaged.{Damaged, DamagedProgram, program_of, unpacked_entries, repaired_left}

-- character c exists
abbrev pub exists : DamagedProgram → ℕ → Bool
exists p c = eqb (get_or p.existing (c / 64) 0 / 2 ^ (c % 64) % 2) 1

-- step i is marked as reachable
abbrev pub is_reachable : DamagedProgram → ℕ → Bool
is_reachable p i = cond (eqb (get_or p.marks i 0) 0) false true

-- step i is passed over
abbrev pub is_passed_over : DamagedProgram → ℕ → Bool
is_passed_over p i = cond (eqb (get_or p.passthrough i 0) 0) false true

-- ---- R171, TFtoPL 70: skips

-- the skip of step i, which is reachable, passes the end
abbrev pub skip_goes : DamagedProgram → ℕ → Bool
skip_goes p i =
    both (is_reachable p i)
    (both (non_neg (field p.instructions i 0)) (leb (count p.instructions) (i + 1 + word_of (field p.instructions i 0))))

-- number 0 of step i repaired: it stops (-1) where its skip passes the end
abbrev pub repaired_next : DamagedProgram → ℕ → ℤ
repaired_next p i = cond (skip_goes p i) (negsuc 0) (field p.instructions i 0)

-- ---- R172 to R177, TFtoPL 71 to 77: steps

-- step i is a redirect, kind 3
abbrev pub is_redirect : DamagedProgram → ℕ → Bool
is_redirect p i = is_kind 3 p.instructions i

-- step i is a ligature, kind 2
abbrev pub is_ligature : DamagedProgram → ℕ → Bool
is_ligature p i = is_kind 2 p.instructions i

-- 9 (R177): a redirect whose target is past the end, unless it is unreachable and passed over
abbrev pub redirect_warns : DamagedProgram → ℕ → Bool
redirect_warns p i =
    both (is_redirect p i)
    (both (leb (count p.instructions) (target_at p.instructions i)) (cond (is_reachable p i) true (not (is_passed_over p i))))

-- a right character is the boundary character, where there is one (R172, R173)
abbrev pub is_boundary : DamagedProgram → ℤ → Bool
is_boundary p right = both (non_neg p.boundary) (eqb (word_of p.boundary) (word_of right))

-- step i, no redirect, is for a right character that neither exists nor is the boundary character
abbrev pub right_goes : DamagedProgram → ℕ → Bool
right_goes p i =
    both (not (is_redirect p i))
    (both (not (exists p (word_of (field p.instructions i 1)))) (not (is_boundary p (field p.instructions i 1))))

-- number 1 of step i repaired: the replacement for such a right character
abbrev pub repaired_right : DamagedProgram → ℕ → ℤ
repaired_right p i = cond (right_goes p i) (pos p.replacement) (field p.instructions i 1)

-- a kern index is past the list (R175)
abbrev pub kern_goes : DamagedProgram → ℕ → Bool
kern_goes p i = both (is_kind 1 p.instructions i) (leb (length p.kerns) (word_of (field p.instructions i 3)))

-- a ligature's op byte
abbrev pub op_byte_at : DamagedProgram → ℕ → ℕ
op_byte_at p i = word_of (field p.instructions i 3) / 256

-- the character that a ligature inserts
abbrev pub inserted_by : DamagedProgram → ℕ → ℕ
inserted_by p i = word_of (field p.instructions i 3) % 256

-- it inserts a character that does not exist (R174)
abbrev pub product_goes : DamagedProgram → ℕ → Bool
product_goes p i = both (is_ligature p i) (not (exists p (inserted_by p i)))

-- its op byte is not standard (R176)
abbrev pub tag_goes : DamagedProgram → ℕ → Bool
tag_goes p i = both (is_ligature p i) (not (is_standard (op_byte_at p i)))

-- number 3 of step i repaired: op byte 0 for one not standard, the replacement for a missing character, 0 for a kern index past the list
abbrev pub repaired_operand : DamagedProgram → ℕ → ℤ
repaired_operand p i =
    cond (is_ligature p i)
    (pos (256 * cond (tag_goes p i) 0 (op_byte_at p i) + cond (product_goes p i) p.replacement (inserted_by p i)))
    (cond (kern_goes p i) (pos 0) (field p.instructions i 3))

-- a kern of zero in the place of a kern index past the list
abbrev pub repaired_kind : DamagedProgram → ℕ → ℤ
repaired_kind p i = cond (kern_goes p i) (pos 0) (field p.instructions i 2)

-- all that is wrong with step i
abbrev pub faults_of : DamagedProgram → ℕ → Faults
faults_of p i =
    record {
      skip = skip_goes p i;
      redirect = redirect_warns p i;
      right = right_goes p i;
      kern = kern_goes p i;
      product = product_goes p i;
      tag = tag_goes p i;
    }

-- the four numbers of step i
abbrev pub repaired_step : DamagedProgram → ℕ → List ℤ
repaired_step p i = repaired_next p i ∷ repaired_right p i ∷ repaired_kind p i ∷ repaired_operand p i ∷ []

-- ---- the font repaired

-- the first k steps
unfoldable pub repaired_upto : DamagedProgram → ℕ → List ℤ
repaired_upto p zero = []
repaired_upto p (suc k) = repaired_upto p k ++ repaired_step p k

-- all steps: the repaired program, four numbers an instruction
abbrev pub repaired_instructions : Damaged → List ℤ
repaired_instructions d = repaired_upto (program_of d) (count d.instructions)

-- its loops are looked for at a dummy design size, FixWord::ONE times ten (R183)
abbrev pub repaired_font : Damaged → Font
repaired_font d =
    font_of (repaired_instructions d) d.kerns (unpacked_entries d) d.boundary (repaired_left d) (pos (10 * 1048576))
