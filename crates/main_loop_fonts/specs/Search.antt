-- TeX 1039 on the bytes of a font file (R494): entries are packed, and an instruction is its four bytes (TeX 545). A place k is counted
-- from
-- lig_kern_base.
use Rattle.std.specs.Prelude.{Bool, true, cond, List, ℕ, zero, suc, ◌+◌, ◌-◌, ◌*◌, ℤ, pos, negsuc, leb, ltb, eqb}
use Rattle.std.proofs.Math.Option.{Option, none, some}
use Rattle.std.specs.Int.Signed.{non_neg}
use Rattle.tfm.specs.Scaled.{to_scaled}
use Rattle.lang.specs.Every.{both, every}
use Rattle.lang.specs.declared.operation.PostLigOperation.{PostLigOperation}
use Rattle.lang.specs.declared.operation.PostLigOperation.TheVariants.{RetainBothMoveNowhere, RetainBothMoveToInserted}
use Rattle.lang.specs.declared.operation.PostLigOperation.TheVariants.{RetainBothMoveToRight, RetainRightMoveToInserted}
use Rattle.lang.specs.declared.operation.PostLigOperation.TheVariants.{RetainRightMoveToRight, RetainLeftMoveNowhere}
use Rattle.lang.specs.declared.operation.PostLigOperation.TheVariants.{RetainLeftMoveToInserted, RetainNeitherMoveToInserted}
use Rattle.reading.specs.Items.{Left, bnd, chr, Rule, free, lig, Rules}
use Rattle.fonts.specs.Fonts.{scaled_kern}
use Rattle.files.specs.Lengths.{lengths_of, char_start, command_start, kern_start}
use Rattle.files.specs.Commands.{word_byte, is_lig_tagged, kern_number}
use Rattle.files.specs.Reading.{file_left}
use Rattle.file_fonts.specs.Meant.{file_design}

-- ---- the bytes of an instruction (TeX 545)

abbrev pub instruction_byte : List ℕ → ℕ → ℕ → ℕ
instruction_byte file k j = word_byte file (command_start (lengths_of file) + k) j

abbrev pub skip_byte : List ℕ → ℕ → ℕ
skip_byte file k = instruction_byte file k 0

abbrev pub next_char : List ℕ → ℕ → ℕ
next_char file k = instruction_byte file k 1

abbrev pub op_byte : List ℕ → ℕ → ℕ
op_byte file k = instruction_byte file k 2

abbrev pub rem_byte : List ℕ → ℕ → ℕ
rem_byte file k = instruction_byte file k 3

-- the last two as one number
abbrev pub restart_at : List ℕ → ℕ → ℕ
restart_at file k = 256 * op_byte file k + rem_byte file k

-- ---- where a program starts

-- the word of a character (TeX 554)
abbrev pub char_info : List ℕ → ℕ → ℕ
char_info file c = char_start (lengths_of file) + (c - (lengths_of file).bc)

-- its tag is lig_tag
abbrev pub has_program : List ℕ → ℕ → Bool
has_program file c = both (leb (lengths_of file).bc c) (both (leb c (lengths_of file).ec) (is_lig_tagged file (char_info file c)))

-- lig_kern_start (TeX 557)
abbrev pub lig_kern_start : List ℕ → ℕ → ℕ
lig_kern_start file c = word_byte file (char_info file c) 3

-- main_lig_loop: where the first instruction's skip byte is above 128, lig_kern_restart
abbrev pub restarted_search : List ℕ → ℕ → ℕ
restarted_search file k = cond (leb (skip_byte file k) 128) k (restart_at file k)

-- ---- main_lig_loop+1 and +2: the search from place k for cur_r, over at most n instructions

-- an instruction is the one that is looked for
abbrev pub is_command_for : List ℕ → ℕ → ℕ → Bool
is_command_for file k r = both (leb (skip_byte file k) 128) (eqb (next_char file k) r)

unfoldable pub search_from : List ℕ → ℕ → ℕ → ℕ → Option ℕ
search_from file zero k r = none
search_from file (suc n) k r =
    let later = search_from file n (k + skip_byte file k + 1) r in
    cond (is_command_for file k r) (some k) (cond (leb 128 (skip_byte file k)) none later)

-- all of them; places ascend, so that nl are enough
abbrev pub searched : List ℕ → ℕ → ℕ → Option ℕ
searched file k r = search_from file (lengths_of file).nl k r

-- bchar_label (TeX 573), where there is one
abbrev pub labelled : List ℕ → ℤ → ℕ → Option ℕ
labelled file (pos k) r = searched file k r
labelled file (negsuc n) r = none

abbrev pub has_bchar_label : List ℕ → Bool
has_bchar_label file = non_neg (file_left file)

-- the place of the instruction for cur_l and cur_r
abbrev pub command_for : List ℕ → Left → ℕ → Option ℕ
command_for file bnd r = labelled file (file_left file) r
command_for file (chr c) r = cond (has_program file c) (searched file (restarted_search file (lig_kern_start file c)) r) none

-- ---- what it does

-- TeX 1040: the cases of an op byte
abbrev pub ligature_case : ℕ → PostLigOperation
ligature_case op =
    cond (eqb op 1) RetainRightMoveToInserted
    (cond (eqb op 5) RetainRightMoveToRight
    (cond (eqb op 2) RetainLeftMoveNowhere
    (cond (eqb op 6) RetainLeftMoveToInserted
    (cond (eqb op 3) RetainBothMoveNowhere
    (cond (eqb op 7) RetainBothMoveToInserted
    (cond (eqb op 11) RetainBothMoveToRight
    RetainNeitherMoveToInserted))))))

-- char_kern (TeX 557): kern i, scaled when the font was loaded (TeX 571, 572; tfm/specs/Scaled)
abbrev pub char_kern : List ℕ → ℕ → Rule
char_kern file i = scaled_kern (to_scaled (kern_number file (kern_start (lengths_of file) + i)) (file_design file))

abbrev pub command_rule : List ℕ → Option ℕ → Rule
command_rule file none = free
command_rule file (some k) =
    cond (leb 128 (op_byte file k)) (char_kern file (256 * (op_byte file k - 128) + rem_byte file k)) (lig (ligature_case (op_byte file k))
    (rem_byte file k))

-- THE rules that TeX goes by
abbrev pub tex_rules : List ℕ → Rules
tex_rules file l r = command_rule file (command_for file l r)

-- ---- what TeX checks when it loads a file, else it aborts, as far as the loop needs it

-- TeX 569: a program starts at an instruction
abbrev pub loads_start : List ℕ → ℕ → Bool
loads_start file c = cond (has_program file c) (ltb (lig_kern_start file c) (lengths_of file).nl) true

-- TeX 573: a next does not pass the end
abbrev pub loads_next : List ℕ → ℕ → Bool
loads_next file k = cond (ltb (skip_byte file k) 128) (ltb (k + skip_byte file k + 1) (lengths_of file).nl) true

-- .. and neither does a kern pass the kerns
abbrev pub loads_kern : List ℕ → ℕ → Bool
loads_kern file k = cond (leb 128 (op_byte file k)) (ltb (256 * (op_byte file k - 128) + rem_byte file k) (lengths_of file).nk) true

-- .. nor a redirect the instructions
abbrev pub loads_instruction : List ℕ → ℕ → Bool
loads_instruction file k =
    cond (leb (skip_byte file k) 128) (both (loads_next file k) (loads_kern file k)) (ltb (restart_at file k) (lengths_of file).nl)

abbrev pub tex_loads : List ℕ → Bool
tex_loads file = both (every 256 (loads_start file)) (every (lengths_of file).nl (loads_instruction file))
