-- `c_blame::ligkern_blamed_instruction` meets its contract: what `blamed_instruction` answers is told, with its numbers and options as they are lent.
-- Assumes nothing.
use mathlib.Core.Path.{◌≡◌, ◌∙◌}
use borrow.Author.Rules.{rules}
use Rattle.words.specs.Words.{word_of, number_of}
use Rattle.words.proofs.Bits.{number_word}
use Rattle.c_states.specs.States.{options_of}
use Rattle.c_blame.specs.Blaming.{font_numbers_of}
use Rattle.c_blame.proofs.Laws.{told_host}
use Rattle.c_blame.proofs.ligkern_blamed_instruction.Statement.{statement}
use Rattle.c_blame.proofs.ligkern_blamed_instruction.Tie as tie

font-numbers-requires : tie.Need-font_numbers-numbers-requires
font-numbers-requires c κs = search rules

blamed-instruction-requires : tie.Need-blamed_instruction-answer-requires
blamed-instruction-requires c κs = search rules

tell-blamed-requires : tie.Need-tell_blamed-requires
tell-blamed-requires c κs = search rules

same_length : tie.Need-shape_of-pairs
same_length c = search rules

same-length-2 : tie.Need-shape_of-ops
same-length-2 c = search rules

same-length-3 : tie.Need-shape_of-pairs_without
same-length-3 c = search rules

same-length-4 : tie.Need-shape_of-ops_without
same-length-4 c = search rules

same-length-5 : tie.Need-shape_of-edited
same-length-5 c = search rules

same-length-6 : tie.Need-shape_of-work
same-length-6 c = search rules

same-length-7 : tie.Need-shape_of-values
same-length-7 c = search rules

returns : tie.Need-returns
returns c =
    let a = c.args in
    told_host a.instructions.now a.kerns.now a.entries.now a.word.now a.pairs.now a.ops.now a.pairs_without.now
    a.ops_without.now a.edited.now c.blamed_instruction-answer.new.pairs c.blamed_instruction-answer.new.ops c.blamed_instruction-answer.new.pairs_without c.blamed_instruction-answer.new.ops_without c.blamed_instruction-answer.new.edited a.work.now c.blamed_instruction-answer.new.work
    (c.font_numbers-numbers.ensures
    ∙ (λ j. font_numbers_of (number_word a.boundary c.ranges.boundary j) (number_word a.left_entry c.ranges.left_entry j)
    (number_word a.design_size c.ranges.design_size j) (number_word a.size c.ranges.size j)
    (number_word a.magnification c.ranges.magnification j)))
    (λ j. options_of a.disable_left_boundary (number_word a.right_boundary_override c.ranges.right_boundary_override j))
    c.blamed_instruction-answer.result c.blamed_instruction-answer.ensures a.values.now c.tell_blamed.result c.tell_blamed.new.values
    c.tell_blamed.ensures

pub ligkern_blamed_instruction_spec : {M : Type 1} → statement M
ligkern_blamed_instruction_spec =
    tie.close
    (tie.spec
    font-numbers-requires
    blamed-instruction-requires
    tell-blamed-requires
    same_length
    same-length-2
    same-length-3
    same-length-4
    same-length-5
    same-length-6
    same-length-7
    returns)
