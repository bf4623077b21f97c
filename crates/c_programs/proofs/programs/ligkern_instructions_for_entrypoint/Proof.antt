-- `c_programs::programs::ligkern_instructions_for_entrypoint` meets its contract. Assumes nothing.
use mathlib.Core.Path.{subst}
use mathlib.Core.List.{[], ◌∷◌}
use lib.IntN.{ℤ, pos}
use lib.ListN.{length}
use Rattle.words.specs.Words.{word_of, number_of}
use Rattle.words.proofs.Bits.{number_word}
use Rattle.program_chain.specs.Chains.{chain_of, walk_refusal}
use Rattle.c_values.specs.Telling.{Gives}
use Rattle.c_programs.specs.Programs.{walk_reply}
use Rattle.c_values.proofs.Telling.{gives}
use borrow.Author.Rules.{rules}
use Rattle.c_programs.proofs.programs.ligkern_instructions_for_entrypoint.Statement.{statement}
use Rattle.c_programs.proofs.programs.ligkern_instructions_for_entrypoint.Tie as tie

instructions-for-entrypoint-requires : tie.Need-instructions_for_entrypoint-written-requires
instructions-for-entrypoint-requires c κs = search rules

tell-requires : tie.Need-tell-number-requires
tell-requires c κs = search rules

keep-list-requires : tie.Need-keep_list-requires
keep-list-requires c κs = search rules

same_length : tie.Need-shape_of-out
same_length c = search rules

same-length-2 : tie.Need-shape_of-values
same-length-2 c = search rules

returns : tie.Need-returns
returns c =
    let a = c.args in
    let y = number_of (word_of a.entry) in
    subst (λ (e : ℤ). Gives 0 (walk_reply a.instructions.now e (length a.out.now)) (chain_of a.instructions.now (word_of e)) a.out.now
    a.values.now c.tell-number.result c.keep_list.new.out c.tell-number.new.values) (number_word a.entry c.ranges.entry)
    (gives 0 (walk_refusal a.instructions.now y (length a.out.now)) (pos (length (chain_of a.instructions.now (word_of y))) ∷ [])
    (chain_of a.instructions.now (word_of y)) a.out.now a.values.now c.instructions_for_entrypoint-written.ensures.answer c.tell-number.ensures
    c.instructions_for_entrypoint-written.ensures.list c.instructions_for_entrypoint-written.auto.out c.keep_list.ensures)

pub ligkern_instructions_for_entrypoint_spec : {M : Type 1} → statement M
ligkern_instructions_for_entrypoint_spec =
    tie.close
    (tie.spec
    instructions-for-entrypoint-requires
    tell-requires
    keep-list-requires
    same_length
    same-length-2
    returns)
