-- `c_programs::programs::ligkern_unpack_entrypoint` meets its contract. Assumes nothing.
use mathlib.Core.Path.{subst}
use mathlib.Core.List.{[], ◌∷◌}
use lib.IntN.{ℤ, pos}
use lib.ListN.{length}
use Rattle.words.specs.Words.{word_of, number_of}
use Rattle.words.proofs.Bits.{number_word}
use Rattle.entry_targets.specs.Targets.{stands_for}
use Rattle.entry_unpack.specs.Unpacking.{unpack_entry, unpack_refusal, passthrough_after}
use Rattle.c_values.specs.Telling.{Gives}
use Rattle.c_values.proofs.Telling.{gives, tells_as}
use borrow.Author.Rules.{rules}
use Rattle.c_programs.proofs.programs.ligkern_unpack_entrypoint.Statement.{statement}
use Rattle.c_programs.proofs.programs.ligkern_unpack_entrypoint.Tie as tie

unpack-entrypoint-requires : tie.Need-unpack_entrypoint-unpacked-requires
unpack-entrypoint-requires c κs = search rules

entry-of-requires : tie.Need-entry_of-requires
entry-of-requires c κs = search rules

tell-requires : tie.Need-tell-number-requires
tell-requires c κs = search rules

keep-list-requires : tie.Need-keep_list-requires
keep-list-requires c κs = search rules

same_length : tie.Need-shape_of-out
same_length c = search rules

same-length-2 : tie.Need-shape_of-values
same-length-2 c = search rules

returns : tie.Need-returns
returns c =
    let a = c.args in
    let y = number_of (word_of a.entry) in
    subst (λ (e : ℤ). Gives 0 (unpack_entry a.instructions.now e a.passthrough.now (length a.out.now))
    (passthrough_after a.instructions.now (word_of e) a.passthrough.now) a.out.now a.values.now c.tell-number.result c.keep_list.new.out
    c.tell-number.new.values) (number_word a.entry c.ranges.entry)
    (gives 0 (unpack_refusal a.instructions.now y a.passthrough.now (length a.out.now)) (pos (stands_for a.instructions.now (word_of y)) ∷ [])
    (passthrough_after a.instructions.now (word_of y) a.passthrough.now) a.out.now a.values.now c.unpack_entrypoint-unpacked.ensures.answer
    (tells_as c.entry_of.ensures c.tell-number.ensures) c.unpack_entrypoint-unpacked.ensures.list c.unpack_entrypoint-unpacked.auto.out
    c.keep_list.ensures)

pub ligkern_unpack_entrypoint_spec : {M : Type 1} → statement M
ligkern_unpack_entrypoint_spec =
    tie.close
    (tie.spec
    unpack-entrypoint-requires
    entry-of-requires
    tell-requires
    keep-list-requires
    same_length
    same-length-2
    returns)
