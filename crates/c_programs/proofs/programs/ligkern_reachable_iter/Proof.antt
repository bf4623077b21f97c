-- `c_programs::programs::ligkern_reachable_iter` meets its contract. Assumes nothing.
use mathlib.Core.Path.{subst}
use mathlib.Core.List.{[], ◌∷◌}
use lib.IntN.{ℤ, pos}
use lib.ListN.{length}
use Rattle.words.specs.Words.{word_of, number_of}
use Rattle.words.proofs.Bits.{number_word}
use Rattle.lang.specs.Records.{count}
use Rattle.reach.specs.Reach.{reach_list, reach_refusal}
use Rattle.c_values.specs.Telling.{Gives}
use Rattle.c_programs.specs.Programs.{reach_reply}
use Rattle.c_values.proofs.Telling.{gives}
use borrow.Author.Rules.{rules}
use Rattle.c_programs.proofs.programs.ligkern_reachable_iter.Statement.{statement}
use Rattle.c_programs.proofs.programs.ligkern_reachable_iter.Tie as tie

reachable-iter-requires : tie.Need-reachable_iter-written-requires
reachable-iter-requires c κs = search rules

tell-requires : tie.Need-tell-number-requires
tell-requires c κs = search rules

keep-list-requires : tie.Need-keep_list-requires
keep-list-requires c κs = search rules

same_length : tie.Need-shape_of-out
same_length c = search rules

same-length-2 : tie.Need-shape_of-values
same-length-2 c = search rules

returns : tie.Need-returns
returns c =
    let a = c.args in
    let y = number_of (word_of a.left_entry) in
    subst (λ (e : ℤ). Gives (pos 0) (reach_reply a.instructions.now a.entries.now e a.passthrough.now (length a.out.now))
    (reach_list a.instructions.now a.entries.now e a.passthrough.now) a.out.now a.values.now c.tell-number.result c.keep_list.new.out
    c.tell-number.new.values) (number_word a.left_entry c.ranges.left_entry)
    (gives (pos 0) (reach_refusal a.instructions.now a.entries.now y a.passthrough.now (length a.out.now))
    (pos (count a.instructions.now) ∷ []) (reach_list a.instructions.now a.entries.now y a.passthrough.now) a.out.now a.values.now
    c.reachable_iter-written.ensures.answer c.tell-number.ensures c.reachable_iter-written.ensures.list c.reachable_iter-written.auto.out
    c.keep_list.ensures)

pub ligkern_reachable_iter_spec : {M : Type 1} → statement M
ligkern_reachable_iter_spec =
    tie.close
    (tie.spec
    reachable-iter-requires
    tell-requires
    keep-list-requires
    same_length
    same-length-2
    returns)
