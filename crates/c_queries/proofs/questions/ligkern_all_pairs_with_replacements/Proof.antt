-- `c_queries::questions::ligkern_all_pairs_with_replacements` meets its contract. Assumes nothing.
use mathlib.Core.List.{[], ◌∷◌}
use lib.IntN.{pos}
use lib.ListN.{length}
use Rattle.captions.specs.Tables.{pair_count}
use Rattle.captions.specs.Queries.{keys_of, keys_refusal}
use Rattle.c_values.proofs.Telling.{gives}
use borrow.Author.Rules.{rules}
use Rattle.c_queries.proofs.questions.ligkern_all_pairs_with_replacements.Statement.{statement}
use Rattle.c_queries.proofs.questions.ligkern_all_pairs_with_replacements.Tie as tie

all-pairs-with-replacements-requires : tie.Need-all_pairs_with_replacements-written-requires
all-pairs-with-replacements-requires c κs = search rules

tell-requires : tie.Need-tell-number-requires
tell-requires c κs = search rules

keep-list-requires : tie.Need-keep_list-requires
keep-list-requires c κs = search rules

same_length : tie.Need-shape_of-out
same_length c = search rules

same-length-2 : tie.Need-shape_of-values
same-length-2 c = search rules

returns : tie.Need-returns
returns c =
    let a = c.args in
    gives (pos 0) (keys_refusal a.pairs.now (length a.out.now)) (pos (pair_count a.pairs.now) ∷ []) (keys_of a.pairs.now) a.out.now
    a.values.now c.all_pairs_with_replacements-written.ensures.answer c.tell-number.ensures c.all_pairs_with_replacements-written.ensures.list
    c.all_pairs_with_replacements-written.auto.out c.keep_list.ensures

pub ligkern_all_pairs_with_replacements_spec : {M : Type 1} → statement M
ligkern_all_pairs_with_replacements_spec =
    tie.close
    (tie.spec
    all-pairs-with-replacements-requires
    tell-requires
    keep-list-requires
    same_length
    same-length-2
    returns)
