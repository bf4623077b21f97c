-- `c_packing::packed_kerns::ligkern_pack_kerns` meets its contract. Assumes nothing.
use mathlib.Core.List.{[], ◌∷◌}
use lib.IntN.{pos}
use lib.ListN.{length}
use Rattle.lang.specs.Records.{count}
use Rattle.program_kerns.specs.Kerns.{packed, pack_refusal}
use Rattle.c_values.proofs.Telling.{gives}
use borrow.Author.Rules.{rules}
use Rattle.c_packing.proofs.packed_kerns.ligkern_pack_kerns.Statement.{statement}
use Rattle.c_packing.proofs.packed_kerns.ligkern_pack_kerns.Tie as tie

pack-kerns-requires : tie.Need-pack_kerns-written-requires
pack-kerns-requires c κs = search rules

tell-requires : tie.Need-tell-number-requires
tell-requires c κs = search rules

keep-list-requires : tie.Need-keep_list-requires
keep-list-requires c κs = search rules

same_length : tie.Need-shape_of-out
same_length c = search rules

same-length-2 : tie.Need-shape_of-values
same-length-2 c = search rules

returns : tie.Need-returns
returns c =
    let a = c.args in
    gives (pos 0) (pack_refusal a.instructions.now a.kerns.now (length a.out.now)) (pos (count a.instructions.now) ∷ [])
    (packed a.instructions.now a.kerns.now) a.out.now a.values.now c.pack_kerns-written.ensures.answer c.tell-number.ensures
    c.pack_kerns-written.ensures.list c.pack_kerns-written.auto.out c.keep_list.ensures

pub ligkern_pack_kerns_spec : {M : Type 1} → statement M
ligkern_pack_kerns_spec =
    tie.close
    (tie.spec
    pack-kerns-requires
    tell-requires
    keep-list-requires
    same_length
    same-length-2
    returns)
