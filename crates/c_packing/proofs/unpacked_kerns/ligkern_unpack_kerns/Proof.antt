-- `c_packing::unpacked_kerns::ligkern_unpack_kerns` meets its contract. Assumes nothing.
use mathlib.Core.List.{[], ◌∷◌}
use lib.IntN.{pos}
use lib.ListN.{length}
use Rattle.program_kerns.specs.Kerns.{unpacked, kerns_of, unpack_kerns_refusal}
use Rattle.c_values.proofs.Telling.{gives_two}
use borrow.Author.Rules.{rules}
use Rattle.c_packing.proofs.unpacked_kerns.ligkern_unpack_kerns.Statement.{statement}
use Rattle.c_packing.proofs.unpacked_kerns.ligkern_unpack_kerns.Tie as tie

unpack-kerns-requires : tie.Need-unpack_kerns-written-requires
unpack-kerns-requires c κs = search rules

tell-requires : tie.Need-tell-number-requires
tell-requires c κs = search rules

keep-list-requires : tie.Need-keep_list-requires
keep-list-requires c κs = search rules

keep-list-requires-2 : tie.Need-keep_list-requires-2
keep-list-requires-2 c κs = search rules

same_length : tie.Need-shape_of-out
same_length c = search rules

same-length-2 : tie.Need-shape_of-kerns
same-length-2 c = search rules

same-length-3 : tie.Need-shape_of-values
same-length-3 c = search rules

returns : tie.Need-returns
returns c =
    let a = c.args in
    gives_two (pos 0) (unpack_kerns_refusal a.instructions.now (length a.out.now) (length a.kerns.now))
    (pos (length (kerns_of a.instructions.now)) ∷ []) (unpacked a.instructions.now) (kerns_of a.instructions.now) a.out.now a.kerns.now
    a.values.now c.unpack_kerns-written.ensures.answer c.tell-number.ensures c.unpack_kerns-written.ensures.list c.unpack_kerns-written.ensures.shares
    c.unpack_kerns-written.auto.out c.unpack_kerns-written.auto.kerns c.keep_list.ensures c.keep_list-2.ensures

pub ligkern_unpack_kerns_spec : {M : Type 1} → statement M
ligkern_unpack_kerns_spec =
    tie.close
    (tie.spec
    unpack-kerns-requires
    tell-requires
    keep-list-requires
    keep-list-requires-2
    same_length
    same-length-2
    same-length-3
    returns)
