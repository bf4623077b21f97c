-- `c_files::reading::ligkern_deserialize` meets its contract. Assumes nothing.
use Rattle.c_files.proofs.Fonts.{host_deserializes}
use borrow.Author.Rules.{rules}
use Rattle.c_files.proofs.reading.ligkern_deserialize.Statement.{statement}
use Rattle.c_files.proofs.reading.ligkern_deserialize.Tie as tie

deserialize-requires : tie.Need-deserialize-font-requires
deserialize-requires c κs = search rules

tell-font-requires : tie.Need-tell_font-number-requires
tell-font-requires c κs = search rules

keep-list-requires : tie.Need-keep_list-requires
keep-list-requires c κs = search rules

keep-list-requires-2 : tie.Need-keep_list-requires-2
keep-list-requires-2 c κs = search rules

keep-list-requires-3 : tie.Need-keep_list-requires-3
keep-list-requires-3 c κs = search rules

same_length : tie.Need-shape_of-instructions
same_length c = search rules

same-length-2 : tie.Need-shape_of-kerns
same-length-2 c = search rules

same-length-3 : tie.Need-shape_of-entries
same-length-3 c = search rules

same-length-4 : tie.Need-shape_of-edges
same-length-4 c = search rules

same-length-5 : tie.Need-shape_of-counts
same-length-5 c = search rules

returns : tie.Need-returns
returns c =
    let a = c.args in
    host_deserializes a.file.now a.instructions.now a.kerns.now a.entries.now a.edges.now a.counts.now c.deserialize-font.ensures
    c.tell_font-number.ensures c.deserialize-font.auto.instructions c.deserialize-font.auto.kerns c.deserialize-font.auto.entries c.keep_list.ensures
    c.keep_list-2.ensures c.keep_list-3.ensures

pub ligkern_deserialize_spec : {M : Type 1} → statement M
ligkern_deserialize_spec =
    tie.close
    (tie.spec
    deserialize-requires
    tell-font-requires
    keep-list-requires
    keep-list-requires-2
    keep-list-requires-3
    same_length
    same-length-2
    same-length-3
    same-length-4
    same-length-5
    returns)
