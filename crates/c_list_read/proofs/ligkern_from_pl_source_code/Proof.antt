-- `c_list_read::ligkern_from_pl_source_code` meets its contract. Assumes nothing.
use Rattle.c_list_read.proofs.Telling.{host_reads}
use borrow.Author.Rules.{rules}
use Rattle.c_list_read.proofs.ligkern_from_pl_source_code.Statement.{statement}
use Rattle.c_list_read.proofs.ligkern_from_pl_source_code.Tie as tie

from-pl-source-code-requires : tie.Need-from_pl_source_code-font-requires
from-pl-source-code-requires c κs = search rules

tell-list-requires : tie.Need-tell_list-number-requires
tell-list-requires c κs = search rules

keep-list-requires : tie.Need-keep_list-requires
keep-list-requires c κs = search rules

keep-list-requires-2 : tie.Need-keep_list-requires-2
keep-list-requires-2 c κs = search rules

keep-list-requires-3 : tie.Need-keep_list-requires-3
keep-list-requires-3 c κs = search rules

same_length : tie.Need-shape_of-instructions
same_length c = search rules

same-length-2 : tie.Need-shape_of-kerns
same-length-2 c = search rules

same-length-3 : tie.Need-shape_of-entries
same-length-3 c = search rules

same-length-4 : tie.Need-shape_of-edges
same-length-4 c = search rules

same-length-5 : tie.Need-shape_of-counts
same-length-5 c = search rules

returns : tie.Need-returns
returns c =
    let a = c.args in
    host_reads a.text.now a.instructions.now a.kerns.now a.entries.now a.edges.now a.counts.now c.from_pl_source_code-font.ensures
    c.tell_list-number.ensures c.from_pl_source_code-font.auto.instructions c.from_pl_source_code-font.auto.kerns c.from_pl_source_code-font.auto.entries
    c.keep_list.ensures c.keep_list-2.ensures c.keep_list-3.ensures

pub ligkern_from_pl_source_code_spec : {M : Type 1} → statement M
ligkern_from_pl_source_code_spec =
    tie.close
    (tie.spec
    from-pl-source-code-requires
    tell-list-requires
    keep-list-requires
    keep-list-requires-2
    keep-list-requires-3
    same_length
    same-length-2
    same-length-3
    same-length-4
    same-length-5
    returns)
