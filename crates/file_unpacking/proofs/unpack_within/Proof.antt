-- `file_unpacking::unpack_within` meets its contract: what is refused leaves both lists as they came, and else both are written.
-- Assumes nothing.
use borrow.Author.Rules.{rules}
use Rattle.file_unpacking.proofs.Unpacking.{few_instructions, within_refused, within_taken}
use Rattle.file_unpacking.proofs.unpack_within.Statement.{statement}
use Rattle.file_unpacking.proofs.unpack_within.Tie as tie

unpack-refusal-requires : tie.Need-unpack_refusal-refusal-requires
unpack-refusal-requires c κs = search rules

returns : tie.Need-returns-then-refusal-ne0
returns c =
    let a = c.args in
    within_refused a.instructions.now a.packed.now a.entries.now a.lost.now c.unpack_refusal-refusal.ensures c.if-refusal-ne0.true

unpack-all-requires : tie.Need-unpack_all-requires
unpack-all-requires c κs =
    let a = c.args in
    few_instructions a.instructions.now a.packed.now a.entries.now a.lost.now c.unpack_refusal-refusal.ensures c.if-refusal-ne0.false

same_length : tie.Need-shape_of-entries
same_length c = search rules

same-length-2 : tie.Need-shape_of-lost
same-length-2 c = search rules

returns-2 : tie.Need-returns
returns-2 c =
    let a = c.args in
    within_taken a.instructions.now a.packed.now a.entries.now a.lost.now c.unpack_refusal-refusal.ensures c.if-refusal-ne0.false
    c.unpack_all.ensures

pub unpack_within_spec : {M : Type 1} → statement M
unpack_within_spec =
    tie.close
    (tie.spec
    unpack-refusal-requires
    returns
    unpack-all-requires
    same_length
    same-length-2
    returns-2)
