-- `repair_entries::put_entry` meets its contract: the entry and its refusal by the tests, and two stores one after the other.
-- Assumes nothing.
use native.Mathlib.Omega.{arith}
use borrow.Author.Rules.{rules}
use Rattle.entry_targets.proofs.Targets.{stands_word}
use Rattle.repair_entries.proofs.Entering.{not_placed, placed}
use Rattle.repair_entries.proofs.put_entry.Statement.{statement}
use Rattle.repair_entries.proofs.put_entry.Tie as tie

entry-refusal-requires : tie.Need-entry_refusal-requires
entry-refusal-requires c κs = search rules

returns : tie.Need-returns-then-entry_refusal-ne0
returns c =
    let a = c.args in
    not_placed a.instructions.now a.c a.entry a.unpacked.now a.n _ c.entry_refusal.ensures c.if-entry_refusal-ne0.true

mul-put-word : tie.Need-overflow_mul-n
mul-put-word c = search rules

put-word-requires : tie.Need-put_word-requires
put-word-requires c κs = search rules

mul-put-word-2 : tie.Need-overflow_mul-n-2
mul-put-word-2 c = search rules

add-put-word : tie.Need-overflow_add-n
add-put-word c = search rules

stands-for-requires : tie.Need-stands_for-requires
stands-for-requires c κs = search rules

cast-put-word : tie.Need-overflow_cast-stands_for
cast-put-word c =
    omega (arith, c.stands_for.ensures, stands_word c.args.instructions.now c.args.entry (omega (arith, c.ranges.entry)))

put-word-requires-2 : tie.Need-put_word-requires-2
put-word-requires-2 c κs = search rules

add-result : tie.Need-overflow_add-result
add-result c = search rules

same_length : tie.Need-shape_of-unpacked
same_length c = search rules

returns-2 : tie.Need-returns
returns-2 c =
    let a = c.args in
    placed a.instructions.now a.c a.entry a.unpacked.now _ _ a.n _ _
    c.entry_refusal.ensures
    c.if-entry_refusal-ne0.false c.stands_for.ensures
    c.put_word.ensures c.put_word-2.ensures

pub put_entry_spec : {M : Type 1} → statement M
put_entry_spec =
    tie.close
    (tie.spec
    entry-refusal-requires
    returns
    mul-put-word
    put-word-requires
    mul-put-word-2
    add-put-word
    stands-for-requires
    cast-put-word
    put-word-requires-2
    add-result
    same_length
    returns-2)
