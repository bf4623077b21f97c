-- `program_kerns::packed_word` meets its contract, case by case: another instruction, a kind, an operand, and the other numbers of a kern index.
-- Assumes nothing.
use Prim.Native.Nat.{◌/◌}
use lib.Dec.{lit<}
use lib.IntN.{pos}
use Rattle.lang.specs.Records.{is_kind}
use Rattle.program_kerns.specs.Kerns.{kern_at}
use Rattle.program_kerns.proofs.Changes.{kind_is, kind_not, small_word, word_not, word_kind, word_operand, word_other}
use borrow.Author.Rules.{rules}
use Rattle.program_kerns.proofs.packed_word.Statement.{statement}
use Rattle.program_kerns.proofs.packed_word.Tie as tie

field-at-requires : tie.Need-field_at-requires
field-at-requires c κs = search rules

word-at-requires : tie.Need-word_at-requires
word-at-requires c κs = search rules

returns : tie.Need-returns-then-field_at-ne1
returns c =
    let a = c.args in
    word_not a.instructions.now (is_kind 1 a.instructions.now) (pos 0) (kern_at a.instructions.now a.kerns.now) a.j
    (kind_not 1 a.instructions.now (a.j / 4) c.field_at.ensures c.if-field_at-ne1.true)
    c.word_at.ensures

returns-2 : tie.Need-returns-then-j-eq2
returns-2 c =
    let a = c.args in
    word_kind a.instructions.now (is_kind 1 a.instructions.now) (pos 0) (kern_at a.instructions.now a.kerns.now) a.j
    (kind_is 1 a.instructions.now (a.j / 4) c.field_at.ensures c.if-field_at-ne1.false)
    c.if-j-eq2.true (small_word 0 (lit< tt))

field-at-requires-2 : tie.Need-field_at-requires-then-j-eq3
field-at-requires-2 c κs = search rules

cast-word-at : tie.Need-overflow_cast-field_at
cast-word-at c = search rules

word-at-requires-2 : tie.Need-word_at-requires-then-j-eq3
word-at-requires-2 c κs = search rules

returns-3 : tie.Need-returns-then-j-eq3
returns-3 c =
    let a = c.args in
    word_operand a.instructions.now (is_kind 1 a.instructions.now) (pos 0) (kern_at a.instructions.now a.kerns.now) a.j
    (kind_is 1 a.instructions.now (a.j / 4) c.field_at.ensures c.if-field_at-ne1.false)
    c.if-j-eq3.true (rw c.field_at-then-j-eq3.ensures.is at c.word_at-then-j-eq3.ensures)

word-at-requires-3 : tie.Need-word_at-requires-2
word-at-requires-3 c κs = search rules

returns-4 : tie.Need-returns
returns-4 c =
    let a = c.args in
    word_other a.instructions.now (is_kind 1 a.instructions.now) (pos 0) (kern_at a.instructions.now a.kerns.now) a.j
    (kind_is 1 a.instructions.now (a.j / 4) c.field_at.ensures c.if-field_at-ne1.false)
    c.if-j-eq2.false c.if-j-eq3.false c.word_at-2.ensures

pub packed_word_spec : {M : Type 1} → statement M
packed_word_spec =
    tie.close
    (tie.spec
    field-at-requires
    word-at-requires
    returns
    returns-2
    field-at-requires-2
    cast-word-at
    word-at-requires-2
    returns-3
    word-at-requires-3
    returns-4)
