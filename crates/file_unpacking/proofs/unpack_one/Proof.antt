-- `file_unpacking::unpack_one` meets its contract: two numbers to the one list, or the character to the other.
-- Assumes nothing.
use native.Mathlib.Omega.{arith}
use borrow.Author.Rules.{rules}
use Rattle.words.proofs.Bits.{number_is, read_lt}
use Rattle.entry_targets.proofs.Targets.{stands_word}
use Rattle.file_unpacking.proofs.Unpacking.{led, not_led, stands_number, one_leads, one_lost}
use Rattle.file_unpacking.proofs.unpack_one.Statement.{statement}
use Rattle.file_unpacking.proofs.unpack_one.Tie as tie

mul-word-at : tie.Need-overflow_mul-i
mul-word-at c = search rules

word-at-requires : tie.Need-word_at-c-requires
word-at-requires c κs = search rules

mul-word-at-2 : tie.Need-overflow_mul-i-2
mul-word-at-2 c = search rules

add-word-at : tie.Need-overflow_add-i
add-word-at c = search rules

word-at-requires-2 : tie.Need-word_at-entry-requires
word-at-requires-2 c κs = search rules

cast-entry-refusal : tie.Need-overflow_cast-entry
cast-entry-refusal c = search rules

entry-refusal-requires : tie.Need-entry_refusal-requires
entry-refusal-requires c κs = search rules

sub-put-word : tie.Need-overflow_sub-i
sub-put-word c = search rules

put-word-requires : tie.Need-put_word-requires
put-word-requires c κs = search rules

same_length : tie.Need-shape_of-lost-then-entry_refusal-ne0
same_length c = search rules

returns : tie.Need-returns-then-entry_refusal-ne0
returns c =
    let a = c.args in
    λ es ls h.
    one_lost a.instructions.now a.packed.now a.i a.n h (number_is c.word_at-c.ensures)
    (not_led a.instructions.now a.packed.now a.i c.word_at-entry.ensures c.entry_refusal.ensures c.if-entry_refusal-ne0.true) c.put_word.ensures

cast-stands-for : tie.Need-overflow_cast-entry-2
cast-stands-for c = search rules

stands-for-requires : tie.Need-stands_for-target-requires
stands-for-requires c κs = search rules

cast-target : tie.Need-overflow_cast-target
cast-target c =
    let a = c.args in
    omega (arith, c.stands_for-target.ensures, stands_word a.instructions.now c.word_at-entry.result (read_lt c.word_at-entry.ensures))

mul-put-word : tie.Need-overflow_mul-n
mul-put-word c = search rules

put-word-requires-2 : tie.Need-put_word-requires-2
put-word-requires-2 c κs = search rules

mul-put-word-2 : tie.Need-overflow_mul-n-2
mul-put-word-2 c = search rules

add-put-word : tie.Need-overflow_add-n
add-put-word c = search rules

put-word-requires-3 : tie.Need-put_word-requires-3
put-word-requires-3 c κs = search rules

add-result : tie.Need-overflow_add-result
add-result c = search rules

same-length-2 : tie.Need-shape_of-entries
same-length-2 c = search rules

returns-2 : tie.Need-returns
returns-2 c =
    let a = c.args in
    let r = c.word_at-entry.ensures in
    let e = c.entry_refusal.ensures in
    λ es ls h.
    one_leads a.instructions.now a.packed.now a.i a.n h (number_is c.word_at-c.ensures)
    (led a.instructions.now a.packed.now a.i r e c.if-entry_refusal-ne0.false)
    (stands_number a.instructions.now a.packed.now a.i r e c.if-entry_refusal-ne0.false c.requires.0 c.stands_for-target.ensures) c.put_word-2.ensures
    c.put_word-3.ensures

pub unpack_one_spec : {M : Type 1} → statement M
unpack_one_spec =
    tie.close
    (tie.spec
    mul-word-at
    word-at-requires
    mul-word-at-2
    add-word-at
    word-at-requires-2
    cast-entry-refusal
    entry-refusal-requires
    sub-put-word
    put-word-requires
    same_length
    returns
    cast-stands-for
    stands-for-requires
    cast-target
    mul-put-word
    put-word-requires-2
    mul-put-word-2
    add-put-word
    put-word-requires-3
    add-result
    same-length-2
    returns-2)
