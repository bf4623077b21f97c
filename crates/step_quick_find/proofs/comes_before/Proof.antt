-- `step_quick_find::comes_before` meets its contract: the left decides, or the right.
-- Assumes nothing.
use Rattle.std.proofs.Common.{arith, rules}
use Rattle.words.specs.Words.{Word}
use Rattle.words.proofs.Bits.{read_lt}
use Rattle.lang.proofs.Records.{word_passed}
use Rattle.captions.specs.Tables.{number}
use Rattle.step_quick_find.proofs.Laws.{before_left, after_left, same_left}
use Rattle.step_quick_find.proofs.comes_before.Statement.{statement}
use Rattle.step_quick_find.proofs.comes_before.Tie as tie

left-in-requires : tie.Need-left_in-place-requires
left-in-requires c κs = search rules

mul-word-of : tie.Need-overflow_mul-k
mul-word-of c = search rules

add-word-of : tie.Need-overflow_add-k
add-word-of c = search rules

mul-word-of-2 : tie.Need-offset_bounds-pairs-k
mul-word-of-2 c = search rules

shared-slice-copy-out-word-of : tie.Need-bounds-pairs-k
shared-slice-copy-out-word-of c = search rules

word-of-requires : tie.Need-word_of-requires
word-of-requires c κs = search rules

-- the pair's right, where it was read first
right_read : (c : tie.After-word_of) → let a = c.args in Word (number a.pairs.now a.k 1) c.word_of.result
right_read c = word_passed (record { sfits = c.word_of-arg-1.given }) c.word_of.ensures

returns : tie.Need-returns-then-place-left
returns c =
    let a = c.args in
    let q = right_read (c.before) in
    rw (← c.left_in-place.ensures, ← q.is) (before_left c.left_in-place.result c.word_of.result a.left a.right (read_lt q) c.if-place-left.true)

returns-2 : tie.Need-returns-then-place-left-2
returns-2 c =
    let a = c.args in
    let q = right_read (c.before.before) in
    rw (← c.left_in-place.ensures, ← q.is)
    (after_left c.left_in-place.result c.word_of.result a.left a.right (omega arith) (omega (arith, c.if-place-left.false, c.if-place-left-2.true)))

mul-word-of-3 : tie.Need-overflow_mul-k-2
mul-word-of-3 c = search rules

add-word-of-2 : tie.Need-overflow_add-k-2
add-word-of-2 c = search rules

mul-word-of-4 : tie.Need-offset_bounds-pairs-k-2
mul-word-of-4 c = search rules

shared-slice-copy-out-word-of-2 : tie.Need-bounds-pairs-k-2
shared-slice-copy-out-word-of-2 c = search rules

word-of-requires-2 : tie.Need-word_of-requires-2
word-of-requires-2 c κs = search rules

returns-3 : tie.Need-returns
returns-3 c =
    let a = c.args in
    let q = word_passed {x = number a.pairs.now a.k 1} (record { sfits = c.word_of-arg-2-1.given }) c.word_of-2.ensures in
    rw (← c.left_in-place.ensures, ← q.is)
    (same_left c.left_in-place.result c.word_of-2.result a.left a.right c.if-place-left.false (omega (arith, c.if-place-left-2.false)))

pub comes_before_spec : {M : Type 1} → statement M
comes_before_spec =
    tie.close
    (tie.spec
    left-in-requires
    mul-word-of
    add-word-of
    mul-word-of-2
    shared-slice-copy-out-word-of
    word-of-requires
    returns
    returns-2
    mul-word-of-3
    add-word-of-2
    mul-word-of-4
    shared-slice-copy-out-word-of-2
    word-of-requires-2
    returns-3)
