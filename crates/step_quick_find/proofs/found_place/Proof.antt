-- `step_quick_find::found_place` meets its contract: the pair where the search ends has the key, or there is none.
-- Assumes nothing.
use Rattle.std.proofs.Common.{ℕ, sym, refl, ap, ◌∙◌, arith, rules}
use Rattle.words.specs.Words.{Word, word_of}
use Rattle.words.proofs.Bits.{read_lt}
use Rattle.lang.proofs.Records.{word_passed}
use Rattle.captions.specs.Tables.{pair_count, number, key_by}
use Rattle.step_quick_find.proofs.Laws.{none_past, none_other, found_there}
use Rattle.step_quick_find.proofs.found_place.Statement.{statement}
use Rattle.step_quick_find.proofs.found_place.Tie as tie

place-for-requires : tie.Need-place_for-k-requires
place-for-requires c κs = search rules

returns : tie.Need-returns-then-n-k
returns c =
    let a = c.args in
    none_past a.pairs.now a.left a.right (pair_count a.pairs.now) c.place_for-k.result refl c.place_for-k.ensures c.if-n-k.true

mul-word-of : tie.Need-overflow_mul-k
mul-word-of c = omega arith

add-word-of : tie.Need-overflow_add-k
add-word-of c = omega arith

mul-word-of-2 : tie.Need-offset_bounds-pairs-k
mul-word-of-2 c = search rules

shared-slice-copy-out-word-of : tie.Need-bounds-pairs-k
shared-slice-copy-out-word-of c = omega arith

word-of-requires : tie.Need-word_of-requires
word-of-requires c κs = search rules

-- the right of the pair where the search ends, where it was read
right_read : (c : tie.After-word_of) → Word (number c.args.pairs.now c.place_for-k.result 1) c.word_of.result
right_read c = word_passed (record { sfits = c.word_of-arg-1.given }) c.word_of.ensures

returns-2 : tie.Need-returns-then-word_of-right
returns-2 c =
    let a = c.args in
    let q = right_read (c.before) in
    none_other a.pairs.now a.left a.right c.place_for-k.result c.place_for-k.ensures c.if-n-k.false (pair_count a.pairs.now) refl
    (λ e. c.if-word_of-right.true (omega (arith, e, q.is, read_lt q)))

left-in-requires : tie.Need-left_in-requires
left-in-requires c κs = omega arith

returns-3 : tie.Need-returns-then-left_in-left
returns-3 c =
    let a = c.args in
    let q = right_read (c.before.before.before) in
    none_other a.pairs.now a.left a.right c.place_for-k.result c.place_for-k.ensures c.if-n-k.false (pair_count a.pairs.now) refl
    (λ e. c.if-left_in-left.true (omega (arith, e, c.left_in.ensures, q.is, c.if-word_of-right.false)))

returns-4 : tie.Need-returns
returns-4 c =
    let a = c.args in
    let q = right_read (c.before.before.before) in
    found_there a.pairs.now a.left a.right c.place_for-k.result c.place_for-k.ensures c.if-n-k.false
    (ap (λ (i : ℕ). key_by i (word_of (number a.pairs.now c.place_for-k.result 1))) (sym c.left_in.ensures ∙ c.if-left_in-left.false)
    ∙ ap (key_by a.left) (sym q.is ∙ c.if-word_of-right.false))

pub found_place_spec : {M : Type 1} → statement M
found_place_spec =
    tie.close
    (tie.spec
    place-for-requires
    returns
    mul-word-of
    add-word-of
    mul-word-of-2
    shared-slice-copy-out-word-of
    word-of-requires
    returns-2
    left-in-requires
    returns-3
    returns-4)
