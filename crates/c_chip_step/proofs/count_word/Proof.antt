-- `c_chip_step::count_word` meets its contract: nothing, or one store.
-- Assumes nothing.
use mathlib.Core.Path.{ap}
use Prim.Native.Nat.{ℕ, ◌+◌}
use native.Mathlib.Numerals.{add-one}
use lib.ListN.{get_or, set}
use borrow.Author.Tests.{not-true, not-false}
use borrow.Author.Rules.{rules}
use Rattle.c_chip_step.proofs.count_word.Statement.{statement}
use Rattle.c_chip_step.proofs.count_word.Tie as tie

returns : tie.Need-returns-then-not-ends
returns c = rw (c.if-not-ends.true)

slice-read-place : tie.Need-bounds-list-90
slice-read-place c = search rules

add-place : tie.Need-overflow_add-place
add-place c = search rules

mul-list : tie.Need-offset_bounds-list-place
mul-list c = search rules

slice-read-list : tie.Need-bounds-list-place
slice-read-list c = search rules

add-list : tie.Need-overflow_add-list
add-list c = search rules

mul-list-2 : tie.Need-offset_bounds-list-place-2
mul-list-2 c = search rules

slice-write-list : tie.Need-bounds-list-place-2
slice-write-list c = search rules

same_length : tie.Need-shape_of-list
same_length c = search rules

returns-2 : tie.Need-returns
returns-2 c =
    let l = c.args.list.now in
    let p = 82 + get_or l 90 0 in
    rw (c.if-not-ends.false) (ap (λ (m : ℕ). set l p m) (add-one (get_or l p 0)))

pub count_word_spec : {M : Type 1} → statement M
count_word_spec =
    tie.close
    (tie.spec
    returns
    slice-read-place
    add-place
    mul-list
    slice-read-list
    add-list
    mul-list-2
    slice-write-list
    same_length
    returns-2)
