-- `c_chip_write::put_changes` meets its contract: four parts of the list are written.
-- Assumes nothing.
use mathlib.Core.Path.{◌≡◌, ◌∙◌}
use mathlib.Core.List.{List}
use Prim.Native.Nat.{ℕ, ◌+◌, ◌-◌}
use native.Mathlib.Omega.{arith}
use lib.ListN.{length, get_or, set, replicate}
use lib.Seq.{sets}
use Rattle.c_states.specs.States.{numbers_of}
use Rattle.c_chips.specs.ChipLists.{shown_numbers}
use Rattle.c_chip_write.proofs.Laws.{one_long, more_long, changes_put}
use borrow.Author.Rules.{rules}
use Rattle.c_chip_write.proofs.put_changes.Statement.{statement}
use Rattle.c_chip_write.proofs.put_changes.Tie as tie

-- the first number and the item's
abbrev stored : List ℕ → ℕ → List ℕ → List ℕ
stored l a vs = sets (set l 0 a) 2 vs

-- the list keeps its length, after the item and the run
shown-long : (c : tie.After-put_shown) → length c.put_shown.new.list ≡ length c.args.list.now
shown-long c =
    let a = c.args in
    one_long a.list.now c.put_shown.new.list c.bit.result (shown_numbers a.item) c.put_shown.ensures

run_long : (c : tie.After-put_run) →
    length c.put_run.new.list ≡ length c.args.list.now
run_long c =
    let a = c.args in
    more_long a.list.now c.put_shown.new.list c.put_run.new.list 9 (numbers_of a.state) (shown-long (c.before.before.before.before)) c.put_run.ensures

slice-read-n : tie.Need-bounds-list-1
slice-read-n c = search rules

bit-requires : tie.Need-bit-requires
bit-requires c κs = search rules

slice-write-list : tie.Need-bounds-list-0
slice-write-list c = search rules

put-shown-requires : tie.Need-put_shown-requires
put-shown-requires c κs = search rules

put-run-requires : tie.Need-put_run-requires
put-run-requires c κs =
    omega (arith, shown-long (c.before.before.before), c.requires.0)

add-put-zeros : tie.Need-overflow_add-n
add-put-zeros c = search rules

put-zeros-requires : tie.Need-put_zeros-requires
put-zeros-requires c κs =
    (omega (arith, run_long (c.before.before.before), c.requires.0), omega (arith, c.requires.1))

same_length : tie.Need-shape_of-list
same_length c =
    let l = c.args.list.now in
    let n = get_or l 1 0 in
    more_long l c.put_run.new.list c.put_zeros.new.list (18 + n) (replicate (82 - (18 + n)) 0) (run_long (c.before.before.before.before.before.before)) c.put_zeros.ensures

returns : tie.Need-returns
returns c =
    let a = c.args in
    changes_put a.list.now a.opened a.item a.state c.requires.0 c.requires.1 c.put_shown.new.list c.put_run.new.list c.put_zeros.new.list
    (c.put_shown.ensures ∙ (λ j. stored a.list.now (c.bit.ensures j) (shown_numbers a.item))) c.put_run.ensures c.put_zeros.ensures

pub put_changes_spec : {M : Type 1} → statement M
put_changes_spec =
    tie.close
    (tie.spec
    slice-read-n
    bit-requires
    slice-write-list
    put-shown-requires
    put-run-requires
    add-put-zeros
    put-zeros-requires
    same_length
    returns)
