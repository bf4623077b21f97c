-- `compile_settle::wait` meets its contract: a row that is new opens, and there is room on the path; any other makes a loop or leads to one.
-- Assumes nothing.
use mathlib.Core.Path.{◌≡◌, sym, ◌∙◌}
use native.Mathlib.Omega.{arith}
use Rattle.compiling.specs.SettleSteps.{status}
use Rattle.compiling.proofs.Settling.{path_room}
use Rattle.compiling.proofs.SettleLaws.{turned_open, turned_given}
use borrow.Author.Rules.{rules}
use Rattle.compile_settle.proofs.wait.Statement.{statement}
use Rattle.compile_settle.proofs.wait.Tie as tie

-- the row that is waited for is new
new : (c : tie.Then-get-eq0) → let a = c.args in status a.work.now a.j ≡ 0
new c = sym c.get.ensures ∙ c.if-get-eq0.true

get-requires : tie.Need-get-requires
get-requires c κs = search rules

open-row-requires : tie.Need-open_row-requires
open-row-requires c κs =
    let few = c.requires.0.encoded.ascending.few in
    (omega (arith, c.requires.1.row, few), omega (arith, few, path_room c.args.work.now c.requires.0 c.requires.1.row (new c.before)))

add-t15 : tie.Need-overflow_add-result
add-t15 c =
    omega (arith, c.requires.0.encoded.ascending.few, path_room c.args.work.now c.requires.0 c.requires.1.row (new (c.before.before.before.before)))

give-up-requires : tie.Need-give_up-requires
give-up-requires c κs = search rules

same_length : tie.Need-shape_of-work-then-get-eq0
same_length c = search rules

returns : tie.Need-returns-then-get-eq0
returns c =
    turned_open c.args.n c.args.p.path c.args.p.done c.args.j c.args.work.now c.open_row.new.work c.requires.0 c.requires.1 (new (c.before.before.before.before))
    c.open_row.ensures

same-length-2 : tie.Need-shape_of-work-else-get-eq0
same-length-2 c = search rules

returns-2 : tie.Need-returns-else-get-eq0
returns-2 c =
    turned_given c.args.n c.args.p.path c.args.p.done c.args.j c.args.work.now c.give_up.new.work c.requires.0 c.requires.1
    (λ e. c.if-get-eq0.false (c.get.ensures ∙ e)) c.give_up.ensures

pub wait_spec : {M : Type 1} → statement M
wait_spec =
    tie.close
    (tie.spec
    get-requires
    open-row-requires
    add-t15
    give-up-requires
    same_length
    returns
    same-length-2
    returns-2)
