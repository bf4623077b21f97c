-- By the tests of the left and of the right, one of which above its last is not looked up.
use Rattle.std.proofs.Common.{sym, ap, ◌∙◌, arith}
use Rattle.captions.specs.Tables.{found_at}
use Rattle.captions.proofs.Beyond.{looks_up_within, within_left, within_right}
use Rattle.step_turns.proofs.turn.find_within.Goals as goal

pub returns-then-left-gt256 : goal.returns-then-left-gt256
returns-then-left-gt256 c =
    let a = c.args in
    ap found_at (sym (within_left a.pairs.now a.left a.right c.if-left-gt256.true))

pub returns-then-right-gt255 : goal.returns-then-right-gt255
returns-then-right-gt255 c =
    let a = c.args in
    ap found_at (sym (within_right a.pairs.now a.left a.right (omega (arith, c.if-right-gt255.true))))

pub returns : goal.returns
returns c =
    let a = c.args in
    c.find.ensures ∙ ap found_at (sym (looks_up_within a.pairs.now a.left a.right c.if-left-gt256.false c.if-right-gt255.false))
