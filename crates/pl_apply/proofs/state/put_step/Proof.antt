-- `pl_apply::state::put_step` meets its contract.
-- Assumes nothing.
use mathlib.Core.Path.{ap, ◌∙◌}
use lib.IntN.{ℤ, pos}
use Prim.Native.Nat.{◌+◌, ◌*◌, ◌%◌}
use lib.ListN.{set}
use borrow.Author.Tests.{eq-eqb, ne_eqb}
use Rattle.words.specs.Words.{number_of}
use Rattle.pl_apply.proofs.Laws.{let_through, held_back, small_number, four_stored}
use borrow.Author.Rules.{rules}
use native.Mathlib.Omega.{arith}
use Rattle.pl_apply.proofs.state.put_step.Statement.{statement}
use Rattle.pl_apply.proofs.state.put_step.Tie as tie

returns : tie.Need-returns-then-s-ne2
returns c =
    let args = c.args in
    held_back (ne_eqb args.s.stage 2 c.if-s-ne2.true)

mul-put-word : tie.Need-overflow_mul-s
mul-put-word c = search rules

put-word-requires : tie.Need-put_word-requires
put-word-requires c κs = search rules

mul-put-word-2 : tie.Need-overflow_mul-s-2
mul-put-word-2 c = search rules

add-put-word : tie.Need-overflow_add-s
add-put-word c = search rules

put-word-requires-2 : tie.Need-put_word-requires-2
put-word-requires-2 c κs = search rules

mul-put-word-3 : tie.Need-overflow_mul-s-3
mul-put-word-3 c = search rules

add-put-word-2 : tie.Need-overflow_add-s-2
add-put-word-2 c = search rules

put-word-requires-3 : tie.Need-put_word-requires-3
put-word-requires-3 c κs = search rules

mul-put-word-4 : tie.Need-overflow_mul-s-4
mul-put-word-4 c = search rules

add-put-word-3 : tie.Need-overflow_add-s-3
add-put-word-3 c = search rules

put-word-requires-4 : tie.Need-put_word-requires-4
put-word-requires-4 c κs = search rules

add-t13 : tie.Need-overflow_add-result
add-t13 c = search rules

same_length : tie.Need-shape_of-instructions
same_length c = search rules

returns-2 : tie.Need-returns
returns-2 c =
    let args = c.args in
    let l = small_number (args.right % 256) (omega arith) in
    let q = c.put_word-2.ensures ∙ ap (λ (z : ℤ). set c.put_word.new.s (4 * args.s.steps + 1) z) l in
    let_through (eq-eqb args.s.stage 2 c.if-s-ne2.false)
    (four_stored args.instructions.now (4 * args.s.steps) (pos 0) (pos (args.right % 256)) (number_of args.kind) (number_of args.operand)
    c.put_word.ensures q c.put_word-3.ensures c.put_word-4.ensures)

pub put_step_spec : {M : Type 1} → statement M
put_step_spec =
    tie.close
    (tie.spec
    returns
    mul-put-word
    put-word-requires
    mul-put-word-2
    add-put-word
    put-word-requires-2
    mul-put-word-3
    add-put-word-2
    put-word-requires-3
    mul-put-word-4
    add-put-word-3
    put-word-requires-4
    add-t13
    same_length
    returns-2)
