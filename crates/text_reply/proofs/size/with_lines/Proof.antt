-- `text_reply::size::with_lines` meets its contract: more than 65,536 lines have more than 65,536 bytes; fewer are counted.
-- Assumes nothing.
use mathlib.Core.Path.{sym}
use Prim.Native.Nat.{◌+◌, ◌*◌}
use native.Mathlib.Omega.{arith}
use Rattle.text_reply.proofs.Counts.{capped_size_below, capped_size_over, many_lines, few_lines}
use Rattle.text_reply.proofs.size.with_lines.Statement.{statement}
use Rattle.text_reply.proofs.size.with_lines.Tie as tie

returns : tie.Need-returns-then-count-gt65536
returns c =
    let a = c.args in
    sym (capped_size_over (a.size + a.count * a.each) (many_lines a.size a.count a.each c.if-count-gt65536.true c.requires.1))

mul-sum : tie.Need-overflow_mul-sum
mul-sum c = record { fits = omega (arith, few_lines c.args.count c.args.each c.if-count-gt65536.false c.requires.2) }

add-sum : tie.Need-overflow_add-sum
add-sum c = record { fits = omega (arith, few_lines c.args.count c.args.each c.if-count-gt65536.false c.requires.2, c.requires.0) }

returns-2 : tie.Need-returns-then-sum-lt65537
returns-2 c = let a = c.args in sym (capped_size_below (a.size + a.count * a.each) c.if-sum-lt65537.true)

returns-3 : tie.Need-returns-else-sum-lt65537
returns-3 c = let a = c.args in sym (capped_size_over (a.size + a.count * a.each) c.if-sum-lt65537.false)

pub with_lines_spec : {M : Type 1} → statement M
with_lines_spec =
    tie.close
    (tie.spec
    returns
    mul-sum
    add-sum
    returns-2
    returns-3)
