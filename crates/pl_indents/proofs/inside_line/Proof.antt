-- `pl_indents::inside_line` meets its contract.
-- Assumes nothing.
use borrow.Author.Rules.{rules}
use native.Mathlib.Omega.{arith}
use Rattle.pl_indents.proofs.inside_line.Statement.{statement}
use Rattle.pl_indents.proofs.inside_line.Tie as tie

level-after-requires : tie.Need-level_after-requires
level-after-requires c κs = search rules

returns : tie.Need-returns
returns c =
    record { is = rw c.level_after.ensures.0; few_blanks = omega arith; few_open = c.level_after.ensures.1; few_good = omega arith }

pub inside_line_spec : {M : Type 1} → statement M
inside_line_spec =
    tie.close
    (tie.spec
    level-after-requires
    returns)
