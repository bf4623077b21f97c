-- `file_commands::word_byte` meets its contract: a byte past the end is 0.
-- Assumes nothing.
use mathlib.Core.Path.{sym}
use Prim.Native.Nat.{◌+◌, ◌*◌}
use native.Mathlib.Omega.{arith}
use lib.ListN.{get_or-eq_default}
use borrow.Author.Rules.{rules}
use Rattle.file_commands.proofs.word_byte.Statement.{statement}
use Rattle.file_commands.proofs.word_byte.Tie as tie

returns : tie.Need-returns-then-file-w
returns c =
    let a = c.args in
    sym (get_or-eq_default a.file.now 0 {n = 4 * a.w + a.j} (omega (arith, c.if-file-w.true)))

mul-u8-at : tie.Need-overflow_mul-w
mul-u8-at c = search rules

add-u8-at : tie.Need-overflow_add-w
add-u8-at c = search rules

item-at-requires : tie.Need-item_at-requires
item-at-requires c κs = search rules

returns-2 : tie.Need-returns
returns-2 c = search rules

pub word_byte_spec : {M : Type 1} → statement M
word_byte_spec =
    tie.close
    (tie.spec
    returns
    mul-u8-at
    add-u8-at
    item-at-requires
    returns-2)
