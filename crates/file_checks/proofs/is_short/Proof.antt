-- `file_checks::is_short` meets its contract: each part alone is at most 32,767, so that the sum is no larger than a usize.
-- Assumes nothing.
use mathlib.Core.Path.{sym, ap}
use Prim.Native.Nat.{ℕ, ◌+◌}
use borrow.Author.Tests.{lt-leb}
use lib.Dec.{leb}
use Rattle.files.specs.Writing.{written_lengths}
use native.Mathlib.Omega.{arith}
use borrow.Author.Rules.{rules}
use Rattle.file_checks.proofs.is_short.Statement.{statement}
use Rattle.file_checks.proofs.is_short.Tie as tie

returns : tie.Need-returns-then-words-gt32767
returns c =
    let a = c.args in
    sym (lt-leb (written_lengths a.lengths a.words a.shared).lf 32767 (omega (arith, c.if-words-gt32767.true)))

returns-2 : tie.Need-returns-then-shared-gt32767
returns-2 c =
    let a = c.args in
    sym (lt-leb (written_lengths a.lengths a.words a.shared).lf 32767 (omega (arith, c.if-shared-gt32767.true)))

command-start-requires : tie.Need-command_start-requires
command-start-requires c κs = search rules

add-result : tie.Need-overflow_add-result
add-result c = search rules

add-result-2 : tie.Need-overflow_add-result-2
add-result-2 c = search rules

cast-result : tie.Need-overflow_cast-result
cast-result c = search rules

add-result-3 : tie.Need-overflow_add-result-3
add-result-3 c = search rules

cast-result-2 : tie.Need-overflow_cast-result-2
cast-result-2 c = search rules

add-result-4 : tie.Need-overflow_add-result-4
add-result-4 c = search rules

returns-3 : tie.Need-returns
returns-3 c =
    let a = c.args in
    ap (λ (k : ℕ). leb (k + a.words + a.shared + a.lengths.ne + a.lengths.np) 32767) c.command_start.ensures

pub is_short_spec : {M : Type 1} → statement M
is_short_spec =
    tie.close
    (tie.spec
    returns
    returns-2
    command-start-requires
    add-result
    add-result-2
    cast-result
    add-result-3
    cast-result-2
    add-result-4
    returns-3)
