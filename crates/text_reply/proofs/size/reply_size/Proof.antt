-- `text_reply::size::reply_size` meets its contract: the parts are counted one after the other.
-- Assumes nothing.
use mathlib.Core.Path.{sym, subst}
use mathlib.Core.List.{[]}
use Prim.Native.Nat.{ℕ, ◌+◌, ◌*◌, ◌-◌, ◌/◌, ◌^◌, ◌≤◌, suc}
use native.Mathlib.Omega.{arith}
use lib.ListN.{length}
use Rattle.words.specs.Words.{number_of}
use Rattle.words.proofs.Bits.{number_pos, number_neg}
use Rattle.text_reply.specs.Sizes.{table_bytes}
use Rattle.text_reply.proofs.Counts.{capped_size_most, size_plain, size_word}
use borrow.Author.Rules.{rules}
use Rattle.text_reply.proofs.size.reply_size.Statement.{statement}
use Rattle.text_reply.proofs.size.reply_size.Tie as tie

table-size-requires : tie.Need-table_size-requires
table-size-requires c κs = search rules

with-lines-requires : tie.Need-with_lines-size-requires
with-lines-requires c κs =
    let a = c.args in
    (subst (λ (n : ℕ). n ≤ 65537) (sym (c.table_size.ensures [])) (capped_size_most (length (table_bytes a.pairs.now []))), omega arith, omega arith)

with-lines-requires-2 : tie.Need-with_lines-requires
with-lines-requires-2 c κs = (
  subst (λ (n : ℕ). n ≤ 65537) (sym c.with_lines-size.ensures) (capped_size_most (c.table_size.result + length c.args.loops.now / 2 * 26)),
  omega arith,
  omega arith,
)

with-lines-requires-3 : tie.Need-with_lines-requires-then-letters-lt2147483648
with-lines-requires-3 c κs =
    (subst (λ (n : ℕ). n ≤ 65537) (sym c.with_lines.ensures) (capped_size_most (c.with_lines-size.result + 14)), omega arith, omega arith)

returns : tie.Need-returns-then-letters-lt2147483648
returns c =
    let a = c.args in
    λ ops. size_word a.pairs.now ops a.loops.now (number_of a.letters) a.items.now c.table_size.result c.with_lines-size.result
    (c.table_size.ensures ops) c.with_lines-size.ensures a.letters (number_pos a.letters c.if-letters-lt2147483648.true) c.with_lines.result
    c.with_lines-then-letters-lt2147483648.result c.with_lines.ensures c.with_lines-then-letters-lt2147483648.ensures

returns-2 : tie.Need-returns
returns-2 c =
    let a = c.args in
    λ ops. size_plain a.pairs.now ops a.loops.now (number_of a.letters) a.items.now c.table_size.result c.with_lines-size.result
    (c.table_size.ensures ops) c.with_lines-size.ensures (2 ^ 32 - suc a.letters) (number_neg a.letters c.if-letters-lt2147483648.false)

pub reply_size_spec : {M : Type 1} → statement M
reply_size_spec =
    tie.close
    (tie.spec
    table-size-requires
    with-lines-requires
    with-lines-requires-2
    with-lines-requires-3
    returns
    returns-2)
