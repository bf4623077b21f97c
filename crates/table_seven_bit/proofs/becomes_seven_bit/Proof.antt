-- `table_seven_bit::becomes_seven_bit` meets its contract: its ops, and then its last.
-- Assumes nothing.
use mathlib.Core.Path.{◌≡◌, sym, ◌∙◌}
use lib.Dec.{ltb}
use Rattle.lang.specs.Every.{both}
use Rattle.captions.specs.Tables.{last_code}
use Rattle.captions.specs.Queries.{becomes_seven_bit}
use Rattle.table_form.proofs.Entries.{entry_end}
use Rattle.table_seven_bit.proofs.Laws.{becomes_by}
use borrow.Author.Rules.{rules}
use Rattle.table_seven_bit.proofs.becomes_seven_bit.Statement.{statement}
use Rattle.table_seven_bit.proofs.becomes_seven_bit.Tie as tie

ops_are : (c : tie.After-ops_are_seven_bit) →
    becomes_seven_bit c.args.pairs.now c.args.ops.now c.args.k
    ≡ both c.ops_are_seven_bit.result (ltb (last_code c.args.pairs.now c.args.k) 128)
ops_are c =
    let a = c.args in
    becomes_by a.pairs.now a.ops.now a.k c.number_at-first.ensures c.number_at-count.ensures c.ops_are_seven_bit.ensures

number-at-requires : tie.Need-number_at-first-requires
number-at-requires c κs = search rules

cast-first : tie.Need-overflow_cast-first
cast-first c = search rules

number-at-requires-2 : tie.Need-number_at-count-requires
number-at-requires-2 c κs = search rules

cast-count : tie.Need-overflow_cast-count
cast-count c = search rules

ops-are-seven-bit-requires : tie.Need-ops_are_seven_bit-requires
ops-are-seven-bit-requires c κs =
    entry_end c.args.pairs.now c.args.ops.now c.args.k c.requires.1 c.number_at-first.ensures c.number_at-count.ensures

returns : tie.Need-returns-then-not-ops_are_seven_bit
returns c = sym (ops_are c.before ∙ rw (c.if-not-ops_are_seven_bit.true))

number-at-requires-3 : tie.Need-number_at-requires
number-at-requires-3 c κs = search rules

returns-2 : tie.Need-returns
returns-2 c =
    sym (ops_are c.before.before ∙ rw (c.if-not-ops_are_seven_bit.false, c.number_at.ensures.is))

pub becomes_seven_bit_spec : {M : Type 1} → statement M
becomes_seven_bit_spec =
    tie.close
    (tie.spec
    number-at-requires
    cast-first
    number-at-requires-2
    cast-count
    ops-are-seven-bit-requires
    returns
    number-at-requires-3
    returns-2)
