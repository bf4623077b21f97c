-- `repair_fixes::repaired_operand` meets its contract: a kern's or a redirect's operand as it is, or zero; a ligature's two bytes.
-- Assumes nothing.
use native.Mathlib.Omega.{arith}
use Prim.Native.Nat.{◌/◌, ◌%◌}
use Rattle.words.proofs.Bits.{read_lt}
use Rattle.repair_fixes.proofs.Writes.{picked_most, operand_other, operand_ligature}
use borrow.Author.Rules.{rules}
use Rattle.repair_fixes.proofs.repaired_operand.Statement.{statement}
use Rattle.repair_fixes.proofs.repaired_operand.Tie as tie

field-at-requires : tie.Need-field_at-operand-requires
field-at-requires c κs = search rules

field-at-requires-2 : tie.Need-field_at-requires
field-at-requires-2 c κs = search rules

pick-requires : tie.Need-pick-requires
pick-requires c κs = search rules

returns : tie.Need-returns-then-field_at-ne2
returns c = λ p g.
    operand_other g c.field_at.ensures.is c.field_at-operand.ensures c.if-field_at-ne2.true c.pick.ensures

pick-requires-2 : tie.Need-pick-requires-2
pick-requires-2 c κs = search rules

mul-result : tie.Need-overflow_mul-result
mul-result c =
    let o = c.field_at-operand.result in
    let a = c.args in
    record {
      fits =
          omega (
            arith,
            read_lt c.field_at-operand.ensures,
            picked_most a.f.tag 0 (o / 256) 16777215 c.pick-2.ensures (omega arith) (omega (arith, read_lt c.field_at-operand.ensures)),
          );
    }

pick-requires-3 : tie.Need-pick-requires-3
pick-requires-3 c κs = search rules

add-result : tie.Need-overflow_add-result
add-result c =
    let o = c.field_at-operand.result in
    let a = c.args in
    record {
      fits =
          omega (
            arith,
            picked_most a.f.tag 0 (o / 256) 16777215 c.pick-2.ensures (omega arith) (omega (arith, read_lt c.field_at-operand.ensures)),
            picked_most a.f.product a.replacement (o % 256) 255 c.pick-3.ensures (omega arith) (omega arith),
          );
    }

returns-2 : tie.Need-returns
returns-2 c = λ p g.
    operand_ligature g c.field_at.ensures.is c.field_at-operand.ensures c.if-field_at-ne2.false c.requires c.pick-2.ensures
    c.pick-3.ensures

pub repaired_operand_spec : {M : Type 1} → statement M
repaired_operand_spec =
    tie.close
    (tie.spec
    field-at-requires
    field-at-requires-2
    pick-requires
    returns
    pick-requires-2
    mul-result
    pick-requires-3
    add-result
    returns-2)
