-- `repair_fixes::write_step` meets its contract: four stores, one after the other.
-- Assumes nothing.
use mathlib.Core.Path.{refl, ap, ◌∙◌}
use mathlib.Core.Bool.{cond}
use lib.IntN.{pos, negsuc}
use Rattle.lang.specs.Records.{field}
use Rattle.repairs.specs.declared.Faults.{Faults}
use Rattle.repairs.specs.Repaired.{repaired_operand}
use Rattle.repairs.proofs.Pushing.{four_written}
use Rattle.repair_fixes.proofs.Writes.{picked, field_is, new_is}
use borrow.Author.Rules.{rules}
use Rattle.repair_fixes.proofs.write_step.Statement.{statement}
use Rattle.repair_fixes.proofs.write_step.Tie as tie

field-at-requires : tie.Need-field_at-requires
field-at-requires c κs = search rules

pick-requires : tie.Need-pick-next-requires
pick-requires c κs = search rules

field-at-requires-2 : tie.Need-field_at-requires-2
field-at-requires-2 c κs = search rules

pick-requires-2 : tie.Need-pick-right-requires
pick-requires-2 c κs = search rules

field-at-requires-3 : tie.Need-field_at-requires-3
field-at-requires-3 c κs = search rules

pick-requires-3 : tie.Need-pick-kind-requires
pick-requires-3 c κs = search rules

repaired-operand-requires : tie.Need-repaired_operand-operand-requires
repaired-operand-requires c κs = search rules

mul-put-word : tie.Need-overflow_mul-i
mul-put-word c = search rules

put-word-requires : tie.Need-put_word-requires
put-word-requires c κs = search rules

mul-put-word-2 : tie.Need-overflow_mul-i-2
mul-put-word-2 c = search rules

add-put-word : tie.Need-overflow_add-i
add-put-word c = search rules

put-word-requires-2 : tie.Need-put_word-requires-2
put-word-requires-2 c κs = search rules

mul-put-word-3 : tie.Need-overflow_mul-i-3
mul-put-word-3 c = search rules

add-put-word-2 : tie.Need-overflow_add-i-2
add-put-word-2 c = search rules

put-word-requires-3 : tie.Need-put_word-requires-3
put-word-requires-3 c κs = search rules

mul-put-word-4 : tie.Need-overflow_mul-i-4
mul-put-word-4 c = search rules

add-put-word-3 : tie.Need-overflow_add-i-3
add-put-word-3 c = search rules

put-word-requires-4 : tie.Need-put_word-requires-4
put-word-requires-4 c κs = search rules

same_length : tie.Need-shape_of-fixed
same_length c = search rules

returns : tie.Need-returns
returns c = λ p g.
    let a = c.args in
    four_written a.i a.fixed.now {v = repaired_operand p a.i}
    (picked a.f.skip 4294967295 c.field_at.result refl (field_is g 0 c.field_at.ensures) c.pick-next.ensures
    ∙ ap (λ (z : Faults). cond z.skip (negsuc 0) (field p.instructions a.i 0)) g.are)
    (picked a.f.right a.replacement c.field_at-2.result (new_is g c.requires.0) (field_is g 1 c.field_at-2.ensures)
    c.pick-right.ensures ∙ ap (λ (z : Faults). cond z.right (pos p.replacement) (field p.instructions a.i 1)) g.are)
    (picked a.f.kern 0 c.field_at-3.result refl (field_is g 2 c.field_at-3.ensures) c.pick-kind.ensures
    ∙ ap (λ (z : Faults). cond z.kern (pos 0) (field p.instructions a.i 2)) g.are) (c.repaired_operand-operand.ensures p g)
    c.put_word.ensures c.put_word-2.ensures c.put_word-3.ensures c.put_word-4.ensures

pub write_step_spec : {M : Type 1} → statement M
write_step_spec =
    tie.close
    (tie.spec
    field-at-requires
    pick-requires
    field-at-requires-2
    pick-requires-2
    field-at-requires-3
    pick-requires-3
    repaired-operand-requires
    mul-put-word
    put-word-requires
    mul-put-word-2
    add-put-word
    put-word-requires-2
    mul-put-word-3
    add-put-word-2
    put-word-requires-3
    mul-put-word-4
    add-put-word-3
    put-word-requires-4
    same_length
    returns)
