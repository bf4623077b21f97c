use Rattle.std.proofs.Common.{ℕ, ◌*◌, sym, ap, ◌∙◌, arith}
use Rattle.file_reading.proofs.Laws.{length_entries_none, count_tagged, count_untagged}
use Rattle.file_reading.proofs.entries.count_entries.Goals as goal
use Rattle.file_reading.proofs.entries.count_entries.Goals.{then-is_lig_tagged, else-is_lig_tagged}

pub loop-i-init : goal.loop-i-init
loop-i-init c = (omega arith, λ k. length_entries_none c.args.file.now k c.args.w)

pub loop-i-preserved : goal.loop-i-preserved
loop-i-preserved c =
    let a = c.args in
    let i = c.loop-i.invariant in
    let e = c.is_lig_tagged.ensures in
    elim c.if-is_lig_tagged.branch [
      | then-is_lig_tagged w ↦ (
        omega (arith, w.count-is, i.0),
        λ k. count_tagged a.file.now k a.w c.loop-i.i c.loop-i.count (i.1 k) (sym e ∙ w.if-is_lig_tagged.true) ∙ ap (λ (n : ℕ). 2 * n) (sym w.count-is),
      )
      | else-is_lig_tagged w ↦ (
        omega (arith, w.count-is, i.0),
        λ k. count_untagged a.file.now k a.w c.loop-i.i c.loop-i.count (i.1 k) (sym e ∙ w.if-is_lig_tagged.false) ∙ ap (λ (n : ℕ). 2 * n) (sym w.count-is),
      )
    ]
