use Rattle.std.proofs.Common.{ℕ, ◌*◌, sym, ap, ◌∙◌, arith}
use Rattle.file_unpacking.proofs.Unpacking.{led, not_led, leading_none, leading_more, leading_same}
use Rattle.file_unpacking.proofs.count_leading.Goals as goal
use Rattle.file_unpacking.proofs.count_leading.Goals.{then-entry_refusal-eq0, else-entry_refusal-eq0}

pub loop-i-init : goal.loop-i-init
loop-i-init c = let a = c.args in (omega arith, leading_none a.instructions.now a.packed.now)

pub loop-i-preserved : goal.loop-i-preserved
loop-i-preserved c =
    let s = c.args.instructions.now in
    let p = c.args.packed.now in
    let i = c.loop-i.i in
    let n = c.loop-i.n in
    let inv = c.loop-i.invariant in
    let r = c.word_at-entry.ensures in
    let e = c.entry_refusal.ensures in
    elim c.if-entry_refusal-eq0.branch [
      | then-entry_refusal-eq0 w ↦ (
        omega (arith, w.n-is, inv.0),
        leading_more s p i (led s p i r e w.if-entry_refusal-eq0.true) n inv.1 ∙ ap (λ (n : ℕ). 2 * n) (sym w.n-is),
      )
      | else-entry_refusal-eq0 w ↦ (
        omega (arith, w.n-is, inv.0),
        leading_same s p i (not_led s p i r e w.if-entry_refusal-eq0.false) n inv.1 ∙ ap (λ (n : ℕ). 2 * n) (sym w.n-is),
      )
    ]
