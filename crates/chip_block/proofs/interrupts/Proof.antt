-- `chip_block::interrupts` meets its contract: by the two flags and the mask's bits.
-- Assumes nothing.
use mathlib.Core.Path.{◌≡◌}
use mathlib.Core.Bool.{false, not}
use Prim.Native.Nat.{◌%◌}
use lib.Dec.{eqb}
use Rattle.lang.specs.Every.{both}
use borrow.Author.Tests.{ne_eqb}
use Rattle.chip_block.proofs.Laws.{none_ready, ready_hidden}
use Rattle.chip_block.proofs.interrupts.Statement.{statement}
use Rattle.chip_block.proofs.interrupts.Tie as tie
use Rattle.chip_block.proofs.interrupts.Lts.{then-ready+else-mask-ne1, else-ready}

returns : tie.Need-returns-then-mask-ne1
returns c = rw (c.if-ready.true, ne_eqb (c.args.mask % 2) 1 c.if-mask-ne1.true)

returns-2 : tie.Need-returns-then-opened
returns-2 c =
    let a = c.args in
    let h : both a.ready (not (eqb (a.mask % 2) 1)) ≡ false =
    elim c.if-ready.branch [
      | then-ready+else-mask-ne1 w ↦ ready_hidden a.mask a.ready w.if-mask-ne1.false
      | else-ready w ↦ none_ready a.mask w.if-ready.false
    ] in
    rw (h, c.if-opened.true)

returns-3 : tie.Need-returns
returns-3 c =
    let a = c.args in
    let h : both a.ready (not (eqb (a.mask % 2) 1)) ≡ false =
    elim c.if-ready.branch [
      | then-ready+else-mask-ne1 w ↦ ready_hidden a.mask a.ready w.if-mask-ne1.false
      | else-ready w ↦ none_ready a.mask w.if-ready.false
    ] in
    rw (h, c.if-opened.false)

pub interrupts_spec : {M : Type 1} → statement M
interrupts_spec =
    tie.close
    (tie.spec
    returns
    returns-2
    returns-3)
