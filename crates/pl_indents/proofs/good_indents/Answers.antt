use mathlib.Core.Path.{refl, sym, ◌∙◌}
use native.Mathlib.Omega.{arith}
use Rattle.pl_indents.proofs.Laws.{grown, refused, kept_more, kept_none, kept_end}
use Rattle.pl_indents.proofs.good_indents.Goals as goal

pub loop-b-init : goal.loop-b-init
loop-b-init c = (omega arith, omega arith, omega arith, refl)

pub after_byte-requires : goal.after_byte-requires
after_byte-requires c = record { blanks = omega arith; level = omega arith; good = omega arith }

pub returns-in_default : goal.returns-in_default
returns-in_default c =
    let l = c.loop-b in
    sym (kept_none c.args.text.now l.b-index l.s c.loop-b-test.true (refused c.after_byte.ensures c.in_default.is)) ∙ l.invariant.3

pub loop-b-preserved : goal.loop-b-preserved
loop-b-preserved c =
    let l = c.loop-b in
    let g = grown c.after_byte.ensures c.in-To.is in
    (omega (arith, g.1), omega (arith, g.2), omega (arith, g.3), sym (kept_more c.args.text.now l.b-index l.s c.loop-b-test.true g.0) ∙ l.invariant.3)

pub returns : goal.returns
returns c = sym (kept_end c.args.text.now c.loop-b.b-index c.loop-b.s c.loop-b-test.false) ∙ c.loop-b.invariant.3
