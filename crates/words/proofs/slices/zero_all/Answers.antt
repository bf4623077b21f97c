use Rattle.std.proofs.Common.{◌≡◌, sym, ap, ◌∙◌, ℕ, length, set, arith}
use Rattle.words.specs.Lists.{Filling}
use Rattle.words.proofs.Lists.{filling_none, filling_more, filling_all, tabulate_constant}
use Rattle.words.proofs.slices.zero_all.Goals as goal

pub loop-i-init : goal.loop-i-init
loop-i-init g c = filling_none (λ (_ : ℕ). g.T.Number.ZERO) c.args.s.now

pub loop-i-preserved : goal.loop-i-preserved
loop-i-preserved g c =
    rw c.ZERO.ensures (filling_more (λ (_ : ℕ). g.T.Number.ZERO) c.args.s.now c.loop-i.invariant (omega arith))

pub returns : goal.returns
returns g c =
    filling_all (λ (_ : ℕ). g.T.Number.ZERO) c.args.s.now c.loop-i.invariant (omega arith)
    ∙ tabulate_constant (length c.args.s.now) g.T.Number.ZERO
