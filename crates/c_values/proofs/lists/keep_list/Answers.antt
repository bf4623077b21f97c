use Rattle.std.proofs.Common.{◌≡◌, arith}
use Rattle.c_values.proofs.Telling.{zeroed}
use Rattle.c_values.proofs.lists.keep_list.Goals as goal

pub returns-then-number-ne0 : goal.returns-then-number-ne0
returns-then-number-ne0 g c =
    zeroed g.T.Number.ZERO c.args.number c.args.out.now (λ z. omega (arith, z, c.if-number-ne0.true)) c.zero_all.ensures

pub returns-else-number-ne0 : goal.returns-else-number-ne0
returns-else-number-ne0 g c = let z : c.args.number ≡ 0 = omega (arith, c.if-number-ne0.false) in rw z
