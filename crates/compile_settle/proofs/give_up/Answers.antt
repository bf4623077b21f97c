use Rattle.std.proofs.Common.{ℕ, ◌+◌, ◌*◌, ◌-◌, List, sym, ap, ◌∙◌, subst}
use lib.ListN.{set}
use Rattle.compiling.proofs.Stores.{Climbs, climbs_more}
use Rattle.compile_settle.proofs.give_up.Goals as goal

pub loop-i-preserved : goal.loop-i-preserved
loop-i-preserved c =
    subst (λ (v : List ℕ). Climbs c.args.work.now v c.args.h c.args.j c.get-k.result (c.loop-i.i - 1))
    (sym (c.put-in-loop-i.ensures ∙ ap (λ (v : List ℕ). set v (16 * c.get-k.result + 9) c.loop-i.next) c.put.ensures))
    (climbs_more c.args.work.now c.args.h c.args.j c.args.n c.requires.0 c.requires.1 c.loop-i.work c.loop-i.next c.loop-i.i
    c.get-k.result c.loop-i-test.true c.loop-i.invariant c.get-k.ensures)
