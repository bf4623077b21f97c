use Rattle.repair_entries.proofs.Entering.{passed_more}
use Rattle.repair_entries.proofs.pass_redirects.Goals as goal

pub loop-k-preserved : goal.loop-k-preserved
loop-k-preserved c =
    let a = c.args in
    λ d t f. passed_more d a.instructions.now a.entries.now f.lists t c.loop-k.k c.word_at-entry.result c.word_at-entry.ensures.is
    (c.loop-k.invariant d t f) c.pass_redirect.ensures
