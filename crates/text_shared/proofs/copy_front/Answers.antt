use native.Mathlib.Omega.{arith}
use Rattle.words.proofs.Bits.{number_is}
use Rattle.words.proofs.Lists.{appending_none}
use Rattle.text_shared.proofs.Laws.{copying_more, copying_all}
use Rattle.text_shared.proofs.copy_front.Goals as goal

pub loop-j-init : goal.loop-j-init
loop-j-init c = appending_none c.args.to.now

pub loop-j-preserved : goal.loop-j-preserved
loop-j-preserved c =
    let a = c.args in
    copying_more a.from.now a.to.now a.k c.requires.0 (omega arith) c.requires.1 c.loop-j.invariant c.put_word.ensures (number_is c.word_at.ensures)

pub returns : goal.returns
returns c =
    let a = c.args in
    copying_all a.from.now a.to.now a.k c.requires.0 {j = c.loop-j.j} (omega arith) c.loop-j.invariant
