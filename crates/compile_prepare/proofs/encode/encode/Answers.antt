use Rattle.words.specs.Words.{word_of, number_of}
use Rattle.words.proofs.Bits.{number_word}
use Rattle.compiling.proofs.EncodeLaws.{encoding_none, encoding_step, encoding_end}
use Rattle.compile_prepare.proofs.encode.encode.Goals as goal

pub loop-k-init : goal.loop-k-init
loop-k-init c =
    let a = c.args in
    encoding_none a.instructions.now a.kerns.now (number_of (word_of a.design_size)) a.n a.work.now

pub loop-k-preserved : goal.loop-k-preserved
loop-k-preserved c =
    encoding_step c.args.instructions.now c.args.kerns.now (number_of (word_of c.args.design_size)) c.args.n c.args.work.now
    c.loop-k.work c.put.new.work c.put-in-loop-k.new.work c.loop-k.k c.loop-k.scaled c.loop-k.invariant c.loop-k-test.true c.requires.room c.get-index.result
    c.operation_at-operation.result c.effect_of-effect.result c.get-index.ensures c.operation_at-operation.ensures c.effect_of-effect.ensures c.put.ensures
    c.put-in-loop-k.ensures c.both-scaled.result c.both-scaled.ensures

pub returns : goal.returns
returns c =
    encoding_end c.args.instructions.now c.args.kerns.now (number_of (word_of c.args.design_size)) c.args.n c.args.work.now
    c.loop-k.work c.loop-k.k c.loop-k.scaled c.loop-k.invariant c.loop-k-test.false c.args.design_size c.ranges.design_size
    (number_word c.args.design_size c.ranges.design_size)
