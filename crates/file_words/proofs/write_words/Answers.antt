use Rattle.std.proofs.Common.{ℕ, ap, length, arith}
use Rattle.files.specs.Sections.{byte_of, kern_byte}
use Rattle.file_words.specs.Fours.{four_bytes}
use Rattle.file_words.proofs.Sections.{words_none, words_more, words_all}
use Rattle.file_words.proofs.write_words.Goals as goal

pub loop-i-init : goal.loop-i-init
loop-i-init c = words_none (kern_byte c.args.kerns.now) c.args.out.now

pub loop-i-preserved : goal.loop-i-preserved
loop-i-preserved c =
    let a = c.args in
    words_more (kern_byte a.kerns.now) a.out.now (length a.kerns.now) c.put_four.new.out (four_bytes (byte_of c.word_at.result)) c.min-n.ensures
    c.loop-i-test.true c.loop-i.invariant (ap (λ (w : ℕ). four_bytes (byte_of w)) c.word_at.ensures.is) c.put_four.ensures

pub returns : goal.returns
returns c =
    let a = c.args in
    words_all (kern_byte a.kerns.now) a.out.now (length a.kerns.now) c.min-n.result c.min-n.ensures (omega arith) c.loop-i-test.false
    c.loop-i.invariant
