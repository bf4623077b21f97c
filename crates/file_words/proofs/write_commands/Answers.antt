use Rattle.std.proofs.Common.{ap, ◌∙◌, ℤ, arith}
use Rattle.words.specs.Words.{number_of}
use Rattle.words.proofs.Bits.{number_is}
use Rattle.lang.specs.Records.{count}
use Rattle.lang.proofs.Records.{word_passed}
use Rattle.files.specs.Sections.{byte_of, command_byte, words_in_front}
use Rattle.file_words.specs.Fours.{four_bytes}
use Rattle.file_words.proofs.Sections.{words_none, words_more, words_all}
use Rattle.file_words.proofs.write_commands.Goals as goal

pub loop-i-init : goal.loop-i-init
loop-i-init c = words_none (command_byte c.args.instructions.now (number_of c.word_of-b.result)) c.args.out.now

pub loop-i-preserved : goal.loop-i-preserved
loop-i-preserved c =
    let a = c.args in
    words_more (command_byte a.instructions.now (number_of c.word_of-b.result)) a.out.now (count a.instructions.now) c.put_four.new.out
    (four_bytes (byte_of c.command_word.result)) c.min-n.ensures c.loop-i-test.true c.loop-i.invariant c.command_word.ensures c.put_four.ensures

pub returns : goal.returns
returns c =
    let a = c.args in
    let b = number_is (word_passed c.ranges.boundary c.word_of-b.ensures) in
    words_all (command_byte a.instructions.now (number_of c.word_of-b.result)) a.out.now (count a.instructions.now) c.min-n.result
    c.min-n.ensures (omega arith) c.loop-i-test.false c.loop-i.invariant
    ∙ ap (λ (z : ℤ). words_in_front (count a.instructions.now) (command_byte a.instructions.now z) a.out.now) b
