use Rattle.std.proofs.Common.{length, get_or, replicate, arith}
use borrow.Author.Tests.{leb-true}
use Rattle.words.proofs.Lists.{filling_none, filling_length, filling_more}
use Rattle.lang.proofs.Every.{every_at}
use Rattle.c_chips.specs.ChipLists.{is_word}
use Rattle.c_chip_step.proofs.Laws.{words_read}
use Rattle.c_chip_step.proofs.letters_of.Goals as goal

pub loop-i-init : goal.loop-i-init
loop-i-init c = filling_none (λ k. get_or c.args.codes.now k 0) (replicate 64 0)

pub overflow_cast-letters : goal.overflow_cast-letters
overflow_cast-letters c =
    let w = c.args.codes.now in
    let i = c.loop-i.i in
    record {
      fits = omega (
        arith,
        leb-true (get_or w i 0) 4294967295 (every_at (length w) i (λ k. is_word (get_or w k 0)) c.requires.1 c.loop-i-test.true),
      );
    }

pub loop-i-preserved : goal.loop-i-preserved
loop-i-preserved c =
    let w = c.args.codes.now in
    let n = filling_length (λ k. get_or w k 0) (replicate 64 0) c.loop-i.invariant in
    filling_more (λ k. get_or w k 0) (replicate 64 0) c.loop-i.invariant (omega (arith, n, c.requires.0))

pub returns : goal.returns
returns c = words_read 64 c.args.codes.now c.loop-i.letters c.loop-i.i c.loop-i.invariant (omega arith) (omega arith)
