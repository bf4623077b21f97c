use Rattle.std.proofs.Common.{sym, arith, leb}
use borrow.Author.Tests.{le-leb, lt-leb}
use Rattle.lang.proofs.Every.{every_none, every_more, every_fails}
use Rattle.files.specs.Lengths.{file_half}
use Rattle.file_lengths.proofs.lengths_small.Goals as goal

pub loop-i-init : goal.loop-i-init
loop-i-init c = every_none (λ i. leb (file_half c.args.file.now i) 32767)

pub loop-i-preserved : goal.loop-i-preserved
loop-i-preserved c =
    let file = c.args.file.now in
    every_more c.loop-i.i (λ i. leb (file_half file i) 32767) c.loop-i.invariant
    (le-leb (file_half file c.loop-i.i) 32767 (omega (arith, c.if-file_half-gt32767.false, c.file_half.ensures)))

pub returns-then-file_half-gt32767 : goal.returns-then-file_half-gt32767
returns-then-file_half-gt32767 c =
    let file = c.args.file.now in
    sym (every_fails 12 c.loop-i.i (λ i. leb (file_half file i) 32767) c.loop-i-test.true
    (lt-leb (file_half file c.loop-i.i) 32767 (omega (arith, c.if-file_half-gt32767.true, c.file_half.ensures))))
