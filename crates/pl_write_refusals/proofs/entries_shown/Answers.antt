use mathlib.Core.Path.{sym}
use Prim.Native.Nat.{◌/◌}
use lib.Dec.{ltb}
use lib.ListN.{length}
use Rattle.lang.specs.Checks.{entry_at}
use Rattle.lang.proofs.Every.{every_none, every_more, every_fails}
use Rattle.words.specs.Words.{word_of}
use Rattle.pl_write_refusals.proofs.Shown.{entry_past, entry_there}
use Rattle.pl_write_refusals.proofs.entries_shown.Goals as goal

pub loop-i-init : goal.loop-i-init
loop-i-init c = every_none (λ k. ltb (word_of (entry_at c.args.entries.now k)) c.args.n)

pub loop-i-preserved : goal.loop-i-preserved
loop-i-preserved c =
    every_more c.loop-i.i (λ k. ltb (word_of (entry_at c.args.entries.now k)) c.args.n) c.loop-i.invariant
    (entry_there c.args.n c.word_at.ensures c.if-n-word_at.false)

pub returns-then-n-word_at : goal.returns-then-n-word_at
returns-then-n-word_at c =
    let s = c.args.entries.now in
    sym (every_fails (length s / 2) c.loop-i.i (λ k. ltb (word_of (entry_at s k)) c.args.n) c.loop-i-test.true
    (entry_past c.args.n c.word_at.ensures c.if-n-word_at.true))
