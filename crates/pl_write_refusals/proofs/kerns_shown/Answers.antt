use mathlib.Core.Path.{sym}
use Prim.Native.Nat.{◌≤◌}
use native.Mathlib.Omega.{arith}
use lib.IntN.{pos}
use lib.ListN.{length, get_or}
use Rattle.lang.proofs.Every.{every_none, every_more, every_fails, every_to}
use Rattle.property_lists.specs.Displays.{has_text}
use Rattle.pl_write_refusals.proofs.Shown.{no_text, some_text}
use Rattle.pl_write_refusals.proofs.kerns_shown.Goals as goal

pub loop-i-init : goal.loop-i-init
loop-i-init c = every_none (λ k. has_text (get_or c.args.kerns.now k (pos 0)))

pub loop-i-preserved : goal.loop-i-preserved
loop-i-preserved c =
    every_more c.loop-i.i (λ k. has_text (get_or c.args.kerns.now k (pos 0))) c.loop-i.invariant (some_text c.word_at.ensures c.if-word_at.false)

pub returns-then-word_at : goal.returns-then-word_at
returns-then-word_at c =
    let s = c.args.kerns.now in
    sym (every_fails (length s) c.loop-i.i (λ k. has_text (get_or s k (pos 0))) (omega arith) (no_text c.word_at.ensures c.if-word_at.true))

pub returns : goal.returns
returns c =
    let s = c.args.kerns.now in
    let end : length s ≤ c.loop-i.i = omega (arith, c.loop-i-test.false) in
    sym (every_to (length s) c.loop-i.i (λ k. has_text (get_or s k (pos 0))) c.loop-i.invariant (omega arith) end)
