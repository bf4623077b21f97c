use Rattle.std.proofs.Common.{ℕ, sym, get_or, length}
use lib.IntN.{pos}
use Rattle.lang.proofs.Every.{every_none, every_more, every_fails}
use Rattle.repairs.specs.Committing.{same_number}
use Rattle.repair_commit_refusals.proofs.Comparing.{same_word, other_word}
use Rattle.repair_commit_refusals.proofs.starts_with.Goals as goal

pub loop-i-init : goal.loop-i-init
loop-i-init c =
    let a = c.args in
    every_none (λ (k : ℕ). same_number (get_or a.handed.now k (pos 0)) (get_or a.found.now k (pos 0)))

pub returns-then-word_at : goal.returns-then-word_at
returns-then-word_at c =
    let a = c.args in
    sym (every_fails (length a.handed.now) c.loop-i.i (λ (k : ℕ). same_number (get_or a.handed.now k (pos 0)) (get_or a.found.now k (pos 0)))
    c.loop-i-test.true (other_word c.word_at.ensures c.word_at-in-loop-i.ensures c.if-word_at.true))

pub loop-i-preserved : goal.loop-i-preserved
loop-i-preserved c =
    let a = c.args in
    every_more c.loop-i.i (λ (k : ℕ). same_number (get_or a.handed.now k (pos 0)) (get_or a.found.now k (pos 0))) c.loop-i.invariant
    (same_word c.word_at.ensures c.word_at-in-loop-i.ensures c.if-word_at.false)
