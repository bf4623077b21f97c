use Rattle.std.proofs.Common.{◌+◌, ◌≤◌, List, ℤ, pos, refl, ap, ◌∙◌, subst, get_or, arith}
use lib.ListN.{set}
use Rattle.words.specs.Words.{number_of, Word}
use Rattle.compiling.proofs.OpTables.{passed_none, passed_more, raised_at, raised_none}
use Rattle.compile_ops.proofs.raise_first.Goals as goal

pub loop-i-init : goal.loop-i-init
loop-i-init c = (refl, λ os a. passed_none c.args.from os)

pub returns-then-word_at-ne2 : goal.returns-then-word_at-ne2
returns-then-word_at-ne2 c =
    λ os a.
    c.put_word.ensures
    ∙ ap (λ (x : List ℤ). set x c.loop-i.i (number_of 1)) c.loop-i.invariant.0
    ∙ raised_at c.args.ops.now c.args.from c.args.to os a c.requires c.loop-i.i c.word_at.result
    (c.loop-i.invariant.1 os a) c.loop-i-test.true
    (subst (λ (x : List ℤ). Word (get_or x c.loop-i.i (pos 0)) c.word_at.result) c.loop-i.invariant.0 c.word_at.ensures) c.if-word_at-ne2.true

pub loop-i-preserved : goal.loop-i-preserved
loop-i-preserved c = (
  c.loop-i.invariant.0,
  λ os a. passed_more c.args.ops.now c.args.from c.args.to os a c.requires c.loop-i.i c.word_at.result (c.loop-i.invariant.1 os a)
      c.loop-i-test.true
      (subst (λ (x : List ℤ). Word (get_or x c.loop-i.i (pos 0)) c.word_at.result) c.loop-i.invariant.0 c.word_at.ensures)
      c.if-word_at-ne2.false,
)

pub returns : goal.returns
returns c =
    λ os a.
    c.loop-i.invariant.0 ∙ raised_none c.args.ops.now c.args.from c.args.to os a c.requires c.loop-i.i (c.loop-i.invariant.1 os a) c.loop-i-test.false

pub returns-else-word_at-ne2 : goal.returns-else-word_at-ne2
returns-else-word_at-ne2 c =
    λ os a.
    let z : c.args.to ≤ c.loop-i.i + 2 = omega arith in
    c.loop-i.invariant.0
    ∙ raised_none c.args.ops.now c.args.from c.args.to os a c.requires (c.loop-i.i + 2)
    (passed_more c.args.ops.now c.args.from c.args.to os a c.requires c.loop-i.i c.word_at.result (c.loop-i.invariant.1 os a)
    c.loop-i-test.true
    (subst (λ (x : List ℤ). Word (get_or x c.loop-i.i (pos 0)) c.word_at.result) c.loop-i.invariant.0 c.word_at.ensures)
    c.if-word_at-ne2.false)
    z
