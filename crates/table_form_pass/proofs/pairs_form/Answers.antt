use Rattle.std.proofs.Common.{◌≡◌, ◌+◌, ◌*◌, ◌/◌, refl, sym, ◌∙◌, arith, rules}
use Rattle.words.specs.Words.{Word}
use Rattle.words.proofs.Bits.{read_lt}
use Rattle.captions.specs.Tables.{number}
use Rattle.table_form_pass.proofs.PairReads.{number_read}
use Rattle.table_form_pass.proofs.PassedPairs.{passes, key_small, passed_none, passed_more, passed_key, passed_pair, passed_all}
use Rattle.table_form_pass.proofs.pairs_form.Goals as goal

-- how many ops a pair has, where it was read
count : (c : goal.After-word_of) → Word (number c.args.pairs.now c.loop-k.k 5) c.word_of.result
count c =
    let p = 6 * c.loop-k.k in
    let e : p / 6 ≡ c.loop-k.k = omega arith in
    rw e at (number_read c.args.pairs.now p (p + 5) 5 (omega arith) refl (search rules) c.word_of.ensures)

pub loop-k-init : goal.loop-k-init
loop-k-init c = passed_none c.args.pairs.now c.args.ops.now

pub returns-then-key-least : goal.returns-then-key-least
returns-then-key-least c =
    let e : 6 * c.loop-k.k / 6 ≡ c.loop-k.k = omega arith in
    let k = rw e at c.key_in-key.ensures in
    sym (passed_key c.args.pairs.now c.args.ops.now c.loop-k.invariant c.loop-k-test.true (omega arith))

pub returns-then-not-pair_passes : goal.returns-then-not-pair_passes
returns-then-not-pair_passes c =
    let e : 6 * c.loop-k.k / 6 ≡ c.loop-k.k = omega arith in
    sym (passed_pair c.args.pairs.now c.args.ops.now c.loop-k.invariant c.loop-k-test.true (sym (rw e at c.pair_passes.ensures) ∙ c.if-not-pair_passes.true))

pub overflow_add-least : goal.overflow_add-least
overflow_add-least c =
    let e : 6 * c.loop-k.k / 6 ≡ c.loop-k.k = omega arith in
    let a = c.args in
    omega (
      arith,
      rw e at c.key_in-key.ensures,
      key_small a.pairs.now a.ops.now c.loop-k.k c.loop-k.at
          (passes a.pairs.now a.ops.now c.loop-k.k c.loop-k.at (sym (rw e at c.pair_passes.ensures) ∙ c.if-not-pair_passes.false)),
    )

pub overflow_add-at : goal.overflow_add-at
overflow_add-at c = omega (arith, read_lt (count c))

pub loop-k-preserved : goal.loop-k-preserved
loop-k-preserved c =
    let e : 6 * c.loop-k.k / 6 ≡ c.loop-k.k = omega arith in
    passed_more c.args.pairs.now c.args.ops.now c.loop-k.invariant (rw e at c.key_in-key.ensures) c.if-key-least.false
    (sym (rw e at c.pair_passes.ensures) ∙ c.if-not-pair_passes.false) (count c)

pub returns : goal.returns
returns c = passed_all c.args.pairs.now c.args.ops.now c.loop-k.invariant (omega arith)
