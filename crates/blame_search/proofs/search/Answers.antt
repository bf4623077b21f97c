-- `blame_search::search` meets its contract.
-- Assumes nothing.
use Rattle.std.proofs.Common.{◌+◌, sym, ◌∙◌, arith}
use Rattle.blame_search.proofs.Searching.{standing_none, standing_more, standing_found}
use Rattle.blame_search.proofs.search.Goals as goal

pub loop-i-init : goal.loop-i-init
loop-i-init c =
    let a = c.args in
    standing_none a.instructions.now a.kerns.now a.entries.now a.numbers a.word.now a.options a.pairs.now a.ops.now
    a.pairs_without.now a.ops_without.now a.edited.now a.work.now

pub returns-then-not-is_nothing : goal.returns-then-not-is_nothing
returns-then-not-is_nothing c =
    let a = c.args in
    let l = c.loop-i in
    let o = c.answer_edited-answer.new in
    standing_found a.instructions.now a.kerns.now a.entries.now a.numbers a.word.now a.options a.pairs.now a.ops.now
    a.pairs_without.now a.ops_without.now a.edited.now a.work.now
    l.pairs_without l.ops_without l.edited l.work l.i l.invariant c.write_without.new.edited
    c.write_without.ensures c.answer_edited-answer.result o.pairs_without o.ops_without o.work c.answer_edited-answer.ensures
    (sym c.is_nothing.ensures ∙ c.if-not-is_nothing.true) c.loop-i-test.true

pub loop-i-preserved : goal.loop-i-preserved
loop-i-preserved c =
    let a = c.args in
    let l = c.loop-i in
    let o = c.answer_edited-answer.new in
    let k = c.answer_edited-answer.auto in
    standing_more a.instructions.now a.kerns.now a.entries.now a.numbers a.word.now a.options a.pairs.now a.ops.now
    a.pairs_without.now a.ops_without.now a.edited.now a.work.now
    l.pairs_without l.ops_without l.edited l.work l.i l.invariant c.write_without.new.edited
    c.write_without.ensures c.answer_edited-answer.result o.pairs_without o.ops_without o.work c.answer_edited-answer.ensures
    c.write_without.auto.edited k.pairs_without k.ops_without k.work c.loop-i-test.true
    (sym c.is_nothing.ensures ∙ c.if-not-is_nothing.false) (l.i + 1) (omega arith)
