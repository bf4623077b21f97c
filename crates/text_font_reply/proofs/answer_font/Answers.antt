-- `text_font_reply::answer_font` meets its contract: the lowest number of compiling and of the word, or what `answer_word` answers for what compiling wrote.
-- Assumes nothing.
use Rattle.std.proofs.Common.{◌≡◌, ℕ, ◌*◌, ℤ, pos, List, length, take, ◌<◌, sym, ap, subst, ◌∙◌, arith, w32}
use mathlib.Core.Path.{subst₃}
use mir.Val.{SFits}
use lib.Seq.{length-take-le}
use Rattle.words.specs.Words.{word_of, number_of}
use Rattle.words.proofs.Bits.{number_word}
use Rattle.tfm.specs.Scaled.{design_at}
use Rattle.tfm.proofs.Sizes.{design_plain}
use Rattle.lang.specs.Checks.{or_else, lower}
use Rattle.lang.proofs.Refusals.{lower_some}
use Rattle.fonts.specs.declared.Compiled.{Compiled}
use Rattle.fonts.specs.Fonts.{font_of}
use Rattle.fonts.specs.Compiled.{compile_refusal, Compiles}
use Rattle.columns.proofs.FontBegins.{lists_of}
use Rattle.columns.specs.Ligcols.{column_room, signs_refusal, word_number}
use Rattle.text_font_reply.specs.Answering.{AnswersBytes, fresh_bytes, fresh_number}
use Rattle.text_font_reply.proofs.Laws.{not_compiled, compiled_taken, pairs_fit, ops_fit_lem, loops_fit, number_first, font_set}
use Rattle.text_font_reply.proofs.answer_font.Goals as goal

-- what is compiled for numbers as they were passed is compiled for the numbers
passed : (i k e : List ℤ) (b l d : ℤ) → SFits w32 b → SFits w32 l → SFits w32 d → (ps os ls : List ℤ) (w : List ℕ) (r : Compiled)
    (ps' os' ls' : List ℤ) (w' : List ℕ) →
    Compiles (font_of i k e (number_of (word_of b)) (number_of (word_of l)) (design_at (number_of (word_of d)) (pos 0) (pos 0))) 0 ps os ls w r ps' os' ls' w' →
    Compiles (font_of i k e b l d) 0 ps os ls w r ps' os' ls' w'
passed i k e b l d fb fl fd ps os ls w r ps' os' ls' w' h =
    subst₃ (λ (x y z : ℤ). Compiles (font_of i k e x y z) 0 ps os ls w r ps' os' ls' w') (number_word b fb) (number_word l fl)
    (design_plain (number_of (word_of d)) ∙ number_word d fd) h

pub returns-then-bad-ne0 : goal.returns-then-bad-ne0
returns-then-bad-ne0 c =
    let a = c.args in
    let x = c.refuse-then-bad-ne0 in
    let l = c.signs_refusal-bad in
    let f = font_of a.instructions.now a.kerns.now a.entries.now a.boundary a.left_entry a.design_size in
    let n = c.compile.new in
    let t = passed a.instructions.now a.kerns.now a.entries.now a.boundary a.left_entry a.design_size c.ranges.boundary c.ranges.left_entry c.ranges.design_size
    c.pair_list-pairs.result c.op_list-ops.result c.loop_list-loops.result c.rows-work.result _ n.pairs n.ops n.loops n.work c.in-Tables.ensures in
    let k : compile_refusal f column_room ≡ 0 =
    compiled_taken f c.pair_list-pairs.result c.op_list-ops.result c.loop_list-loops.result c.rows-work.result c.pair_list-pairs.ensures
    c.op_list-ops.ensures c.loop_list-loops.ensures c.rows-work.ensures t in
    number_first f a.letters a.word.now a.reply.now x.result x.new.reply l.result
    (l.ensures ∙ sym (ap (λ (m : ℕ). lower m (signs_refusal a.word.now)) k))
    (omega (arith, c.if-bad-ne0.true)) x.ensures

pub slice_bounds-answer_word-end : goal.slice_bounds-answer_word-end
slice_bounds-answer_word-end c =
    let a = c.args in
    let f = font_of a.instructions.now a.kerns.now a.entries.now a.boundary a.left_entry a.design_size in
    let n = c.compile.new in
    let t = passed a.instructions.now a.kerns.now a.entries.now a.boundary a.left_entry a.design_size c.ranges.boundary c.ranges.left_entry c.ranges.design_size
    c.pair_list-pairs.result c.op_list-ops.result c.loop_list-loops.result c.rows-work.result _ n.pairs n.ops n.loops n.work c.in-Tables.ensures in
    sym (length-take-le (6 * c.in-Tables.p) n.pairs
    (omega (
      arith,
      pairs_fit f c.pair_list-pairs.result c.op_list-ops.result c.loop_list-loops.result c.rows-work.result c.pair_list-pairs.ensures
          c.op_list-ops.ensures c.loop_list-loops.ensures c.rows-work.ensures t c.compile.auto.pairs,
      c.compile.auto.pairs,
      c.pair_list-pairs.ensures,
    )))

pub slice_bounds-answer_word-end-in-Tables : goal.slice_bounds-answer_word-end-in-Tables
slice_bounds-answer_word-end-in-Tables c =
    let a = c.args in
    let f = font_of a.instructions.now a.kerns.now a.entries.now a.boundary a.left_entry a.design_size in
    let n = c.compile.new in
    let t = passed a.instructions.now a.kerns.now a.entries.now a.boundary a.left_entry a.design_size c.ranges.boundary c.ranges.left_entry c.ranges.design_size
    c.pair_list-pairs.result c.op_list-ops.result c.loop_list-loops.result c.rows-work.result _ n.pairs n.ops n.loops n.work c.in-Tables.ensures in
    sym (length-take-le (2 * c.in-Tables.o) n.ops
    (omega (
      arith,
      ops_fit_lem f c.pair_list-pairs.result c.op_list-ops.result c.loop_list-loops.result c.rows-work.result c.pair_list-pairs.ensures
          c.op_list-ops.ensures c.loop_list-loops.ensures c.rows-work.ensures t c.compile.auto.ops,
      c.compile.auto.ops,
      c.op_list-ops.ensures,
    )))

pub slice_bounds-answer_word-end-in-Tables-2 : goal.slice_bounds-answer_word-end-in-Tables-2
slice_bounds-answer_word-end-in-Tables-2 c =
    let a = c.args in
    let f = font_of a.instructions.now a.kerns.now a.entries.now a.boundary a.left_entry a.design_size in
    let n = c.compile.new in
    let t = passed a.instructions.now a.kerns.now a.entries.now a.boundary a.left_entry a.design_size c.ranges.boundary c.ranges.left_entry c.ranges.design_size
    c.pair_list-pairs.result c.op_list-ops.result c.loop_list-loops.result c.rows-work.result _ n.pairs n.ops n.loops n.work c.in-Tables.ensures in
    sym (length-take-le (2 * c.in-Tables.l) n.loops
    (omega (
      arith,
      loops_fit f c.pair_list-pairs.result c.op_list-ops.result c.loop_list-loops.result c.rows-work.result c.pair_list-pairs.ensures
          c.op_list-ops.ensures c.loop_list-loops.ensures c.rows-work.ensures t c.compile.auto.loops,
      c.compile.auto.loops,
      c.loop_list-loops.ensures,
    )))

pub returns-in-Refused : goal.returns-in-Refused
returns-in-Refused c =
    let a = c.args in
    let x = c.refuse in
    let l = c.signs_refusal-bad in
    let f = font_of a.instructions.now a.kerns.now a.entries.now a.boundary a.left_entry a.design_size in
    let n = c.compile.new in
    let t = passed a.instructions.now a.kerns.now a.entries.now a.boundary a.left_entry a.design_size c.ranges.boundary c.ranges.left_entry c.ranges.design_size
    c.pair_list-pairs.result c.op_list-ops.result c.loop_list-loops.result c.rows-work.result _ n.pairs n.ops n.loops n.work c.in-Refused.ensures in
    let r = not_compiled f c.pair_list-pairs.result c.op_list-ops.result c.loop_list-loops.result c.rows-work.result c.pair_list-pairs.ensures
    c.op_list-ops.ensures c.loop_list-loops.ensures c.rows-work.ensures c.in-Refused.n t in
    number_first f a.letters a.word.now a.reply.now x.result x.new.reply c.lower_of.result
    (c.lower_of.ensures ∙ (λ i. lower (r.0 i) (l.ensures i)))
    (subst (λ (m : ℕ). 0 < m) (sym c.lower_of.ensures) (lower_some c.in-Refused.n l.result (λ z. omega (arith, z, r.1))))
    x.ensures

pub returns-else-bad-ne0 : goal.returns-else-bad-ne0
returns-else-bad-ne0 c =
    let a = c.args in
    let x = c.answer_word in
    let l = c.signs_refusal-bad in
    let f = font_of a.instructions.now a.kerns.now a.entries.now a.boundary a.left_entry a.design_size in
    let n = c.compile.new in
    let t = passed a.instructions.now a.kerns.now a.entries.now a.boundary a.left_entry a.design_size c.ranges.boundary c.ranges.left_entry c.ranges.design_size
    c.pair_list-pairs.result c.op_list-ops.result c.loop_list-loops.result c.rows-work.result _ n.pairs n.ops n.loops n.work c.in-Tables.ensures in
    let k : compile_refusal f column_room ≡ 0 =
    compiled_taken f c.pair_list-pairs.result c.op_list-ops.result c.loop_list-loops.result c.rows-work.result c.pair_list-pairs.ensures
    c.op_list-ops.ensures c.loop_list-loops.ensures c.rows-work.ensures t in
    let w = (lists_of t).1 in
    let e : l.result ≡ 0 = omega (arith, c.if-bad-ne0.false) in
    let ps = take (6 * c.in-Tables.p) n.pairs in
    let os = take (2 * c.in-Tables.o) n.ops in
    let ls = take (2 * c.in-Tables.l) n.loops in
    font_set f a.letters a.word.now a.reply.now x.result x.new.reply k (sym l.ensures ∙ e) ps os ls
    w.table w.op_table w.loop_table
    (subst (λ (z : ℤ). AnswersBytes
    (or_else (word_number ps os ls a.word.now (length a.reply.now)) (fresh_number ps os ls z a.letters a.word.now (length a.reply.now)))
    (fresh_bytes ps os ls z a.letters a.word.now) a.reply.now x.result x.new.reply)
    (number_word a.boundary c.ranges.boundary)
    (subst (λ (z : ℤ). AnswersBytes
    (or_else (word_number ps os ls a.word.now (length a.reply.now))
    (fresh_number ps os ls (number_of (word_of a.boundary)) z a.word.now (length a.reply.now)))
    (fresh_bytes ps os ls (number_of (word_of a.boundary)) z a.word.now) a.reply.now x.result x.new.reply)
    (number_word a.letters c.ranges.letters) x.ensures))
