-- `blame_removal::answer_edited` meets its contract: what compile left is answered, and then zeroed (proofs/Answering).
-- Assumes nothing.
use mathlib.Core.Path.{◌≡◌, sym, ap, subst, ◌∙◌}
use Prim.Native.Nat.{ℕ}
use lib.IntN.{ℤ, pos}
use lib.ListN.{length, replicate}
use borrow.Author.Rules.{rules}
use Rattle.words.proofs.Bits.{number_word}
use Rattle.removals.specs.Removed.{font_at, size_number}
use Rattle.blame_removal.specs.Edited.{compiled_answer}
use Rattle.blame_removal.proofs.Answering.{tables_fit, compiled_is}
use Rattle.blame_removal.proofs.answer_edited.Statement.{statement}
use Rattle.blame_removal.proofs.answer_edited.Tie as tie

compile-loopless-requires : tie.Need-compile_loopless-compiled-requires
compile-loopless-requires c κs = search rules

answer-compiled-requires : tie.Need-answer_compiled-answer-requires
answer-compiled-requires c κs =
    let a = c.args in
    tables_fit (font_at a.edited.now a.kerns.now a.entries.now a.numbers) (size_number a.numbers) a.pairs_without.now
    a.ops_without.now c.compile_loopless-compiled.new.pairs c.compile_loopless-compiled.new.ops a.work.now c.compile_loopless-compiled.new.work c.compile_loopless-compiled.result c.compile_loopless-compiled.ensures

zero-all-requires : tie.Need-zero_all-requires
zero-all-requires c κs = search rules

zero-all-requires-2 : tie.Need-zero_all-requires-2
zero-all-requires-2 c κs = search rules

same_length : tie.Need-shape_of-pairs_without
same_length c = search rules

same-length-2 : tie.Need-shape_of-ops_without
same-length-2 c = search rules

same-length-3 : tie.Need-shape_of-work
same-length-3 c = search rules

returns : tie.Need-returns
returns c =
    let a = c.args in
    record {
      answer =
          c.answer_compiled-answer.ensures
          ∙ ap (λ (b : ℤ). compiled_answer a.i c.compile_loopless-compiled.result b a.word.now a.options a.pairs.now a.ops.now c.compile_loopless-compiled.new.pairs c.compile_loopless-compiled.new.ops)
          (number_word a.numbers.boundary (record { sfits = c.struct_told-1.given.0.1 }))
          ∙ compiled_is (font_at a.edited.now a.kerns.now a.entries.now a.numbers) (size_number a.numbers) a.pairs_without.now
          a.ops_without.now c.compile_loopless-compiled.new.pairs c.compile_loopless-compiled.new.ops a.work.now c.compile_loopless-compiled.new.work a.i a.word.now a.options a.pairs.now a.ops.now
          c.compile_loopless-compiled.result c.compile_loopless-compiled.ensures;
      table = c.zero_all.ensures ∙ ap (λ (m : ℕ). replicate m (pos 0)) c.compile_loopless-compiled.auto.pairs;
      ops_table_lem = c.zero_all-2.ensures ∙ ap (λ (m : ℕ). replicate m (pos 0)) c.compile_loopless-compiled.auto.ops;
      cleared = c.compile_loopless-compiled.ensures.cleared;
    }

pub answer_edited_spec : {M : Type 1} → statement M
answer_edited_spec =
    tie.close
    (tie.spec
    compile-loopless-requires
    answer-compiled-requires
    zero-all-requires
    zero-all-requires-2
    same_length
    same-length-2
    same-length-3
    returns)
