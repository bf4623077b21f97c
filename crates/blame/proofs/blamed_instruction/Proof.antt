-- `blame::blamed_instruction` meets its contract: the answer is that over the cut tables, and the six lists are zeroed at the end.
-- Assumes nothing.
use mathlib.Core.Path.{◌≡◌, sym, ap, ◌∙◌}
use Prim.Native.Nat.{ℕ}
use lib.IntN.{pos}
use lib.ListN.{replicate}
use borrow.Author.Rules.{rules}
use Rattle.blame.proofs.blamed_instruction.Statement.{statement}
use Rattle.blame.proofs.blamed_instruction.Tie as tie

answer-cut-requires : tie.Need-answer_cut-answer-requires
answer-cut-requires c κs = search rules

zero-work-requires : tie.Need-zero_work-requires
zero-work-requires c κs = search rules

same_length : tie.Need-shape_of-pairs
same_length c = search rules

same-length-2 : tie.Need-shape_of-ops
same-length-2 c = search rules

same-length-3 : tie.Need-shape_of-pairs_without
same-length-3 c = search rules

same-length-4 : tie.Need-shape_of-ops_without
same-length-4 c = search rules

same-length-5 : tie.Need-shape_of-edited
same-length-5 c = search rules

same-length-6 : tie.Need-shape_of-work
same-length-6 c = search rules

returns : tie.Need-returns
returns c =
    record {
      answer = c.answer_cut-answer.ensures;
      zeroed =
          record {
            table = c.zero_work.ensures.table ∙ ap (λ (m : ℕ). replicate m (pos 0)) (sym c.zero_work.auto.pairs ∙ same_length c);
            ops_table_lem = c.zero_work.ensures.ops_table_lem ∙ ap (λ (m : ℕ). replicate m (pos 0)) (sym c.zero_work.auto.ops ∙ same-length-2 c);
            second_table = c.zero_work.ensures.second_table ∙ ap (λ (m : ℕ). replicate m (pos 0)) (sym c.zero_work.auto.pairs_without ∙ same-length-3 c);
            second_ops = c.zero_work.ensures.second_ops ∙ ap (λ (m : ℕ). replicate m (pos 0)) (sym c.zero_work.auto.ops_without ∙ same-length-4 c);
            edits = c.zero_work.ensures.edits ∙ ap (λ (m : ℕ). replicate m (pos 0)) (sym c.zero_work.auto.edited ∙ same-length-5 c);
            cleared = c.zero_work.ensures.cleared ∙ ap (λ (m : ℕ). replicate m 0) (sym c.zero_work.auto.work ∙ same-length-6 c);
          };
    }

pub blamed_instruction_spec : {M : Type 1} → statement M
blamed_instruction_spec =
    tie.close
    (tie.spec
    answer-cut-requires
    zero-work-requires
    same_length
    same-length-2
    same-length-3
    same-length-4
    same-length-5
    same-length-6
    returns)
