-- `pl_apply::state::end_step` meets its contract.
-- Assumes nothing.
use mathlib.Core.Path.{ap, ◌∙◌}
use Prim.Native.Nat.{ℕ, ◌*◌}
use lib.ListN.{set}
use borrow.Author.Tests.{eq-eqb, ne_eqb, not-true, not-false}
use Rattle.words.specs.Words.{number_of}
use Rattle.pl_apply.proofs.Laws.{let_through, held_back}
use borrow.Author.Rules.{rules}
use Rattle.pl_apply.proofs.state.end_step.Statement.{statement}
use Rattle.pl_apply.proofs.state.end_step.Tie as tie

returns : tie.Need-returns-then-s-ne2
returns c =
    let args = c.args in
    held_back (rw (ne_eqb args.s.stage 2 c.if-s-ne2.true))

returns-2 : tie.Need-returns-then-not-s
returns-2 c =
    let args = c.args in
    held_back (rw (eq-eqb args.s.stage 2 c.if-s-ne2.false, not-true args.s.ending c.if-not-s.true))

minus-requires : tie.Need-saturating_sub-requires
minus-requires c κs = search rules

mul-put-word : tie.Need-overflow_mul-saturating_sub
mul-put-word c = search rules

put-word-requires : tie.Need-put_word-requires
put-word-requires c κs = search rules

same_length : tie.Need-shape_of-instructions
same_length c = search rules

returns-3 : tie.Need-returns
returns-3 c =
    let args = c.args in
    let_through (rw (eq-eqb args.s.stage 2 c.if-s-ne2.false, not-false args.s.ending c.if-not-s.false))
    (c.put_word.ensures ∙ ap (λ (k : ℕ). set args.instructions.now (4 * k) (number_of args.next)) c.saturating_sub.ensures)

pub end_step_spec : {M : Type 1} → statement M
end_step_spec =
    tie.close
    (tie.spec
    returns
    returns-2
    minus-requires
    mul-put-word
    put-word-requires
    same_length
    returns-3)
