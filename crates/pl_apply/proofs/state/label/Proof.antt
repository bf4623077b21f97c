-- `pl_apply::state::label` meets its contract.
-- Assumes nothing.
use mathlib.Core.Path.{sym, ◌∙◌}
use borrow.Author.Tests.{not-true, not-false}
use Rattle.pl_apply.proofs.Laws.{let_through_to, held_back, small_number, at_most_right}
use borrow.Author.Rules.{rules}
use native.Mathlib.Omega.{arith}
use Rattle.pl_apply.proofs.state.label.Statement.{statement}
use Rattle.pl_apply.proofs.state.label.Tie as tie

may-label-requires : tie.Need-may_label-requires
may-label-requires c κs = search rules

same_length : tie.Need-shape_of-labels-then-not-may_label
same_length c = search rules

returns : tie.Need-returns-then-not-may_label
returns c =
    held_back (sym c.may_label.ensures ∙ c.if-not-may_label.true)

smaller-requires : tie.Need-min-requires
smaller-requires c κs = search rules

cast-put-word : tie.Need-overflow_cast-min
cast-put-word c = search rules

put-word-requires : tie.Need-put_word-requires
put-word-requires c κs = search rules

at-least-requires : tie.Need-at_least-needed-requires
at-least-requires c κs = search rules

same-length-2 : tie.Need-shape_of-labels
same-length-2 c = search rules

returns-2 : tie.Need-returns
returns-2 c =
    let args = c.args in
    let l = small_number c.min.result (omega (arith, at_most_right args.s.steps 65535, c.min.ensures)) in
    let_through_to (sym c.may_label.ensures ∙ c.if-not-may_label.false) (rw c.at_least-needed.ensures)
    (c.put_word.ensures ∙ rw (l, c.min.ensures))

pub label_spec : {M : Type 1} → statement M
label_spec =
    tie.close
    (tie.spec
    may-label-requires
    same_length
    returns
    smaller-requires
    cast-put-word
    put-word-requires
    at-least-requires
    same-length-2
    returns-2)
