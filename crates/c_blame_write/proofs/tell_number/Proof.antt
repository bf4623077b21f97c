-- `c_blame_write::tell_number` meets its contract: the lower of the number and 15, over zeros.
-- Assumes nothing.
use mathlib.Core.Path.{ap, ◌∙◌}
use borrow.Author.Rules.{rules}
use Rattle.lang.specs.Checks.{lower}
use Rattle.c_blame_write.proofs.Laws.{told_number_lem}
use Rattle.c_blame_write.proofs.tell_number.Statement.{statement}
use Rattle.c_blame_write.proofs.tell_number.Tie as tie

zero-all-requires : tie.Need-zero_all-requires
zero-all-requires c κs = search rules

room-refusal-requires : tie.Need-room_refusal-requires
room-refusal-requires c κs = search rules

lower-of-requires : tie.Need-lower_of-requires
lower-of-requires c κs = search rules

same_length : tie.Need-shape_of-values
same_length c = search rules

returns : tie.Need-returns
returns c =
    let a = c.args in
    told_number_lem a.values.now c.zero_all.ensures a.number _ (c.lower_of.ensures ∙ ap (lower a.number) c.room_refusal.ensures)

pub tell_number_spec : {M : Type 1} → statement M
tell_number_spec =
    tie.close
    (tie.spec
    zero-all-requires
    room-refusal-requires
    lower-of-requires
    same_length
    returns)
