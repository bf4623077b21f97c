-- `c_chip_write::put_run` meets its contract: the state's numbers at the front of the part from place 9 on.
-- Assumes nothing.
use Rattle.c_chip_write.proofs.Laws.{state_put}
use borrow.Author.Rules.{rules}
use Rattle.c_chip_write.proofs.put_run.Statement.{statement}
use Rattle.c_chip_write.proofs.put_run.Tie as tie

sub-put-state : tie.Need-slice_bounds-put_state-count
sub-put-state c = search rules

part-put-state-start : tie.Need-slice_bounds-put_state-start
part-put-state-start c = search rules

part-put-state-end : tie.Need-slice_bounds-put_state-end
part-put-state-end c = search rules

put-state-requires : tie.Need-put_state-requires
put-state-requires c κs = search rules

same_length : tie.Need-shape_of-list
same_length c = search rules

returns : tie.Need-returns
returns c =
    state_put c.args.list.now c.put_state.new.list c.args.state c.requires c.put_state.ensures.stored

pub put_run_spec : {M : Type 1} → statement M
put_run_spec =
    tie.close
    (tie.spec
    sub-put-state
    part-put-state-start
    part-put-state-end
    put-state-requires
    same_length
    returns)
