-- `pl_apply::state::stop` meets its contract.
-- Assumes nothing.
use borrow.Author.Rules.{rules}
use Rattle.pl_apply.proofs.state.stop.Statement.{statement}
use Rattle.pl_apply.proofs.state.stop.Tie as tie

end-step-requires : tie.Need-end_step-requires
end-step-requires c κs = search rules

same_length : tie.Need-shape_of-instructions
same_length c = search rules

returns : tie.Need-returns
returns c =
    let End-step = c.end_step in
    End-step.ensures

pub stop_spec : {M : Type 1} → statement M
stop_spec =
    tie.close
    (tie.spec
    end-step-requires
    same_length
    returns)
