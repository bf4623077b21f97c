-- `c_states::states::state_in` meets its contract: the numbers are a state, or they are not.
-- Assumes nothing.
use mathlib.Core.Path.{sym, ◌∙◌}
use Rattle.c_states.proofs.ReadBack.{state_long, state_code}
use borrow.Author.Rules.{rules}
use Rattle.c_states.proofs.states.state_in.Statement.{statement}
use Rattle.c_states.proofs.states.state_in.Tie as tie

is-state-requires : tie.Need-is_state-requires
is-state-requires c κs = search rules

state-at-requires : tie.Need-state_at-requires
state-at-requires c κs =
    let s = c.args.list.now in let e = sym c.is_state.ensures ∙ c.if-is_state.true in (state_long s e, state_code s e)

returns : tie.Need-returns-then-is_state
returns c = rw (sym c.is_state.ensures ∙ c.if-is_state.true) c.state_at.ensures

returns-2 : tie.Need-returns
returns-2 c = rw (sym c.is_state.ensures ∙ c.if-is_state.false)

pub state_in_spec : {M : Type 1} → statement M
state_in_spec =
    tie.close
    (tie.spec
    is-state-requires
    state-at-requires
    returns
    returns-2)
