-- `index_plain_letters::letters_done` meets its contract.
-- Assumes nothing.
use borrow.Author.Rules.{rules}
use Rattle.index_plain_letters.proofs.letters_done.Statement.{statement}
use Rattle.index_plain_letters.proofs.letters_done.Tie as tie

sub-letters-moved : tie.Need-overflow_sub-left
sub-letters-moved c = search rules

letters-moved-requires : tie.Need-letters_moved-state-requires
letters-moved-requires c κs = search rules

returns : tie.Need-returns
returns c = λ i. record { state = c.letters_moved-state.ensures i; count = c.args.m }

pub letters_done_spec : {M : Type 1} → statement M
letters_done_spec =
    tie.close
    (tie.spec
    sub-letters-moved
    letters-moved-requires
    returns)
