-- `word_plain_letters::letters_end` meets its contract.
-- Assumes nothing.
use Rattle.std.proofs.Common.{rules}
use Rattle.word_plain_letters.proofs.letters_end.Statement.{statement}
use Rattle.word_plain_letters.proofs.letters_end.Tie as tie

sub-letters-moved : tie.Need-overflow_sub-left
sub-letters-moved c = search rules

letters-moved-requires : tie.Need-letters_moved-state-requires
letters-moved-requires c κs = search rules

returns : tie.Need-returns
returns c = λ i. record { state = c.letters_moved-state.ensures i; count = c.args.m; pair = c.args.pair }

pub letters_end_spec : {M : Type 1} → statement M
letters_end_spec =
    tie.close
    (tie.spec
    sub-letters-moved
    letters-moved-requires
    returns)
