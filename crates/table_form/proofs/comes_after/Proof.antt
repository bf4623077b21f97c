-- `table_form::comes_after` meets its contract: the keys of the pair before and of the pair.
-- Assumes nothing.
use Rattle.table_form.proofs.KeyLaws.{after_other}
use borrow.Author.Rules.{rules}
use Rattle.table_form.proofs.comes_after.Statement.{statement}
use Rattle.table_form.proofs.comes_after.Tie as tie

returns : tie.Need-returns-then-k-eq0
returns c = search rules

sub-key-at : tie.Need-overflow_sub-k
sub-key-at c = search rules

key-at-requires : tie.Need-key_at-requires
key-at-requires c κs = search rules

key-at-requires-2 : tie.Need-key_at-requires-2
key-at-requires-2 c κs = search rules

returns-2 : tie.Need-returns
returns-2 c =
    let a = c.args in
    after_other a.pairs.now a.k c.key_at.result c.key_at-2.result c.if-k-eq0.false c.key_at.ensures c.key_at-2.ensures

pub comes_after_spec : {M : Type 1} → statement M
comes_after_spec =
    tie.close
    (tie.spec
    returns
    sub-key-at
    key-at-requires
    key-at-requires-2
    returns-2)
