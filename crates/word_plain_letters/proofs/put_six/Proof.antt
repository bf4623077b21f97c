-- `word_plain_letters::put_six` meets its contract, by whether there is room.
-- Assumes nothing.
use Rattle.std.proofs.Common.{◌+◌, length, arith, rules, le-leb}
use borrow.Author.Tests.{lt-leb}
use Rattle.word_plain_letters.proofs.put_six.Statement.{statement}
use Rattle.word_plain_letters.proofs.put_six.Tie as tie

returns : tie.Need-returns-then-items-lt6
returns c = let a = c.args in rw (lt-leb (a.at + 6) (length a.items.now) (omega (arith, c.if-items-lt6.true)))

sub-if2 : tie.Need-overflow_sub-items
sub-if2 c = search rules

returns-2 : tie.Need-returns-then-items-at
returns-2 c = let a = c.args in rw (lt-leb (a.at + 6) (length a.items.now) (omega (arith, c.if-items-at.true, c.if-items-lt6.false)))

write-six-requires : tie.Need-write_six-requires
write-six-requires c κs = search rules

same_length : tie.Need-shape_of-items
same_length c = search rules

returns-3 : tie.Need-returns
returns-3 c =
    let a = c.args in
    rw (le-leb (a.at + 6) (length a.items.now) (omega (arith, c.if-items-at.false, c.if-items-lt6.false)))
    c.write_six.ensures

pub put_six_spec : {M : Type 1} → statement M
put_six_spec =
    tie.close
    (tie.spec
    returns
    sub-if2
    returns-2
    write-six-requires
    same_length
    returns-3)
