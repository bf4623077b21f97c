-- `word_plain_letters::letters_moved` meets its contract, by whether there are letters.
-- Assumes nothing.
use Rattle.std.proofs.Common.{rules, eq-eqb, ne_eqb}
use Rattle.word_plain_letters.proofs.letters_moved.Statement.{statement}
use Rattle.word_plain_letters.proofs.letters_moved.Tie as tie

returns : tie.Need-returns-then-n-eq0
returns c = rw (eq-eqb c.args.n 0 c.if-n-eq0.true)

wrapping-add-usize-requires : tie.Need-wrapping_add_usize-read-requires
wrapping-add-usize-requires c κs = search rules

wrapping-add-usize-requires-2 : tie.Need-wrapping_add_usize-given-requires
wrapping-add-usize-requires-2 c κs = search rules

returns-2 : tie.Need-returns
returns-2 c =
    rw (
      ne_eqb c.args.n 0 c.if-n-eq0.false,
      c.wrapping_add_usize-read.ensures,
      c.wrapping_add_usize-given.ensures,
    )

pub letters_moved_spec : {M : Type 1} → statement M
letters_moved_spec =
    tie.close
    (tie.spec
    returns
    wrapping-add-usize-requires
    wrapping-add-usize-requires-2
    returns-2)
