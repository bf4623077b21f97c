-- `text_lists::letters_in` meets its contract. Assumes nothing.
use mathlib.Core.Path.{sym, ap}
use borrow.Author.Rules.{rules}
use Rattle.words.proofs.Bits.{read_pos, read_neg}
use Rattle.lang.proofs.Records.{word_passed}
use Rattle.columns.specs.Scanned.{letters_in}
use Rattle.text_lists.proofs.letters_in.Statement.{statement}
use Rattle.text_lists.proofs.letters_in.Tie as tie

word-of-requires : tie.Need-word_of-w-requires
word-of-requires c κs = search rules

cast-result : tie.Need-overflow_cast-result
cast-result c = search rules

returns : tie.Need-returns-then-w-lt2147483648
returns c = sym (ap letters_in (read_pos (word_passed c.ranges.letters c.word_of-w.ensures) c.if-w-lt2147483648.true))

returns-2 : tie.Need-returns-else-w-lt2147483648
returns-2 c = sym (ap letters_in (read_neg (word_passed c.ranges.letters c.word_of-w.ensures) c.if-w-lt2147483648.false))

pub letters_in_spec : {M : Type 1} → statement M
letters_in_spec =
    tie.close
    (tie.spec
    word-of-requires
    cast-result
    returns
    returns-2)
