-- `repair_entries::left_goes` meets its contract: the sign by the highest of the 32 bits.
-- Assumes nothing.
use mathlib.Core.Path.{ap, ◌∙◌}
use borrow.Author.Rules.{rules}
use Rattle.words.specs.Words.{Word, word_of}
use Rattle.words.proofs.Bits.{number_word}
use Rattle.lang.specs.Records.{count}
use Rattle.repair_entries.proofs.Entering.{left_absent, left_there}
use Rattle.repair_entries.proofs.left_goes.Statement.{statement}
use Rattle.repair_entries.proofs.left_goes.Tie as tie

word : (c : tie.After-word_of-entry) → Word c.args.left_entry c.word_of-entry.result
word c =
    record { is = c.word_of-entry.ensures ∙ ap word_of (number_word c.args.left_entry c.ranges.left_entry); fits = c.ranges.left_entry }

word-of-requires : tie.Need-word_of-entry-requires
word-of-requires c κs = search rules

returns : tie.Need-returns-then-entry-ge2147483648
returns c =
    left_absent (count c.args.instructions.now) (word c.before) c.if-entry-ge2147483648.true

cast-result : tie.Need-overflow_cast-result
cast-result c = search rules

returns-2 : tie.Need-returns
returns-2 c =
    left_there (count c.args.instructions.now) (word c.before) c.if-entry-ge2147483648.false

pub left_goes_spec : {M : Type 1} → statement M
left_goes_spec =
    tie.close
    (tie.spec
    word-of-requires
    returns
    cast-result
    returns-2)
