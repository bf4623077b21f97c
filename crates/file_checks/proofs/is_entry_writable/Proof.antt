-- `file_checks::is_entry_writable` meets its contract: the tests of the words that were read are those of the numbers.
-- Assumes nothing.
use mathlib.Core.Path.{sym, ap, ◌∙◌}
use Rattle.files.specs.Writing.{is_in_file}
use borrow.Author.Rules.{rules}
use Rattle.file_checks.proofs.is_entry_writable.Statement.{statement}
use Rattle.file_checks.proofs.is_entry_writable.Tie as tie

mul-word-at : tie.Need-overflow_mul-i
mul-word-at c = search rules

word-at-requires : tie.Need-word_at-requires
word-at-requires c κs = search rules

is-in-file-requires : tie.Need-is_in_file-requires
is-in-file-requires c κs = search rules

returns : tie.Need-returns-then-not-is_in_file
returns c =
    let old = c.args.old.now in
    rw (sym (c.is_in_file.ensures ∙ ap (is_in_file old) c.word_at.ensures.is) ∙ c.if-not-is_in_file.true)

mul-word-at-2 : tie.Need-overflow_mul-i-2
mul-word-at-2 c = search rules

add-word-at : tie.Need-overflow_add-i
add-word-at c = search rules

word-at-requires-2 : tie.Need-word_at-requires-2
word-at-requires-2 c κs = search rules

cast-result : tie.Need-overflow_cast-result
cast-result c = search rules

returns-2 : tie.Need-returns
returns-2 c =
    let old = c.args.old.now in
    rw (sym (c.is_in_file.ensures ∙ ap (is_in_file old) c.word_at.ensures.is) ∙ c.if-not-is_in_file.false, c.word_at-2.ensures.is)

pub is_entry_writable_spec : {M : Type 1} → statement M
is_entry_writable_spec =
    tie.close
    (tie.spec
    mul-word-at
    word-at-requires
    is-in-file-requires
    returns
    mul-word-at-2
    add-word-at
    word-at-requires-2
    cast-result
    returns-2)
