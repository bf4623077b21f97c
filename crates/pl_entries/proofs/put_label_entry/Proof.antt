-- `pl_entries::put_label_entry` meets its contract.
-- Assumes nothing.
use mathlib.Core.Path.{sym, ◌∙◌}
use borrow.Author.Tests.{not-true, not-false}
use Rattle.pl_apply.proofs.Laws.{small_number}
use Rattle.words.proofs.Bits.{number_is}
use borrow.Author.Rules.{rules}
use native.Mathlib.Omega.{arith}
use Rattle.pl_entries.proofs.put_label_entry.Statement.{statement}
use Rattle.pl_entries.proofs.put_label_entry.Tie as tie

has-label-requires : tie.Need-has_label-requires
has-label-requires c κs = search rules

returns : tie.Need-returns-then-not-has_label
returns c =
    let f = sym c.has_label.ensures ∙ c.if-not-has_label.true in (rw f, rw f)

cast-put-word : tie.Need-overflow_cast-c
cast-put-word c = search rules

put-word-requires : tie.Need-put_word-requires
put-word-requires c κs = search rules

add-put-word : tie.Need-overflow_add-n
add-put-word c = search rules

word-at-requires : tie.Need-word_at-requires
word-at-requires c κs = search rules

put-word-requires-2 : tie.Need-put_word-requires-2
put-word-requires-2 c κs = search rules

add-result : tie.Need-overflow_add-result
add-result c = search rules

same_length : tie.Need-shape_of-entries
same_length c = search rules

returns-2 : tie.Need-returns
returns-2 c =
    let args = c.args in
    let pre = c.requires in
    let f = sym c.has_label.ensures ∙ c.if-not-has_label.false in
    let a = small_number args.c (omega (arith, pre.0)) in
    (rw f (c.put_word-2.ensures ∙ rw (c.put_word.ensures, a, number_is c.word_at.ensures)), rw f)

pub put_label_entry_spec : {M : Type 1} → statement M
put_label_entry_spec =
    tie.close
    (tie.spec
    has-label-requires
    returns
    cast-put-word
    put-word-requires
    add-put-word
    word-at-requires
    put-word-requires-2
    add-result
    same_length
    returns-2)
