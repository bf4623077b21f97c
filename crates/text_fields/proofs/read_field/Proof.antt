-- `text_fields::read_field` meets its contract: a field of 12 columns, or what is left of the text. Assumes nothing.
use mathlib.Core.Path.{sym, ap, ◌∙◌}
use Prim.Native.Nat.{◌+◌}
use native.Mathlib.Omega.{arith}
use lib.ListN.{length}
use borrow.Author.Rules.{rules}
use Rattle.columns.specs.Numbers.{read_field}
use Rattle.columns.specs.Scanned.{number_reply}
use Rattle.text_fields.specs.Steps.{EndsField}
use Rattle.text_fields.proofs.Leading.{past_none, ends_short, ends_whole}
use Rattle.text_fields.proofs.read_field.Statement.{statement}
use Rattle.text_fields.proofs.read_field.Tie as tie

returns : tie.Need-returns-then-text-at
returns c = sym (ap number_reply (past_none c.args.text.now c.args.at c.if-text-at.true))

sub-if2 : tie.Need-overflow_sub-text
sub-if2 c = search rules

short : (c : tie.Then-text-at-lt12) → let a = c.args in EndsField a.text.now a.at (length a.text.now)
short c = let a = c.args in ends_short a.text.now a.at (omega (arith, c.if-text-at.false)) c.if-text-at-lt12.true

whole : (c : tie.Else-text-at-lt12) → let a = c.args in EndsField a.text.now a.at (a.at + 12)
whole c = let a = c.args in ends_whole a.text.now a.at (omega (arith, c.if-text-at.false, c.if-text-at-lt12.false))

read-part-requires : tie.Need-read_part-requires
read-part-requires c κs = (short c).part

returns-2 : tie.Need-returns-then-text-at-lt12
returns-2 c = c.read_part.ensures ∙ sym (ap (λ l. number_reply (read_field l)) (short c.before).is)

eight-blanks-requires : tie.Need-eight_blanks-requires
eight-blanks-requires c κs = search rules

add-read-last : tie.Need-overflow_add-at
add-read-last c = search rules

add-read-last-2 : tie.Need-overflow_add-at-then-eight_blanks
add-read-last-2 c = search rules

read-last-requires : tie.Need-read_last-requires
read-last-requires c κs = search rules

returns-3 : tie.Need-returns-then-eight_blanks
returns-3 c =
    c.read_last.ensures
    ∙ sym (ap number_reply ((c.eight_blanks.ensures c.if-eight_blanks.true).reads _ (omega arith) (whole (c.before.before.before)).part.inside))
    ∙ sym (ap (λ l. number_reply (read_field l)) (whole (c.before.before.before)).is)

add-read-part : tie.Need-overflow_add-at-2
add-read-part c = search rules

read-part-requires-2 : tie.Need-read_part-requires-2
read-part-requires-2 c κs = (whole c.before.before).part

returns-4 : tie.Need-returns
returns-4 c = c.read_part-2.ensures ∙ sym (ap (λ l. number_reply (read_field l)) (whole c.before.before.before).is)

pub read_field_spec : {M : Type 1} → statement M
read_field_spec =
    tie.close
    (tie.spec
    returns
    sub-if2
    read-part-requires
    returns-2
    eight-blanks-requires
    add-read-last
    add-read-last-2
    read-last-requires
    returns-3
    add-read-part
    read-part-requires-2
    returns-4)
