-- `step_quick_op::given_first` meets its contract, from the words of the entry and of its first op.
-- Assumes nothing.
use native.Mathlib.Numerals.{add-one}
use borrow.Author.Rules.{rules}
use Rattle.step_quick_op.proofs.given_first.Statement.{statement}
use Rattle.step_quick_op.proofs.given_first.Tie as tie

number-in-requires : tie.Need-number_in-first-requires
number-in-requires c κs = search rules

cast-first : tie.Need-overflow_cast-first
cast-first c = search rules

number-in-requires-2 : tie.Need-number_in-count-requires
number-in-requires-2 c κs = search rules

cast-count : tie.Need-overflow_cast-count
cast-count c = search rules

number-in-requires-3 : tie.Need-number_in-requires
number-in-requires-3 c κs = search rules

number-in-requires-4 : tie.Need-number_in-requires-2
number-in-requires-4 c κs = search rules

after-letter-requires : tie.Need-after_letter-next-requires
after-letter-requires c κs = search rules

minus-requires : tie.Need-saturating_sub-more-requires
minus-requires c κs = search rules

add-moved-on : tie.Need-overflow_add-first
add-moved-on c = search rules

moved-on-requires : tie.Need-moved_on-moved-requires
moved-on-requires c κs = search rules

mul-word-at : tie.Need-overflow_mul-first
mul-word-at c = search rules

add-word-at : tie.Need-overflow_add-first-2
add-word-at c = search rules

word-at-requires : tie.Need-word_at-requires
word-at-requires c κs = search rules

returns : tie.Need-returns
returns c =
    rw (
      c.moved_on-moved.ensures,
      c.after_letter-next.ensures,
      c.saturating_sub-more.ensures,
      add-one c.number_in-first.result,
      c.word_at.ensures.is,
      c.number_in-first.ensures.is,
      c.number_in-count.ensures.is,
      c.number_in.ensures.is,
      c.number_in-2.ensures.is,
    )

pub given_first_spec : {M : Type 1} → statement M
given_first_spec =
    tie.close
    (tie.spec
    number-in-requires
    cast-first
    number-in-requires-2
    cast-count
    number-in-requires-3
    number-in-requires-4
    after-letter-requires
    minus-requires
    add-moved-on
    moved-on-requires
    mul-word-at
    add-word-at
    word-at-requires
    returns)
