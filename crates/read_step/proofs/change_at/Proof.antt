-- `read_step::change_at` meets its contract: the words at the cursor, the rule of the pair, and what it does.
-- Assumes nothing.
use mathlib.Core.Path.{◌≡◌, refl}
use Prim.Native.Nat.{suc, ◌%◌}
use lib.Dec.{eqb}
use Rattle.words.proofs.Bits.{number_word}
use Rattle.fonts.specs.Fonts.{Font, font_of, rules_of}
use Rattle.fonts.proofs.Lent.{lent_as}
use Rattle.reading.specs.Items.{Rule}
use Rattle.readings.specs.Lists.{stand_item}
use Rattle.read_rule.specs.Meant.{meant, left_as}
use Rattle.read_step.proofs.Stepping.{changes_at}
use borrow.Author.Rules.{rules}
use Rattle.read_step.proofs.change_at.Statement.{statement}
use Rattle.read_step.proofs.change_at.Tie as tie

mul-word-at : tie.Need-overflow_mul-cursor
mul-word-at c = search rules

word-at-requires : tie.Need-word_at-boundary-requires
word-at-requires c κs = search rules

mul-word-at-2 : tie.Need-overflow_mul-cursor-2
mul-word-at-2 c = search rules

add-word-at : tie.Need-overflow_add-cursor
add-word-at c = search rules

word-at-requires-2 : tie.Need-word_at-requires
word-at-requires-2 c κs = search rules

cast-left : tie.Need-overflow_cast-left
cast-left c = search rules

mul-word-at-3 : tie.Need-overflow_mul-cursor-3
mul-word-at-3 c = search rules

add-word-at-2 : tie.Need-overflow_add-cursor-2
add-word-at-2 c = search rules

word-at-requires-3 : tie.Need-word_at-requires-2
word-at-requires-3 c κs = search rules

cast-right : tie.Need-overflow_cast-right
cast-right c = search rules

pair-rule-requires : tie.Need-pair_rule-rule-requires
pair-rule-requires c κs = search rules

rule-change-requires : tie.Need-rule_change-requires
rule-change-requires c κs = search rules

returns : tie.Need-returns
returns c = λ b.
    let a = c.args in
    let m = meant c.pair_rule-rule.result in
    changes_at
    (rules_of (font_of a.instructions.now a.kerns.now a.entries.now b a.left_entry a.design_size))
    a.items.now a.cursor c.word_at-boundary.result c.word_at.result c.word_at-2.result m c.rule_change.result c.word_at-boundary.ensures
    c.word_at.ensures c.word_at-2.ensures
    (lent_as (λ (f : Font) (r : Rule). r ≡ rules_of f (left_as (eqb c.word_at-boundary.result 3) (c.word_at.result % 256)) (c.word_at-2.result % 256))
    a.instructions.now a.kerns.now a.entries.now b _ a.left_entry _ a.design_size m m (c.pair_rule-rule.ensures b) refl
    (number_word a.left_entry c.ranges.left_entry) (number_word a.design_size c.ranges.design_size))
    (c.rule_change.ensures (stand_item a.items.now a.cursor) (stand_item a.items.now (suc a.cursor)))

pub change_at_spec : {M : Type 1} → statement M
change_at_spec =
    tie.close
    (tie.spec
    mul-word-at
    word-at-requires
    mul-word-at-2
    add-word-at
    word-at-requires-2
    cast-left
    mul-word-at-3
    add-word-at-2
    word-at-requires-3
    cast-right
    pair-rule-requires
    rule-change-requires
    returns)
