-- `read_rule::pair_rule` meets its contract: the entry of the left, the index of the rule on its chain, and what the instruction there does.
-- Assumes nothing.
use mathlib.Core.Path.{subst}
use lib.IntN.{ℤ}
use Rattle.words.specs.Words.{Word}
use Rattle.words.proofs.Bits.{number_word}
use Rattle.lang.specs.Entries.{entries_table}
use Rattle.fonts.specs.Fonts.{Font, font_of, left_entry_of}
use Rattle.read_rule.specs.Meant.{meant, left_as}
use Rattle.read_rule.proofs.Laws.{rule_absent, rule_none, rule_found}
use borrow.Author.Rules.{rules}
use Rattle.read_rule.proofs.pair_rule.Statement.{statement}
use Rattle.read_rule.proofs.pair_rule.Tie as tie

-- the font as it is lent
abbrev font : tie.Start → ℤ → Font
font s b =
    font_of s.args.instructions.now s.args.kerns.now s.args.entries.now b s.args.left_entry s.args.design_size

-- the entry, by the left entry as it was lent
entry : (c : tie.After-entry_of-entry) →
    let a = c.args in
    Word (left_entry_of (entries_table a.entries.now a.left_entry) (left_as a.boundary a.left)) c.entry_of-entry.result
entry c =
    subst (λ (l : ℤ). Word (left_entry_of (entries_table c.args.entries.now l) (left_as c.args.boundary c.args.left)) c.entry_of-entry.result)
    (number_word c.args.left_entry c.ranges.left_entry) c.entry_of-entry.ensures

entry-of-requires : tie.Need-entry_of-entry-requires
entry-of-requires c κs = search rules

returns : tie.Need-returns-then-entry-ge2147483648
returns c = λ b.
    let a = c.args in
    rule_absent (font c.before.before b) (left_as a.boundary a.left) a.right c.entry_of-entry.result (entry (c.before)) c.if-entry-ge2147483648.true

cast-rule-index : tie.Need-overflow_cast-entry
cast-rule-index c = search rules

rule-index-requires : tie.Need-rule_index-requires
rule-index-requires c κs = search rules

enum_told : tie.Need-enum_told-1
enum_told c = search rules

enum-known-i : tie.Need-enum_known-i
enum-known-i c = search rules

operation-at-requires : tie.Need-operation_at-requires
operation-at-requires c κs = search rules

rule-of-requires : tie.Need-rule_of-requires
rule-of-requires c κs = search rules

returns-2 : tie.Need-returns-in-None
returns-2 c = λ b.
    let a = c.args in
    rule_none (font c.before.before.before.before b) (left_as a.boundary a.left) a.right c.entry_of-entry.result (entry (c.before.before.before)) c.if-entry-ge2147483648.false c.rule_index.result
    c.rule_index.ensures c.in-None.is

returns-3 : tie.Need-returns-in-Some
returns-3 c = λ b.
    let a = c.args in
    rule_found (font (c.before.before.before.before.before.before) b) (left_as a.boundary a.left) a.right c.entry_of-entry.result (entry (c.before.before.before.before.before)) c.if-entry-ge2147483648.false c.rule_index.result
    c.rule_index.ensures c.in-Some.i _ c.operation_at.result (meant c.rule_of.result) c.in-Some.is
    (number_word a.design_size c.ranges.design_size) c.operation_at.ensures c.rule_of.ensures

pub pair_rule_spec : {M : Type 1} → statement M
pair_rule_spec =
    tie.close
    (tie.spec
    entry-of-requires
    returns
    cast-rule-index
    rule-index-requires
    enum_told
    enum-known-i
    operation-at-requires
    rule-of-requires
    returns-2
    returns-3)
