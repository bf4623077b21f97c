-- `read_rule::rule_of` meets its contract: a kern scaled, a ligature as it is.
-- Assumes nothing.
use Rattle.words.proofs.Bits.{number_word}
use Rattle.read_rule.specs.Meant.{meant}
use Rattle.read_rule.proofs.Laws.{kern_operation, ligature_operation, other_operation}
use borrow.Author.Rules.{rules}
use Rattle.read_rule.proofs.rule_of.Statement.{statement}
use Rattle.read_rule.proofs.rule_of.Tie as tie

enum-known-operation : tie.Need-enum_known-operation
enum-known-operation c = search rules

kern-rule-requires : tie.Need-kern_rule-requires
kern-rule-requires c κs = search rules

enum-known-operation-2 : tie.Need-enum_known-operation-in-Ligature-1
enum-known-operation-2 c = search rules

returns : tie.Need-returns-in-Kern
returns c =
    kern_operation c.args.design_size c.args.operation _ _ (meant c.kern_rule.result) (number_word c.args.design_size c.ranges.design_size)
    c.in-Kern.is c.kern_rule.ensures

returns-2 : tie.Need-returns-in-Ligature
returns-2 c =
    ligature_operation c.args.design_size c.args.operation _ _ _ c.in-Ligature.is

returns-3 : tie.Need-returns-in_default
returns-3 c = other_operation c.args.design_size c.args.operation c.in_default.in_default-own.keys3

pub rule_of_spec : {M : Type 1} → statement M
rule_of_spec =
    tie.close
    (tie.spec
    enum-known-operation
    kern-rule-requires
    enum-known-operation-2
    returns
    returns-2
    returns-3)
