-- `compile_op_counts::part_count` meets its contract: each arm is a clause of its definition.
-- Assumes nothing.
use mathlib.Core.Path.{sym, ap, ◌∙◌}
use Rattle.compiling.specs.OpSteps.{part_count}
use borrow.Author.Rules.{rules}
use Rattle.compile_op_counts.proofs.part_count.Statement.{statement}
use Rattle.compile_op_counts.proofs.part_count.Tie as tie

enum_told : tie.Need-enum_told-1
enum_told c = search rules

enum-told-2 : tie.Need-enum_told-in-Character
enum-told-2 c = search rules

enum-told-3 : tie.Need-enum_told-in-Ligature
enum-told-3 c = search rules

enum-told-4 : tie.Need-enum_told-in-Kern
enum-told-4 c = search rules

enum-known-part : tie.Need-enum_known-part
enum-known-part c = search rules

get-requires : tie.Need-get-requires
get-requires c κs = search rules

returns : tie.Need-returns-in-Nothing
returns c = search rules

returns-2 : tie.Need-returns-in-Character
returns-2 c = search rules

returns-3 : tie.Need-returns-in-Ligature
returns-3 c = search rules

returns-4 : tie.Need-returns-in-Kern
returns-4 c = search rules

returns-5 : tie.Need-returns-in-OfRow
returns-5 c = c.get.ensures ∙ sym (ap (part_count c.args.work.now) c.in-OfRow.is)

pub part_count_spec : {M : Type 1} → statement M
part_count_spec =
    tie.close
    (tie.spec
    enum_told
    enum-told-2
    enum-told-3
    enum-told-4
    enum-known-part
    get-requires
    returns
    returns-2
    returns-3
    returns-4
    returns-5)
