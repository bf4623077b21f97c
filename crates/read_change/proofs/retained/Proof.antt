-- `read_change::retained` meets its contract, a case for each answer.
-- Assumes nothing.
use native.Mathlib.Omega.{arith}
use Rattle.read_change.proofs.Placing.{retains_free, retains_kern, retains_ligature}
use borrow.Author.Rules.{rules}
use Rattle.read_change.proofs.retained.Statement.{statement}
use Rattle.read_change.proofs.retained.Tie as tie

enum_told : tie.Need-enum_told-1
enum_told c = search rules

change-of-requires : tie.Need-change_of-requires
change-of-requires c κs = search rules

enum-known-rule : tie.Need-enum_known-rule
enum-known-rule c = search rules

change-of-requires-2 : tie.Need-change_of-requires-in-Kern
change-of-requires-2 c κs = search rules

enum-known-rule-2 : tie.Need-enum_known-rule-in-Ligature-1
enum-known-rule-2 c = search rules

keeps-left-requires : tie.Need-keeps_left-requires
keeps-left-requires c κs = search rules

keeps-right-requires : tie.Need-keeps_right-requires
keeps-right-requires c κs = search rules

passes-requires : tie.Need-passes-requires
passes-requires c κs = search rules

cast-change-of : tie.Need-overflow_cast-c
cast-change-of c = search rules

change-of-requires-3 : tie.Need-change_of-requires-in-Ligature
change-of-requires-3 c κs = search rules

returns : tie.Need-returns-in-Free
returns c =
    let a = c.args in retains_free a.rule c.change_of.result c.in-Free.is c.change_of.ensures

returns-2 : tie.Need-returns-in-Kern
returns-2 c =
    let a = c.args in
    retains_kern a.rule c.change_of-in-Kern.result c.in-Kern.w c.in-Kern.is c.change_of-in-Kern.ensures

returns-3 : tie.Need-returns-in-Ligature
returns-3 c =
    let a = c.args in
    retains_ligature a.rule c.change_of-in-Ligature.result c.in-Ligature.operation c.in-Ligature.c c.keeps_left.result c.keeps_right.result
    c.passes.result c.in-Ligature.is (omega (arith, c.in-Ligature.known_told-in-Ligature-1-own.given)) c.keeps_left.ensures c.keeps_right.ensures
    c.passes.ensures c.change_of-in-Ligature.ensures

pub retained_spec : {M : Type 1} → statement M
retained_spec =
    tie.close
    (tie.spec
    enum_told
    change-of-requires
    enum-known-rule
    change-of-requires-2
    enum-known-rule-2
    keeps-left-requires
    keeps-right-requires
    passes-requires
    cast-change-of
    change-of-requires-3
    returns
    returns-2
    returns-3)
