-- `pl_indents::first_byte` meets its contract.
-- Assumes nothing.
use mathlib.Core.Path.{sym}
use Rattle.pl_indents.proofs.Laws.{refused_to, at_most, grown, refused}
use borrow.Author.Rules.{rules}
use native.Mathlib.Omega.{arith}
use Rattle.pl_indents.proofs.first_byte.Statement.{statement}
use Rattle.pl_indents.proofs.first_byte.Tie as tie

line-starts-requires : tie.Need-line_starts-requires
line-starts-requires c κs = search rules

enum-known-t : tie.Need-enum_known-t
enum-known-t c = search rules

enum_told : tie.Need-enum_told-1
enum_told c = search rules

returns : tie.Need-returns-in_default
returns c =
    refused_to (rw (refused c.line_starts.ensures c.in_default.is))

inside-line-requires : tie.Need-inside_line-requires
inside-line-requires c κs =
    let pre = c.requires in
    omega (arith, (grown c.line_starts.ensures c.in-To.is).2, pre.level)

returns-2 : tie.Need-returns
returns-2 c =
    let g = grown c.line_starts.ensures c.in-To.is in
    at_most c.inside_line.result c.inside_line.ensures (sym (rw g.0)) g.1 (omega (arith, g.2)) g.3

pub first_byte_spec : {M : Type 1} → statement M
first_byte_spec =
    tie.close
    (tie.spec
    line-starts-requires
    enum-known-t
    enum_told
    returns
    inside-line-requires
    returns-2)
