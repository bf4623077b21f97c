-- `font_free::passing::passed` meets its contract: an op is to be given, or by what is next.
-- Assumes nothing.
use mathlib.Core.Path.{◌≡◌, sym, ap, ◌∙◌}
use borrow.Author.Tests.{eq-eqb, ne_eqb}
use Rattle.font_runs.specs.Passing.{passed_left}
use borrow.Author.Rules.{rules}
use Rattle.font_free.proofs.passing.passed.Statement.{statement}
use Rattle.font_free.proofs.passing.passed.Tie as tie

returns : tie.Need-returns-then-s-ne0
returns c = let a = c.args in rw (ne_eqb a.s.ops 0 c.if-s-ne0.true)

enum_told : tie.Need-enum_told-1
enum_told c = search rules

past-boundary-requires : tie.Need-past_boundary-requires
past-boundary-requires c κs = search rules

enum-told-2 : tie.Need-enum_told-in-Char
enum-told-2 c = search rules

enum-told-3 : tie.Need-enum_told-in-Lig
enum-told-3 c = search rules

enum-told-4 : tie.Need-enum_told-in-FinalLig
enum-told-4 c = search rules

enum-told-5 : tie.Need-enum_told-in-None
enum-told-5 c = search rules

returns-2 : tie.Need-returns-in-Boundary
returns-2 c =
    let a = c.args in
    rw (eq-eqb a.s.ops 0 c.if-s-ne0.false)
    (c.past_boundary.ensures ∙ ap (passed_left a.pairs.now a.ops.now a.word.now a.s) (sym c.in-Boundary.is))

returns-3 : tie.Need-returns-in-Char
returns-3 c =
    let a = c.args in
    rw (eq-eqb a.s.ops 0 c.if-s-ne0.false) (ap (passed_left a.pairs.now a.ops.now a.word.now a.s) (sym c.in-Char.is))

returns-4 : tie.Need-returns-in-Lig
returns-4 c =
    let a = c.args in
    rw (eq-eqb a.s.ops 0 c.if-s-ne0.false) (ap (passed_left a.pairs.now a.ops.now a.word.now a.s) (sym c.in-Lig.is))

returns-5 : tie.Need-returns-in-FinalLig
returns-5 c =
    let a = c.args in
    rw (eq-eqb a.s.ops 0 c.if-s-ne0.false) (ap (passed_left a.pairs.now a.ops.now a.word.now a.s) (sym c.in-FinalLig.is))

returns-6 : tie.Need-returns-in-None
returns-6 c =
    let a = c.args in
    rw (eq-eqb a.s.ops 0 c.if-s-ne0.false) (ap (passed_left a.pairs.now a.ops.now a.word.now a.s) (sym c.in-None.is))

pub passed_spec : {M : Type 1} → statement M
passed_spec =
    tie.close
    (tie.spec
    returns
    enum_told
    past-boundary-requires
    enum-told-2
    enum-told-3
    enum-told-4
    enum-told-5
    returns-2
    returns-3
    returns-4
    returns-5
    returns-6)
