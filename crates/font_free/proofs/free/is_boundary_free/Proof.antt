-- `font_free::free::is_boundary_free` meets its contract: by whether there is a letter to read.
-- Assumes nothing.
use borrow.Author.Tests.{lt-ltb, le-ltb}
use lib.ListN.{length}
use borrow.Author.Rules.{rules}
use Rattle.font_free.proofs.free.is_boundary_free.Statement.{statement}
use Rattle.font_free.proofs.free.is_boundary_free.Tie as tie

mul-is-pairless : tie.Need-offset_bounds-word-read
mul-is-pairless c = search rules

shared-slice-read-is-pairless : tie.Need-bounds-word-read
shared-slice-read-is-pairless c = search rules

is-pairless-requires : tie.Need-is_pairless-requires
is-pairless-requires c κs = search rules

returns : tie.Need-returns-then-read-word
returns c =
    let a = c.args in
    rw (lt-ltb a.read (length a.word.now) c.if-read-word.true) c.is_pairless.ensures

returns-2 : tie.Need-returns
returns-2 c =
    let a = c.args in
    rw (le-ltb a.read (length a.word.now) c.if-read-word.false)

pub is_boundary_free_spec : {M : Type 1} → statement M
is_boundary_free_spec =
    tie.close
    (tie.spec
    mul-is-pairless
    shared-slice-read-is-pairless
    is-pairless-requires
    returns
    returns-2)
