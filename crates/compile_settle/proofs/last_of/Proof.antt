-- `compile_settle::last_of` meets its contract: a pair without a row has its right as its last; a row that has finished has its last stored.
-- Assumes nothing.
use mathlib.Core.Path.{◌≡◌, sym, ap, ◌∙◌}
use mathlib.Core.Option.{some}
use Prim.Native.Nat.{◌<◌}
use native.Mathlib.Omega.{arith}
use Rattle.compiling.specs.Rows.{row_of, found_row}
use Rattle.compiling.proofs.RowSearch.{search_row_lem, found_is, missing_is}
use Rattle.compiling.proofs.Known.{says_missing, says_done, says_open, found_less}
use borrow.Author.Rules.{rules}
use Rattle.compile_settle.proofs.last_of.Statement.{statement}
use Rattle.compile_settle.proofs.last_of.Tie as tie

-- the row that was found
found-row : (c : tie.In-Some) →
    row_of c.args.work.now c.args.n c.args.left c.args.right ≡ some c.in-Some.j
found-row c =
    found_is (row_of c.args.work.now c.args.n c.args.left c.args.right) c.find.result c.in-Some.j
    (c.find.ensures ∙ ap found_row (search_row_lem c.args.n c.args.work.now c.requires.0.encoded.ascending c.args.left c.args.right c.requires.2)) c.in-Some.is

row_few : (c : tie.In-Some) → c.in-Some.j < 65792
row_few c =
    omega (
      arith,
      c.requires.0.encoded.ascending.few,
      found_less c.args.n c.args.work.now c.requires.0.encoded.ascending c.args.left c.args.right c.in-Some.j
          (found-row c),
    )

find-requires : tie.Need-find-requires
find-requires c κs = search rules

enum-known-j : tie.Need-enum_known-j
enum-known-j c = search rules

enum_told : tie.Need-enum_told-1
enum_told c = search rules

returns : tie.Need-returns-in_default
returns c =
    says_missing c.args.n c.args.work.now c.requires.0.encoded.ascending c.args.left c.args.right c.requires.2
    (missing_is (row_of c.args.work.now c.args.n c.args.left c.args.right) c.find.result
    (c.find.ensures ∙ ap found_row (search_row_lem c.args.n c.args.work.now c.requires.0.encoded.ascending c.args.left c.args.right c.requires.2)) c.in_default.is)

get-requires : tie.Need-get-requires
get-requires c κs = search rules

get-requires-2 : tie.Need-get-code-requires
get-requires-2 c κs = search rules

get-requires-3 : tie.Need-get-flag-requires
get-requires-3 c κs = search rules

returns-2 : tie.Need-returns-then-get-eq2
returns-2 c =
    rw (c.get-code.ensures, c.get-flag.ensures)
    (says_done c.args.n c.args.work.now c.requires.0.encoded.ascending c.args.left c.args.right c.in-Some.j (found-row (c.before.before.before.before))
    c.requires.0
    (sym c.get.ensures ∙ c.if-get-eq2.true))

returns-3 : tie.Need-returns-else-get-eq2
returns-3 c =
    says_open c.args.n c.args.work.now c.requires.0.encoded.ascending c.args.left c.args.right c.in-Some.j (found-row (c.before.before))
    (λ e. c.if-get-eq2.false (c.get.ensures ∙ e))

pub last_of_spec : {M : Type 1} → statement M
last_of_spec =
    tie.close
    (tie.spec
    find-requires
    enum-known-j
    enum_told
    returns
    get-requires
    get-requires-2
    get-requires-3
    returns-2
    returns-3)
