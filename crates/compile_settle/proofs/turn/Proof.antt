-- `compile_settle::turn` meets its contract: where the rule of the last row of the path is done by what is known, the row finishes; else it waits.
-- Assumes nothing.
use native.Mathlib.Omega.{arith}
use Rattle.compiling.proofs.Settling.{stored}
use Rattle.compiling.proofs.SettleLaws.{top_row, done_few, stuck, turned_finish}
use borrow.Author.Rules.{rules}
use Rattle.compile_settle.proofs.turn.Statement.{statement}
use Rattle.compile_settle.proofs.turn.Tie as tie

sub-get : tie.Need-overflow_sub-path
sub-get c = search rules

get-requires : tie.Need-get-k-requires
get-requires c κs = search rules

cast-k : tie.Need-overflow_cast-k
cast-k c = search rules

by-rule-requires : tie.Need-by_rule-requires
by-rule-requires c κs =
    (stored c.args.work.now c.requires.0, omega (arith, c.get-k.ensures, top_row c.args.work.now c.requires.0 c.requires.1))

enum-known-code : tie.Need-enum_known-code
enum-known-code c = search rules

finish-requires : tie.Need-finish-requires
finish-requires c κs =
    let few = c.requires.0.encoded.ascending.few in (
      omega (arith, few, c.get-k.ensures, top_row c.args.work.now c.requires.0 c.requires.1),
      omega (arith, few, done_few c.args.work.now c.requires.0 c.requires.1),
    )

sub-t21 : tie.Need-overflow_sub-result
sub-t21 c = search rules

add-t22 : tie.Need-overflow_add-result
add-t22 c =
    omega (arith, c.requires.0.encoded.ascending.few, done_few c.args.work.now c.requires.0 c.requires.1)

enum-known-j : tie.Need-enum_known-j
enum-known-j c = search rules

wait-requires : tie.Need-wait-requires
wait-requires c κs = (
  c.requires.0,
  stuck c.args.n c.args.p.done c.args.work.now c.get-k.result c.by_rule.result c.by_rule.ensures c.args.p.path c.in-Waits.j
      c.requires.1 c.requires.0 c.get-k.ensures c.in-Waits.is,
)

same_length : tie.Need-shape_of-work-in-Known
same_length c = search rules

returns : tie.Need-returns-in-Known
returns c =
    turned_finish c.args.n c.args.p.done c.args.work.now c.get-k.result c.by_rule.result c.by_rule.ensures c.args.p.path c.in-Known.code
    c.in-Known.flag c.finish.new.work
    c.requires.1 c.requires.0 c.get-k.ensures c.in-Known.is c.finish.ensures

same-length-2 : tie.Need-shape_of-work-in-Waits
same-length-2 c = search rules

returns-2 : tie.Need-returns-in-Waits
returns-2 c = search rules

pub turn_spec : {M : Type 1} → statement M
turn_spec =
    tie.close
    (tie.spec
    sub-get
    get-requires
    cast-k
    by-rule-requires
    enum-known-code
    finish-requires
    sub-t21
    add-t22
    enum-known-j
    wait-requires
    same_length
    returns
    same-length-2
    returns-2)
