-- `text_line_numbers::read_numbers` meets its contract. Assumes nothing.
use mathlib.Core.Path.{sym, ◌∙◌}
use Prim.Native.Nat.{◌-◌}
use native.Mathlib.Omega.{arith}
use lib.ListN.{length, drop}
use Rattle.text_line_numbers.specs.LineNumbers.{numbers_at, leading_at}
use Rattle.text_line_numbers.proofs.Storing.{ends_inside, at_past, at_room, in_unended, in_is, leading_past, leading_unended_at}
use Rattle.text_line_numbers.proofs.Storing.{leading_is_at, stores_nothing}
use borrow.Author.Rules.{rules}
use Rattle.text_line_numbers.proofs.read_numbers.Statement.{statement}
use Rattle.text_line_numbers.proofs.read_numbers.Tie as tie

returns : tie.Need-returns-then-list-place
returns c =
    let a = c.args in
    let bs = drop a.at a.text.now in
    let long = length a.list.now in
    stores_nothing (numbers_at long a.place a.n bs) (leading_at long a.place a.n bs) a.list.now a.place
    (at_past long a.place a.n bs (omega (arith, c.if-list-place.true))) (leading_past long a.place a.n bs (omega (arith, c.if-list-place.true)))

sub-if2 : tie.Need-overflow_sub-list
sub-if2 c = search rules

returns-2 : tie.Need-returns-then-list-place-2
returns-2 c =
    let a = c.args in
    let bs = drop a.at a.text.now in
    let long = length a.list.now in
    stores_nothing (numbers_at long a.place a.n bs) (leading_at long a.place a.n bs) a.list.now a.place
    (at_past long a.place a.n bs (omega (arith, c.if-list-place.false, c.if-list-place-2.true)))
    (leading_past long a.place a.n bs (omega (arith, c.if-list-place.false, c.if-list-place-2.true)))

line-ends-requires : tie.Need-line_ends-requires
line-ends-requires c κs = search rules

returns-3 : tie.Need-returns-then-not-line_ends
returns-3 c =
    let a = c.args in
    let bs = drop a.at a.text.now in
    let long = length a.list.now in
    let u = sym c.line_ends.ensures ∙ c.if-not-line_ends.true in
    stores_nothing (numbers_at long a.place a.n bs) (leading_at long a.place a.n bs) a.list.now a.place
    (at_room long a.place a.n bs c.if-list-place.false ∙ in_unended (long - a.place) a.n bs u) (leading_unended_at long a.place a.n bs u)

read-fields-requires : tie.Need-read_fields-requires
read-fields-requires c κs =
    let a = c.args in (
      omega (arith, ends_inside a.text.now a.at a.n (sym c.line_ends.ensures ∙ c.if-not-line_ends.false)),
      omega (arith, c.if-list-place.false, c.if-list-place-2.false),
    )

same_length : tie.Need-shape_of-list
same_length c = search rules

returns-4 : tie.Need-returns
returns-4 c =
    let a = c.args in
    let bs = drop a.at a.text.now in
    let long = length a.list.now in
    let u = sym c.line_ends.ensures ∙ c.if-not-line_ends.false in
    rw (
      at_room long a.place a.n bs c.if-list-place.false,
      in_is (long - a.place) a.n bs c.if-list-place-2.false u,
      leading_is_at long a.place a.n bs (omega (arith, c.if-list-place.false, c.if-list-place-2.false)) u,
    )
    c.read_fields.ensures

pub read_numbers_spec : {M : Type 1} → statement M
read_numbers_spec =
    tie.close
    (tie.spec
    returns
    sub-if2
    returns-2
    line-ends-requires
    returns-3
    read-fields-requires
    same_length
    returns-4)
