-- `pl_values::bytes::face_value` meets its contract.
-- Assumes nothing.
use mathlib.Core.Path.{◌≡◌, ◌∙◌}
use Prim.Native.Nat.{◌+◌}
use lib.ListN.{get_or}
use Rattle.property_lists.specs.Values.{face_of}
use Rattle.pl_values.proofs.Scanning.{scanned_at, scanned_none}
use Rattle.pl_values.proofs.ByteLaws.{face_short, face_there, face_other}
use borrow.Author.Rules.{rules}
use native.Mathlib.Omega.{arith}
use Rattle.pl_values.proofs.bytes.face_value.Statement.{statement}
use Rattle.pl_values.proofs.bytes.face_value.Tie as tie

sub-if1 : tie.Need-overflow_sub-text
sub-if1 c = search rules

returns : tie.Need-returns-then-text-at-lt3
returns c =
    let args = c.args in
    scanned_none _ (face_short args.text.now args.at c.if-text-at-lt3.true)

shared-slice-read-upper-case : tie.Need-bounds-text-at
shared-slice-read-upper-case c = search rules

upper-case-requires : tie.Need-upper_case-requires
upper-case-requires c κs = search rules

weight-of-requires : tie.Need-weight_of-weight-requires
weight-of-requires c κs = search rules

add-upper-case : tie.Need-overflow_add-at
add-upper-case c = search rules

shared-slice-read-upper-case-2 : tie.Need-bounds-text-at-2
shared-slice-read-upper-case-2 c = search rules

upper-case-requires-2 : tie.Need-upper_case-requires-2
upper-case-requires-2 c κs = search rules

slope-of-requires : tie.Need-slope_of-slope-requires
slope-of-requires c κs = search rules

add-upper-case-2 : tie.Need-overflow_add-at-2
add-upper-case-2 c = search rules

shared-slice-read-upper-case-3 : tie.Need-bounds-text-at-3
shared-slice-read-upper-case-3 c = search rules

upper-case-requires-3 : tie.Need-upper_case-requires-3
upper-case-requires-3 c κs = search rules

expansion-of-requires : tie.Need-expansion_of-expansion-requires
expansion-of-requires c κs = search rules

add-if2 : tie.Need-overflow_add-weight
add-if2 c = search rules

add-if2-2 : tie.Need-overflow_add-weight-2
add-if2-2 c = search rules

add-t16 : tie.Need-overflow_add-result
add-t16 c = search rules

add-t17 : tie.Need-overflow_add-result-then-weight-slope-lt18
add-t17 c = search rules

add-t18 : tie.Need-overflow_add-result-then-weight-slope-lt18-2
add-t18 c = search rules

returns-2 : tie.Need-returns-then-weight-slope-lt18
returns-2 c =
    let args = c.args in
    let pre = c.requires in
    let f : face_of (get_or args.text.now args.at 0) (get_or args.text.now (args.at + 1) 0) (get_or args.text.now (args.at + 2) 0) ≡ c.weight_of-weight.result + c.slope_of-slope.result + c.expansion_of-expansion.result =
    rw (c.weight_of-weight.ensures.0, c.slope_of-slope.ensures.0, c.expansion_of-expansion.ensures.0, c.upper_case.ensures, c.upper_case-2.ensures, c.upper_case-3.ensures) in
    scanned_at _ (face_there args.text.now args.at (omega (arith, pre, c.if-text-at-lt3.false)) (omega (arith, f, c.if-weight-slope-lt18.true)) ∙ rw f) (λ _. omega arith)
    (omega (arith, pre, c.if-text-at-lt3.false))

returns-3 : tie.Need-returns
returns-3 c =
    let args = c.args in
    let pre = c.requires in
    let f : face_of (get_or args.text.now args.at 0) (get_or args.text.now (args.at + 1) 0) (get_or args.text.now (args.at + 2) 0) ≡ c.weight_of-weight.result + c.slope_of-slope.result + c.expansion_of-expansion.result =
    rw (c.weight_of-weight.ensures.0, c.slope_of-slope.ensures.0, c.expansion_of-expansion.ensures.0, c.upper_case.ensures, c.upper_case-2.ensures, c.upper_case-3.ensures) in
    scanned_none _ (face_other args.text.now args.at (omega (arith, pre, c.if-text-at-lt3.false)) (omega (arith, f, c.if-weight-slope-lt18.false)))

pub face_value_spec : {M : Type 1} → statement M
face_value_spec =
    tie.close
    (tie.spec
    sub-if1
    returns
    shared-slice-read-upper-case
    upper-case-requires
    weight-of-requires
    add-upper-case
    shared-slice-read-upper-case-2
    upper-case-requires-2
    slope-of-requires
    add-upper-case-2
    shared-slice-read-upper-case-3
    upper-case-requires-3
    expansion-of-requires
    add-if2
    add-if2-2
    add-t16
    add-t17
    add-t18
    returns-2
    returns-3)
