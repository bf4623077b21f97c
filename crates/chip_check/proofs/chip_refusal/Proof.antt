-- `chip_check::chip_refusal` meets its contract: the first test that fails, or none.
-- Assumes nothing.
use mathlib.Core.Path.{◌≡◌, sym, ◌∙◌}
use Prim.Native.Nat.{◌≤◌}
use native.Mathlib.Omega.{arith}
use lib.Dec.{leb}
use lib.ListN.{length, get_or}
use lib.Seq.{length-take-le}
use borrow.Author.Tests.{le-leb, lt-leb, not-true, not-false}
use Rattle.lang.specs.Every.{every}
use Rattle.chips.proofs.Turns.{every_taken}
use borrow.Author.Rules.{rules}
use Rattle.chip_check.proofs.chip_refusal.Statement.{statement}
use Rattle.chip_check.proofs.chip_refusal.Tie as tie

-- the chip has 64 letters, of which its word has no more
long : (c : tie.Else-length-gt64) → c.args.chip.length ≤ length c.args.chip.letters
long c =
    omega (arith, c.well_formed.0.1.1.1.1.0.1.0.1, c.if-length-gt64.false)

-- its word's letters were tested
tested : (c : tie.After-letters_stand) → let x = c.args.chip in
    every x.length (λ i. leb (get_or x.letters i 0) 255) ≡ c.letters_stand.result
tested c =
    let i = c.before.before.before in
    let x = c.args.chip in
    sym (every_taken (λ n. leb n 255) x.length x.letters (long (c.before.before.before))) ∙ sym c.letters_stand.ensures

returns : tie.Need-returns-then-length-gt64
returns c = rw (lt-leb c.args.chip.length 64 c.if-length-gt64.true)

array-share-prefix-letters : tie.Need-slice_bounds-letters-end
array-share-prefix-letters c = long c.before

slice-aggregate-letters-stand : tie.Need-slice_bounds-letters_stand-end
slice-aggregate-letters-stand c =
    let x = c.args.chip in
    sym (length-take-le x.length x.letters (long (c.before.before)))

letters-stand-requires : tie.Need-letters_stand-requires
letters-stand-requires c κs = search rules

returns-2 : tie.Need-returns-then-not-letters_stand
returns-2 c =
    rw (le-leb c.args.chip.length 64 c.if-length-gt64.false, tested (c.before) ∙ c.if-not-letters_stand.true)

item-stands-requires : tie.Need-item_stands-requires
item-stands-requires c κs = search rules

returns-3 : tie.Need-returns-then-not-item_stands
returns-3 c =
    rw (
      le-leb c.args.chip.length 64 c.if-length-gt64.false,
      tested (c.before.before.before) ∙ c.if-not-letters_stand.false,
      sym c.item_stands.ensures ∙ c.if-not-item_stands.true,
    )

returns-4 : tie.Need-returns-then-caller-gt7
returns-4 c =
    let x = c.args.chip in
    rw (
      le-leb x.length 64 c.if-length-gt64.false,
      tested (c.before.before.before.before) ∙ c.if-not-letters_stand.false,
      sym c.item_stands.ensures ∙ c.if-not-item_stands.false,
      lt-leb x.caller 7 c.if-caller-gt7.true,
    )

open-stands-requires : tie.Need-open_stands-requires
open-stands-requires c κs = search rules

returns-5 : tie.Need-returns-then-open_stands
returns-5 c =
    let x = c.args.chip in
    rw (
      le-leb x.length 64 c.if-length-gt64.false,
      tested (c.before.before.before.before.before.before) ∙ c.if-not-letters_stand.false,
      sym c.item_stands.ensures ∙ c.if-not-item_stands.false,
      le-leb x.caller 7 c.if-caller-gt7.false,
      sym c.open_stands.ensures ∙ c.if-open_stands.true,
    )

returns-6 : tie.Need-returns-else-open_stands
returns-6 c =
    let x = c.args.chip in
    rw (
      le-leb x.length 64 c.if-length-gt64.false,
      tested (c.before.before.before.before.before.before) ∙ c.if-not-letters_stand.false,
      sym c.item_stands.ensures ∙ c.if-not-item_stands.false,
      le-leb x.caller 7 c.if-caller-gt7.false,
      sym c.open_stands.ensures ∙ c.if-open_stands.false,
    )

pub chip_refusal_spec : {M : Type 1} → statement M
chip_refusal_spec =
    tie.close
    (tie.spec
    returns
    array-share-prefix-letters
    slice-aggregate-letters-stand
    letters-stand-requires
    returns-2
    item-stands-requires
    returns-3
    returns-4
    open-stands-requires
    returns-5
    returns-6)
