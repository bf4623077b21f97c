-- `file_checks::is_in_file` meets its contract: its tests are those of the definition.
-- Assumes nothing.
use mathlib.Core.Path.{◌≡◌, ap, ◌∙◌}
use mathlib.Core.Bool.{Bool, not}
use mathlib.Core.List.{List}
use Prim.Native.Nat.{ℕ, ◌+◌, ◌-◌, ◌*◌}
use lib.Dec.{leb, eqb}
use lib.ListN.{get_or}
use borrow.Author.Tests.{le-leb, lt-leb}
use Rattle.lang.specs.Every.{both}
use Rattle.files.specs.declared.FileLengths.{FileLengths}
use Rattle.files.specs.Lengths.{char_start}
use Rattle.files.specs.Commands.{word_byte}
use native.Mathlib.Omega.{arith}
use borrow.Author.Rules.{rules}
use Rattle.file_checks.proofs.is_in_file.Statement.{statement}
use Rattle.file_checks.proofs.is_in_file.Tie as tie

-- the test by any lengths
abbrev inFile : List ℕ → ℕ → FileLengths → Bool
inFile old c l = both (leb l.bc c) (both (leb c l.ec) (not (eqb (word_byte old (char_start l + (c - l.bc)) 0) 0)))

returns : tie.Need-returns-then-c-lengths
returns c =
    let l = c.args.lengths in
    rw (lt-leb l.bc c.args.c c.if-c-lengths.true) at (ap (inFile c.args.old.now c.args.c) c.requires)

returns-2 : tie.Need-returns-then-lengths-c
returns-2 c =
    let l = c.args.lengths in
    rw (le-leb l.bc c.args.c c.if-c-lengths.false, lt-leb c.args.c l.ec c.if-lengths-c.true) at (ap (inFile c.args.old.now c.args.c) c.requires)

char-start-requires : tie.Need-char_start-requires
char-start-requires c κs = search rules

cast-w : tie.Need-overflow_cast-w
cast-w c = search rules

add-w : tie.Need-overflow_add-w
add-w c = search rules

mul-u8-at : tie.Need-overflow_mul-w
mul-u8-at c = search rules

item-at-requires : tie.Need-item_at-requires
item-at-requires c κs = search rules

returns-3 : tie.Need-returns
returns-3 c =
    let a = c.args in
    let l = a.lengths in
    let p : 4 * (c.char_start.result + (a.c - l.bc)) ≡ 4 * (char_start l + (a.c - l.bc)) + 0 = omega (arith, c.char_start.ensures) in
    ap (λ (b : ℕ). not (eqb b 0)) (c.item_at.ensures ∙ ap (λ (k : ℕ). get_or a.old.now k 0) p)
    ∙ rw (le-leb l.bc a.c c.if-c-lengths.false, le-leb a.c l.ec c.if-lengths-c.false) at (ap (inFile a.old.now a.c) c.requires)

pub is_in_file_spec : {M : Type 1} → statement M
is_in_file_spec =
    tie.close
    (tie.spec
    returns
    returns-2
    char-start-requires
    cast-w
    add-w
    mul-u8-at
    item-at-requires
    returns-3)
