-- `pack::packed_number` meets its contract: number j stands in front, among the old ones, or at the end.
-- Assumes nothing.
use native.Mathlib.Omega.{arith}
use mathlib.Core.Path.{◌∙◌}
use Prim.Native.Nat.{◌/◌, ◌%◌}
use Rattle.words.specs.Words.{number_of}
use Rattle.words.proofs.Bits.{number_is}
use Rattle.pack.proofs.Packing.{front_words, target_le, number_front, number_old, number_back}
use borrow.Author.Rules.{rules}
use Rattle.pack.proofs.packed_number.Statement.{statement}
use Rattle.pack.proofs.packed_number.Tie as tie

mul-if1 : tie.Need-overflow_mul-offset
mul-if1 c = search rules

front-target-requires : tie.Need-front_target-target-requires
front-target-requires c κs = search rules

present-or-zero-requires : tie.Need-present_or_zero-requires
present-or-zero-requires c κs = search rules

add-redirect-number : tie.Need-overflow_add-target
add-redirect-number c =
    let a = c.args in
    omega (arith, c.front_target-target.ensures, target_le a.redirects a.offset a.labels.now (a.j / 4) c.requires.1.1.0)

redirect-number-requires : tie.Need-redirect_number-requires
redirect-number-requires c κs = search rules

returns : tie.Need-returns-then-j-offset
returns c =
    let a = c.args in
    c.redirect_number.ensures
    ∙ front_words a.boundary a.redirects a.offset a.labels.now (a.j / 4) (a.j % 4) c.present_or_zero.result c.front_target-target.result c.present_or_zero.ensures c.front_target-target.ensures
    (rw c.front_target-target.ensures (target_le a.redirects a.offset a.labels.now (a.j / 4) c.requires.1.1.0))
    ∙ number_front (number_of a.boundary) a.redirects a.offset a.labels.now a.instructions.now (number_of a.left) c.requires.0
    c.requires.1.0 a.j c.if-j-offset.true

mul-old : tie.Need-overflow_mul-old
mul-old c = search rules

sub-old : tie.Need-overflow_sub-old
sub-old c = search rules

word-at-requires : tie.Need-word_at-requires
word-at-requires c κs = search rules

returns-2 : tie.Need-returns-then-old-instructions
returns-2 c =
    let a = c.args in
    number_is c.word_at.ensures
    ∙ number_old (number_of a.boundary) a.redirects a.offset a.labels.now a.instructions.now (number_of a.left) c.requires.0 c.requires.1.0
    a.j c.if-j-offset.false c.if-old-instructions.true

sub-back-number : tie.Need-overflow_sub-old-2
sub-back-number c = search rules

back-number-requires : tie.Need-back_number-requires
back-number-requires c κs = search rules

returns-3 : tie.Need-returns
returns-3 c =
    let a = c.args in
    c.back_number.ensures
    ∙ number_back (number_of a.boundary) a.redirects a.offset a.labels.now a.instructions.now (number_of a.left) c.requires.0
    c.requires.1.0 a.j c.if-j-offset.false c.if-old-instructions.false

pub packed_number_spec : {M : Type 1} → statement M
packed_number_spec =
    tie.close
    (tie.spec
    mul-if1
    front-target-requires
    present-or-zero-requires
    add-redirect-number
    redirect-number-requires
    returns
    mul-old
    sub-old
    word-at-requires
    returns-2
    sub-back-number
    back-number-requires
    returns-3)
