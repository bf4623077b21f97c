-- `text_scan::whole::read_lines` meets its contract. The loop's invariant: the lines passed are read, and nothing is in the word's list. The measure is what is
-- left of the text. Assumes nothing.
use mathlib.Core.Path.{◌≡◌, refl}
use Prim.Native.Nat.{◌-◌}
use lib.ListN.{length}
use Rattle.std.specs.Prelude as rust
use Rattle.text_scan.specs.Standing.{zeros, Scanning, Before}
use Rattle.text_scan.proofs.Ending.{reads_none, ends_plain, ends_word_lem}
use native.Mathlib.Omega.{arith}
use borrow.Author.Rules.{rules}
use Rattle.text_scan.proofs.whole.read_lines.Statement.{statement}
use Rattle.text_scan.proofs.whole.read_lines.Tie as tie

abbrev invariant-loop : tie.invariant-loop-p
invariant-loop text instructions₀ kerns₀ entries₀ word₀ p₀ instructions kerns entries word p = (word ≡ zeros 0 64) × Scanning text p instructions kerns entries

abbrev decreases-loop : tie.decreases-loop-p
decreases-loop text instructions₀ kerns₀ entries₀ word₀ p₀ instructions kerns entries word p = length text - p.at

loop-holds : tie.Need-loop-p-init invariant-loop decreases-loop
loop-holds c = (c.requires.0.1, c.requires.1)

shared-slice-read-if2 : tie.Need-bounds-text-at invariant-loop decreases-loop
shared-slice-read-if2 c = c.loop-p-test.true

-- a line is there
stands : (n : tie.In-loop-p invariant-loop decreases-loop) → Before n.args.text.now n.loop-p.p
stands n = record { inside = n.loop-p-test.true; short = n.requires.0.0 }

word-line-requires : tie.Need-word_line-requires invariant-loop decreases-loop
word-line-requires c κs = stands c.before.before.before

returns : tie.Need-returns-then-text-at-eq87 invariant-loop decreases-loop
returns c =
    ends_word_lem c.args.text.now c.loop-p.p c.loop-p.instructions c.loop-p.kerns c.loop-p.entries c.loop-p.invariant.1 (stands (c.before.before.before.before))
    c.if-text-at-eq87.true c.word_line.result c.loop-p.word c.word_line.new.word c.loop-p.invariant.0 c.word_line.ensures

next-line-requires : tie.Need-next_line-requires invariant-loop decreases-loop
next-line-requires c κs =
    ((stands (c.before.before.before.before.before), c.if-text-at-eq87.false), c.loop-p.invariant.1)

enum-known-q : tie.Need-enum_known-q invariant-loop decreases-loop
enum-known-q c = search rules

enum_told : tie.Need-enum_told-1 invariant-loop decreases-loop
enum_told c = search rules

returns-2 : tie.Need-returns-in_default invariant-loop decreases-loop
returns-2 c =
    reads_none c.args.text.now c.next_line.new.instructions c.next_line.new.kerns c.next_line.new.entries c.loop-p.word rust.None
    (c.next_line.ensures.stuck c.in_default.is) refl

loop-less : tie.Need-loop-p-smaller invariant-loop decreases-loop
loop-less c =
    omega (arith, c.loop-p-test.true, (c.next_line.ensures.on c.in-At.q c.in-At.is).0)

loop-again : tie.Need-loop-p-preserved invariant-loop decreases-loop
loop-again c =
    (c.loop-p.invariant.0, (c.next_line.ensures.on c.in-At.q c.in-At.is).1)

heads-of-requires : tie.Need-heads_of-requires invariant-loop decreases-loop
heads-of-requires c κs = tt

returns-3 : tie.Need-returns invariant-loop decreases-loop
returns-3 c =
    ends_plain c.args.text.now c.loop-p.p c.loop-p.instructions c.loop-p.kerns c.loop-p.entries c.loop-p.invariant.1
    c.heads_of.result c.loop-p.word c.loop-p-test.false c.heads_of.ensures c.loop-p.invariant.0

pub read_lines_spec : {M : Type 1} → statement M
read_lines_spec =
    tie.close
    (tie.spec
    invariant-loop
    decreases-loop
    loop-holds
    shared-slice-read-if2
    word-line-requires
    returns
    next-line-requires
    enum-known-q
    enum_told
    returns-2
    loop-less
    loop-again
    heads-of-requires
    returns-3)
