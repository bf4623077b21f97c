-- `repair_passes::repaired_left` meets its contract: a negative number has the top bit.
-- Assumes nothing.
use mathlib.Core.Path.{◌≡◌, sym, ap, ◌∙◌}
use Prim.Native.Nat.{ℕ, ◌<◌, ◌≤◌, ◌^◌}
use native.Mathlib.Omega.{arith}
use lib.IntN.{ℤ, negsuc}
use lib.Dec.{leb}
use lib.Signed.{non_neg}
use borrow.Author.Tests.{le-leb, lt-leb}
use mathlib.Core.Bool.{true, cond}
use Rattle.words.specs.Words.{word_of, Word}
use Rattle.words.proofs.Bits.{number_word, read_pos, read_neg}
use Rattle.lang.specs.Every.{both}
use Rattle.lang.proofs.Every.{both_false}
use borrow.Author.Rules.{rules}
use Rattle.repair_passes.proofs.repaired_left.Statement.{statement}
use Rattle.repair_passes.proofs.repaired_left.Tie as tie

absent : (n : ℕ) (z : ℤ) (w : ℕ) → Word z w → 2 ^ 31 ≤ w → z ≡ cond (both (non_neg z) (leb n (word_of z))) (negsuc 0) z
absent n z w r h = rw (read_neg r h)

gone : (n : ℕ) (z : ℤ) (w : ℕ) → Word z w → w < 2 ^ 31 → n ≤ w → negsuc 0 ≡ cond (both (non_neg z) (leb n (word_of z))) (negsuc 0) z
gone n z w r h l =
    let p : non_neg z ≡ true = ap non_neg (read_pos r h) in
    rw (p, sym r.is, le-leb n w l)

kept : (n : ℕ) (z : ℤ) (w : ℕ) → Word z w → w < n → z ≡ cond (both (non_neg z) (leb n (word_of z))) (negsuc 0) z
kept n z w r l = rw (sym r.is, lt-leb n w l, both_false (non_neg z))

-- the left entry as it was lent
lent : (c : tie.After-word_of-entry) → Word c.args.left_entry c.word_of-entry.result
lent c =
    record { is = c.word_of-entry.ensures ∙ ap word_of (number_word c.args.left_entry c.ranges.left_entry); fits = c.ranges.left_entry }

word-of-requires : tie.Need-word_of-entry-requires
word-of-requires c κs = search rules

returns : tie.Need-returns-then-entry-ge2147483648
returns c =
    number_word c.args.left_entry c.ranges.left_entry
    ∙ absent c.args.n c.args.left_entry c.word_of-entry.result (lent c.before) c.if-entry-ge2147483648.true

cast-if2 : tie.Need-overflow_cast-entry
cast-if2 c = search rules

returns-2 : tie.Need-returns-then-n-entry
returns-2 c =
    gone c.args.n c.args.left_entry c.word_of-entry.result (lent (c.before.before)) (omega (arith, c.if-entry-ge2147483648.false)) c.if-n-entry.true

returns-3 : tie.Need-returns-else-n-entry
returns-3 c =
    number_word c.args.left_entry c.ranges.left_entry ∙ kept c.args.n c.args.left_entry c.word_of-entry.result (lent (c.before.before)) c.if-n-entry.false

pub repaired_left_spec : {M : Type 1} → statement M
repaired_left_spec =
    tie.close
    (tie.spec
    word-of-requires
    returns
    cast-if2
    returns-2
    returns-3)
