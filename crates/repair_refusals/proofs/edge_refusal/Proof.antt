-- `repair_refusals::edge_refusal` meets its contract: the first refusal that is not 0.
-- Assumes nothing.
use mathlib.Core.Path.{◌≡◌, sym, ap, ◌∙◌}
use Prim.Native.Nat.{ℕ, ◌≤◌, ◌<◌}
use lib.Dec.{leb}
use borrow.Author.Tests.{le-leb, lt-leb}
use Rattle.words.specs.Words.{word_of}
use Rattle.words.proofs.Bits.{number_word}
use Rattle.lang.specs.Checks.{absent_refusal, unless}
use Rattle.lang.proofs.Refusals.{first_refusal, later_refusal_lem}
use borrow.Author.Rules.{rules}
use Rattle.repair_refusals.proofs.edge_refusal.Statement.{statement}
use Rattle.repair_refusals.proofs.edge_refusal.Tie as tie

-- the boundary character and the left entry as they were lent
at_boundary : (c : tie.After-absent_refusal-at_boundary) → c.absent_refusal-at_boundary.result ≡ absent_refusal 255 c.args.boundary
at_boundary c = c.absent_refusal-at_boundary.ensures ∙ ap (absent_refusal 255) (number_word c.args.boundary c.ranges.boundary)

at_left : (c : tie.After-absent_refusal-at_left) → c.absent_refusal-at_left.result ≡ absent_refusal 65535 c.args.left_entry
at_left c =
    c.absent_refusal-at_left.ensures ∙ ap (absent_refusal 65535) (number_word c.args.left_entry c.ranges.left_entry)

lent : (c : tie.After-word_of) → c.word_of.result ≡ word_of c.args.replacement
lent c =
    c.word_of.ensures ∙ ap word_of (number_word c.args.replacement c.ranges.replacement)

small : (w r : ℕ) → r ≡ w → r ≤ 255 → 0 ≡ unless 4 (leb w 255)
small w r e h = sym (ap (unless 4) (ap (λ (n : ℕ). leb n 255) (sym e) ∙ le-leb r 255 h))

large : (w r : ℕ) → r ≡ w → 255 < r → 4 ≡ unless 4 (leb w 255)
large w r e h = sym (ap (unless 4) (ap (λ (n : ℕ). leb n 255) (sym e) ∙ lt-leb r 255 h))

absent-refusal-requires : tie.Need-absent_refusal-at_boundary-requires
absent-refusal-requires c κs = search rules

returns : tie.Need-returns-then-at_boundary-ne0
returns c = first_refusal _ (at_boundary c.before) c.if-at_boundary-ne0.true

absent-refusal-requires-2 : tie.Need-absent_refusal-at_left-requires
absent-refusal-requires-2 c κs = search rules

returns-2 : tie.Need-returns-then-at_left-ne0
returns-2 c =
    later_refusal_lem (at_boundary c.before.before.before) c.if-at_boundary-ne0.false (first_refusal _ (at_left c.before) c.if-at_left-ne0.true)

word-of-requires : tie.Need-word_of-requires
word-of-requires c κs = search rules

returns-3 : tie.Need-returns-then-word_of-le255
returns-3 c =
    later_refusal_lem (at_boundary c.before.before.before.before.before) c.if-at_boundary-ne0.false (later_refusal_lem (at_left c.before.before.before) c.if-at_left-ne0.false (small _ _ (lent c.before) c.if-word_of-le255.true))

returns-4 : tie.Need-returns-else-word_of-le255
returns-4 c =
    later_refusal_lem (at_boundary c.before.before.before.before.before) c.if-at_boundary-ne0.false (later_refusal_lem (at_left c.before.before.before) c.if-at_left-ne0.false (large _ _ (lent c.before) c.if-word_of-le255.false))

pub edge_refusal_spec : {M : Type 1} → statement M
edge_refusal_spec =
    tie.close
    (tie.spec
    absent-refusal-requires
    returns
    absent-refusal-requires-2
    returns-2
    word-of-requires
    returns-3
    returns-4)
