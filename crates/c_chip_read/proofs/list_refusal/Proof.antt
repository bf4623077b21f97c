-- `c_chip_read::list_refusal` meets its contract: the first of three numbers that is not 0.
-- Assumes nothing.
use mathlib.Core.Path.{◌≡◌, refl, sym, ap, ◌∙◌}
use native.Mathlib.Omega.{arith}
use borrow.Author.Tests.{not-true, not-false}
use Rattle.words.proofs.Bits.{number_word}
use Rattle.lang.specs.Checks.{unless, absent_refusal}
use Rattle.lang.proofs.Refusals.{first_refusal, later_refusal_lem, room_is, room_short}
use Rattle.c_chip_read.proofs.Laws.{stands_is}
use borrow.Author.Rules.{rules}
use Rattle.c_chip_read.proofs.list_refusal.Statement.{statement}
use Rattle.c_chip_read.proofs.list_refusal.Tie as tie

-- the boundary character as it was lent
edge : (c : tie.After-absent_refusal-edge) → c.absent_refusal-edge.result ≡ absent_refusal 255 c.args.boundary
edge c = c.absent_refusal-edge.ensures ∙ ap (absent_refusal 255) (number_word c.args.boundary c.ranges.boundary)

absent-refusal-requires : tie.Need-absent_refusal-edge-requires
absent-refusal-requires c κs = search rules

returns : tie.Need-returns-then-edge-ne0
returns c = first_refusal _ (edge c.before) c.if-edge-ne0.true

stands-requires : tie.Need-stands-requires
stands-requires c κs = search rules

returns-2 : tie.Need-returns-then-not-stands
returns-2 c =
    let s = c.args.list.now in
    later_refusal_lem (edge c.before.before.before) c.if-edge-ne0.false
    (first_refusal _ (ap (unless 7) (sym (c.if-not-stands.true) ∙ c.stands.ensures) ∙ stands_is s) (λ z. omega (arith, z)))

returns-3 : tie.Need-returns-then-bytes-lt16
returns-3 c =
    let s = c.args.list.now in
    later_refusal_lem (edge c.before.before.before.before) c.if-edge-ne0.false
    (later_refusal_lem (ap (unless 7) (sym (c.if-not-stands.false) ∙ c.stands.ensures) ∙ stands_is s) refl
    (sym (room_short 16 c.args.bytes c.if-bytes-lt16.true)))

returns-4 : tie.Need-returns-else-bytes-lt16
returns-4 c =
    let s = c.args.list.now in
    later_refusal_lem (edge c.before.before.before.before) c.if-edge-ne0.false
    (later_refusal_lem (ap (unless 7) (sym (c.if-not-stands.false) ∙ c.stands.ensures) ∙ stands_is s) refl
    (sym (room_is 16 c.args.bytes c.if-bytes-lt16.false)))

pub list_refusal_spec : {M : Type 1} → statement M
list_refusal_spec =
    tie.close
    (tie.spec
    absent-refusal-requires
    returns
    stands-requires
    returns-2
    returns-3
    returns-4)
