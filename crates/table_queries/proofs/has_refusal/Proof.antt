-- `table_queries::has_refusal` meets its contract: the first of four numbers that is not 0.
-- Assumes nothing.
use mathlib.Core.Path.{◌≡◌, refl, sym, ap, ◌∙◌}
use Prim.Native.Nat.{◌%◌}
use lib.Dec.{eqb}
use lib.ListN.{length}
use borrow.Author.Tests.{eq-eqb, ne_eqb}
use Rattle.lang.specs.Checks.{unless, absent_refusal}
use Rattle.lang.proofs.Refusals.{first_refusal, later_refusal_lem}
use Rattle.captions.specs.Queries.{has_refusal}
use Rattle.captions.proofs.Passed.{absent_passed}
use borrow.Author.Rules.{rules}
use Rattle.table_queries.proofs.has_refusal.Statement.{statement}
use Rattle.table_queries.proofs.has_refusal.Tie as tie

edge : (c : tie.After-absent_refusal-edge) → c.absent_refusal-edge.result ≡ absent_refusal 255 c.args.boundary
edge c = absent_passed c.ranges.boundary c.absent_refusal-edge.ensures

first : (c : tie.After-absent_refusal-first) → c.absent_refusal-first.result ≡ absent_refusal 255 c.args.left
first c = absent_passed c.ranges.left c.absent_refusal-first.ensures

second : (c : tie.After-absent_refusal-second) → c.absent_refusal-second.result ≡ absent_refusal 255 c.args.right
second c = absent_passed c.ranges.right c.absent_refusal-second.ensures

-- all three numbers are in range
passed : (c : tie.Else-second-ne0) → unless 7 (eqb (length c.args.pairs.now % 6) 0) ≡ has_refusal c.args.pairs.now c.args.boundary c.args.left c.args.right
passed c =
    later_refusal_lem (edge c.before.before.before.before.before) c.if-edge-ne0.false (later_refusal_lem (first c.before.before.before) c.if-first-ne0.false (later_refusal_lem (second c.before) c.if-second-ne0.false refl))

absent-refusal-requires : tie.Need-absent_refusal-edge-requires
absent-refusal-requires c κs = search rules

returns : tie.Need-returns-then-edge-ne0
returns c = first_refusal _ (edge c.before) c.if-edge-ne0.true

absent-refusal-requires-2 : tie.Need-absent_refusal-first-requires
absent-refusal-requires-2 c κs = search rules

returns-2 : tie.Need-returns-then-first-ne0
returns-2 c =
    later_refusal_lem (edge c.before.before.before) c.if-edge-ne0.false (first_refusal _ (first c.before) c.if-first-ne0.true)

absent-refusal-requires-3 : tie.Need-absent_refusal-second-requires
absent-refusal-requires-3 c κs = search rules

returns-3 : tie.Need-returns-then-second-ne0
returns-3 c =
    later_refusal_lem (edge c.before.before.before.before.before) c.if-edge-ne0.false (later_refusal_lem (first c.before.before.before) c.if-first-ne0.false (first_refusal _ (second c.before) c.if-second-ne0.true))

returns-4 : tie.Need-returns-then-pairs-eq0
returns-4 c =
    ap (unless 7) (sym (eq-eqb (length c.args.pairs.now % 6) 0 c.if-pairs-eq0.true))
    ∙ passed c.before

returns-5 : tie.Need-returns-else-pairs-eq0
returns-5 c =
    ap (unless 7) (sym (ne_eqb (length c.args.pairs.now % 6) 0 c.if-pairs-eq0.false))
    ∙ passed c.before

pub has_refusal_spec : {M : Type 1} → statement M
has_refusal_spec =
    tie.close
    (tie.spec
    absent-refusal-requires
    returns
    absent-refusal-requires-2
    returns-2
    absent-refusal-requires-3
    returns-3
    returns-4
    returns-5)
