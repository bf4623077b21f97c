-- `table_form_pass::table_form` meets its contract: the sizes, and then all else.
-- Assumes nothing.
use mathlib.Core.Path.{◌≡◌, sym, ◌∙◌}
use mathlib.Core.Bool.{true}
use Prim.Native.Nat.{◌%◌}
use lib.Dec.{leb, eqb}
use lib.ListN.{length}
use borrow.Author.Tests.{eqb-true}
use Rattle.lang.specs.Every.{both}
use Rattle.lang.proofs.Every.{both_left}
use Rattle.captions.specs.Tables.{op_count}
use Rattle.captions.specs.Form.{sizes_form}
use borrow.Author.Rules.{rules}
use Rattle.table_form_pass.proofs.table_form.Statement.{statement}
use Rattle.table_form_pass.proofs.table_form.Tie as tie

sizes : (c : tie.Else-not-sizes_form) → sizes_form c.args.pairs.now c.args.ops.now ≡ true
sizes c = sym c.sizes_form.ensures ∙ c.if-not-sizes_form.false

sizes-form-requires : tie.Need-sizes_form-requires
sizes-form-requires c κs = search rules

returns : tie.Need-returns-then-not-sizes_form
returns c = rw (sym c.sizes_form.ensures ∙ c.if-not-sizes_form.true)

pairs-form-requires : tie.Need-pairs_form-requires
pairs-form-requires c κs =
    let a = c.args in
    let ops = a.ops.now in
    eqb-true (length a.pairs.now % 6) 0
    (both_left (eqb (length a.pairs.now % 6) 0) (both (eqb (length ops % 2) 0) (leb (op_count ops) 2147483647)) (sizes c))

returns-2 : tie.Need-returns
returns-2 c = rw (sizes c.before) c.pairs_form.ensures

pub table_form_spec : {M : Type 1} → statement M
table_form_spec =
    tie.close
    (tie.spec
    sizes-form-requires
    returns
    pairs-form-requires
    returns-2)
