-- `text_print::front` meets its contract.
-- Assumes nothing.
use native.Mathlib.Omega.{arith}
use mathlib.Core.Path.{sym}
use lib.Seq.{length-take-le, take_all}
use borrow.Author.Rules.{rules}
use Rattle.text_print.proofs.front.Statement.{statement}
use Rattle.text_print.proofs.front.Tie as tie

returns : tie.Need-returns-then-bytes-n
returns c = let a = c.args in sym (take_all a.n a.bytes.now (omega arith))

slice-aggregate-result : tie.Need-slice_bounds-result-end
slice-aggregate-result c = sym (length-take-le _ _ (search rules))

returns-2 : tie.Need-returns
returns-2 c = search rules

pub front_spec : {M : Type 1} → statement M
front_spec =
    tie.close
    (tie.spec
    returns
    slice-aggregate-result
    returns-2)
