use mathlib.Core.Path.{sym, ap, ◌∙◌}
use lib.ListN.{drop}
use native.Mathlib.Omega.{arith}
use Rattle.columns.specs.Scanned.{field_reply}
use Rattle.text_line_numbers.proofs.Storing.{field_some, field_none, numbers_none, numbers_more, numbers_stop, numbers_all}
use Rattle.text_line_numbers.proofs.read_fields.Goals as goal

pub loop-j-init : goal.loop-j-init
loop-j-init c = let a = c.args in numbers_none (drop a.at a.text.now) a.list.now a.place

pub loop-j-preserved : goal.loop-j-preserved
loop-j-preserved c =
    let a = c.args in
    numbers_more (drop a.at a.text.now) a.list.now a.place c.in-Some.z c.loop-j.invariant
    (field_some a.text.now a.at c.loop-j.j c.in-Some.z (sym c.read_field.ensures ∙ ap field_reply c.in-Some.is))

pub returns-in_default : goal.returns-in_default
returns-in_default c =
    let a = c.args in
    numbers_stop (drop a.at a.text.now) a.list.now a.place a.n c.loop-j.invariant
    (field_none a.text.now a.at c.loop-j.j (sym c.read_field.ensures ∙ ap field_reply c.in_default.is))
    c.loop-j-test.true

pub returns : goal.returns
returns c =
    let a = c.args in
    numbers_all (drop a.at a.text.now) a.list.now a.place a.n c.loop-j.invariant (omega arith)
