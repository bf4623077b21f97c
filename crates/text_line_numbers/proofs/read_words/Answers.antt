use mathlib.Core.Path.{sym, ap, ◌∙◌}
use lib.ListN.{drop}
use native.Mathlib.Omega.{arith}
use Rattle.columns.specs.Scanned.{field_reply}
use Rattle.text_line_numbers.proofs.Storing.{field_some, field_none, letters_none, letters_more, letters_stop, letters_all}
use Rattle.text_line_numbers.proofs.read_words.Goals as goal

pub loop-j-init : goal.loop-j-init
loop-j-init c = let a = c.args in letters_none (drop a.at a.text.now) a.word.now

pub loop-j-preserved : goal.loop-j-preserved
loop-j-preserved c =
    let a = c.args in
    letters_more (drop a.at a.text.now) a.word.now c.in-Some.z c.word_of.result c.loop-j.invariant
    (field_some a.text.now a.at c.loop-j.j c.in-Some.z (sym c.read_field.ensures ∙ ap field_reply c.in-Some.is))
    c.word_of.ensures

pub returns-in_default : goal.returns-in_default
returns-in_default c =
    let a = c.args in
    letters_stop (drop a.at a.text.now) a.word.now a.n c.loop-j.invariant
    (field_none a.text.now a.at c.loop-j.j (sym c.read_field.ensures ∙ ap field_reply c.in_default.is))
    c.loop-j-test.true

pub returns : goal.returns
returns c =
    let a = c.args in
    letters_all (drop a.at a.text.now) a.word.now a.n c.loop-j.invariant (omega arith)
