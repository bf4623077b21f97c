-- `text_scan::lines::left_line` meets its contract. Assumes nothing.
use mathlib.Core.Path.{sym, ap, ◌∙◌}
use Rattle.columns.specs.Scanned.{field_reply}
use Rattle.text_scan.specs.Standing.{past_left}
use Rattle.text_scan.proofs.Telling.{head_none, head_some}
use borrow.Author.Rules.{rules}
use Rattle.text_scan.proofs.lines.left_line.Statement.{statement}
use Rattle.text_scan.proofs.lines.left_line.Tie as tie

returns : tie.Need-returns-then-p
returns c = search rules

add-read-number : tie.Need-overflow_add-p
add-read-number c = search rules

read-number-requires : tie.Need-read_number-requires
read-number-requires c κs = search rules

enum-known-z : tie.Need-enum_known-z
enum-known-z c = search rules

enum_told : tie.Need-enum_told-1
enum_told c = search rules

returns-2 : tie.Need-returns-in_default
returns-2 c =
    let a = c.args in
    head_none a.text.now a.p a.p.entered (past_left a.p) c.if-p.false (sym c.read_number.ensures ∙ ap field_reply c.in_default.is)

add-q : tie.Need-overflow_add-q
add-q c = search rules

word-of-requires : tie.Need-word_of-requires
word-of-requires c κs = search rules

returns-3 : tie.Need-returns
returns-3 c =
    let a = c.args in
    head_some a.text.now a.p a.p.entered (past_left a.p) c.in-Some.z c.word_of.result c.if-p.false
    (sym c.read_number.ensures ∙ ap field_reply c.in-Some.is) c.word_of.ensures

pub left_line_spec : {M : Type 1} → statement M
left_line_spec =
    tie.close
    (tie.spec
    returns
    add-read-number
    read-number-requires
    enum-known-z
    enum_told
    returns-2
    add-q
    word-of-requires
    returns-3)
