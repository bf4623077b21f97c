-- `text_scan::whole::first_line` meets its contract. Assumes nothing.
use mathlib.Core.Path.{sym, ap, ◌∙◌}
use Rattle.columns.specs.Scanned.{field_reply}
use Rattle.text_scan.proofs.Opening.{opens_other, opens_none, opens_some}
use borrow.Author.Rules.{rules}
use Rattle.text_scan.proofs.whole.first_line.Statement.{statement}
use Rattle.text_scan.proofs.whole.first_line.Tie as tie

item-at-requires : tie.Need-item_at-requires
item-at-requires c κs = search rules

returns : tie.Need-returns-then-item_at-ne68
returns c =
    opens_other c.args.text.now c.requires (λ e. c.if-item_at-ne68.true (c.item_at.ensures ∙ e))

read-number-requires : tie.Need-read_number-requires
read-number-requires c κs = search rules

enum-known-z : tie.Need-enum_known-z
enum-known-z c = search rules

enum_told : tie.Need-enum_told-1
enum_told c = search rules

returns-2 : tie.Need-returns-in_default
returns-2 c =
    opens_none c.args.text.now c.requires (sym c.item_at.ensures ∙ c.if-item_at-ne68.false)
    (sym c.read_number.ensures ∙ ap field_reply c.in_default.is)

word-of-requires : tie.Need-word_of-requires
word-of-requires c κs = search rules

returns-3 : tie.Need-returns
returns-3 c =
    opens_some c.args.text.now c.requires c.in-Some.z c.word_of.result (sym c.item_at.ensures ∙ c.if-item_at-ne68.false)
    (sym c.read_number.ensures ∙ ap field_reply c.in-Some.is) c.word_of.ensures

pub first_line_spec : {M : Type 1} → statement M
first_line_spec =
    tie.close
    (tie.spec
    item-at-requires
    returns
    read-number-requires
    enum-known-z
    enum_told
    returns-2
    word-of-requires
    returns-3)
