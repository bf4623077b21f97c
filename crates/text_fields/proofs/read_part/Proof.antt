-- `text_fields::read_part` meets its contract. Assumes nothing.
use mathlib.Core.Path.{sym, ap, ◌∙◌}
use borrow.Author.Rules.{rules}
use Rattle.columns.specs.Scanned.{number_reply}
use Rattle.text_fields.proofs.Leading.{unblank}
use Rattle.text_fields.proofs.read_part.Statement.{statement}
use Rattle.text_fields.proofs.read_part.Tie as tie

blanks-end-requires : tie.Need-blanks_end-requires
blanks-end-requires c κs = search rules

read-number-requires : tie.Need-read_number-requires
read-number-requires c κs =
    unblank c.args.text.now c.requires c.blanks_end.ensures

returns : tie.Need-returns
returns c =
    c.read_number.ensures
    ∙ sym (ap number_reply (c.blanks_end.ensures.blank.reads c.args.end c.blanks_end.ensures.before c.requires.inside))

pub read_part_spec : {M : Type 1} → statement M
read_part_spec =
    tie.close
    (tie.spec
    blanks-end-requires
    read-number-requires
    returns)
