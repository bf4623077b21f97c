-- `text_font_reply::refuse` meets its contract.
-- Assumes nothing.
use borrow.Author.Rules.{rules}
use Rattle.text_font_reply.proofs.Laws.{refused}
use Rattle.text_font_reply.proofs.refuse.Statement.{statement}
use Rattle.text_font_reply.proofs.refuse.Tie as tie

zero-all-requires : tie.Need-zero_all-requires
zero-all-requires c κs = search rules

same_length : tie.Need-shape_of-reply
same_length c = search rules

returns : tie.Need-returns
returns c =
    refused c.args.number c.args.reply.now c.zero_all.new.s c.requires c.zero_all.ensures

pub refuse_spec : {M : Type 1} → statement M
refuse_spec =
    tie.close
    (tie.spec
    zero-all-requires
    same_length
    returns)
