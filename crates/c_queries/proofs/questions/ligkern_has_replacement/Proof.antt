-- `c_queries::questions::ligkern_has_replacement` meets its contract. Assumes nothing.
use mathlib.Core.Path.{◌∙◌}
use lib.IntN.{ℤ}
use Rattle.words.proofs.Bits.{number_word}
use Rattle.captions.specs.Queries.{has_reply}
use Rattle.c_values.specs.Telling.{TellsHost}
use Rattle.c_values.proofs.Telling.{tells_as, lent_three}
use borrow.Author.Rules.{rules}
use Rattle.c_queries.proofs.questions.ligkern_has_replacement.Statement.{statement}
use Rattle.c_queries.proofs.questions.ligkern_has_replacement.Tie as tie

has-replacement-requires : tie.Need-has_replacement-found-requires
has-replacement-requires c κs = search rules

reply-of-requires : tie.Need-reply_of-requires
reply-of-requires c κs = search rules

tell-requires : tie.Need-tell-requires
tell-requires c κs = search rules

same_length : tie.Need-shape_of-values
same_length c = search rules

returns : tie.Need-returns
returns c =
    let a = c.args in
    lent_three (λ (e f g : ℤ). TellsHost (has_reply a.pairs.now e f g) a.values.now c.tell.result c.tell.new.values)
    (number_word a.boundary c.ranges.boundary) (number_word a.left c.ranges.left) (number_word a.right c.ranges.right)
    (tells_as (c.reply_of.ensures ∙ c.has_replacement-found.ensures) c.tell.ensures)

pub ligkern_has_replacement_spec : {M : Type 1} → statement M
ligkern_has_replacement_spec =
    tie.close
    (tie.spec
    has-replacement-requires
    reply-of-requires
    tell-requires
    same_length
    returns)
