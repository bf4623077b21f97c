-- `c_queries::questions::ligkern_table_is_seven_bit_safe` meets its contract. Assumes nothing.
use mathlib.Core.Path.{◌∙◌}
use Rattle.c_values.proofs.Telling.{tells_as}
use borrow.Author.Rules.{rules}
use Rattle.c_queries.proofs.questions.ligkern_table_is_seven_bit_safe.Statement.{statement}
use Rattle.c_queries.proofs.questions.ligkern_table_is_seven_bit_safe.Tie as tie

is-seven-bit-safe-requires : tie.Need-is_seven_bit_safe-tested-requires
is-seven-bit-safe-requires c κs = search rules

reply-of-requires : tie.Need-reply_of-requires
reply-of-requires c κs = search rules

tell-requires : tie.Need-tell-requires
tell-requires c κs = search rules

same_length : tie.Need-shape_of-values
same_length c = search rules

returns : tie.Need-returns
returns c =
    tells_as (c.reply_of.ensures ∙ c.is_seven_bit_safe-tested.ensures) c.tell.ensures

pub ligkern_table_is_seven_bit_safe_spec : {M : Type 1} → statement M
ligkern_table_is_seven_bit_safe_spec =
    tie.close
    (tie.spec
    is-seven-bit-safe-requires
    reply-of-requires
    tell-requires
    same_length
    returns)
