-- `text_font_reply::refuse_word` meets its contract: the lower of the number and of that of the lines without a word.
-- Assumes nothing.
use mathlib.Core.Path.{sym, ap, subst, ◌∙◌}
use mathlib.Core.List.{[]}
use Prim.Native.Nat.{ℕ, ◌<◌}
use native.Mathlib.Omega.{arith}
use lib.IntN.{negsuc}
use borrow.Author.Rules.{rules}
use Rattle.lang.specs.Checks.{lower}
use Rattle.lang.proofs.Refusals.{lower_some}
use Rattle.columns.specs.Replying.{reply_bytes}
use Rattle.text_font_reply.specs.Answering.{AnswersBytes}
use Rattle.text_font_reply.proofs.Laws.{refused_over, alone_number_lem}
use Rattle.text_font_reply.proofs.refuse_word.Statement.{statement}
use Rattle.text_font_reply.proofs.refuse_word.Tie as tie

slice-aggregate-write-reply : tie.Need-slice_bounds-write_reply-end
slice-aggregate-write-reply c = search rules

write-reply-requires : tie.Need-write_reply-alone-requires
write-reply-requires c κs = search rules

number-in-requires : tie.Need-number_in-short-requires
number-in-requires c κs = search rules

lower-of-requires : tie.Need-lower_of-requires
lower-of-requires c κs = search rules

refuse-requires : tie.Need-refuse-requires
refuse-requires c κs =
    subst (λ (k : ℕ). 0 < k) (sym c.lower_of.ensures) (lower_some c.args.number c.number_in-short.result (λ z. omega (arith, z, c.requires)))

same_length : tie.Need-shape_of-reply
same_length c = search rules

returns : tie.Need-returns
returns c =
    let a = c.args in
    let d = c.write_reply-alone.new.reply in
    let q = alone_number_lem (reply_bytes a.pairs.now a.ops.now a.loops.now (negsuc 0) []) a.reply.now c.write_reply-alone.result d
    c.number_in-short.result c.write_reply-alone.ensures c.number_in-short.ensures in
    subst (λ (k : ℕ). AnswersBytes k [] a.reply.now c.refuse.result c.refuse.new.reply) (c.lower_of.ensures ∙ ap (lower a.number) q)
    (refused_over c.write_reply-alone.auto.reply c.refuse.ensures)

pub refuse_word_spec : {M : Type 1} → statement M
refuse_word_spec =
    tie.close
    (tie.spec
    slice-aggregate-write-reply
    write-reply-requires
    number-in-requires
    lower-of-requires
    refuse-requires
    same_length
    returns)
