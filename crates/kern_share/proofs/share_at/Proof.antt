-- `kern_share::share_at` meets its contract, by its test. Assumes nothing.
use mathlib.Core.Path.{sym, ◌∙◌}
use native.Mathlib.Omega.{arith}
use borrow.Author.Rules.{rules}
use Rattle.kern_share.proofs.Laws.{shared_kept, shared_written, place_few}
use Rattle.kern_share.proofs.share_at.Statement.{statement}
use Rattle.kern_share.proofs.share_at.Tie as tie

holds-value-requires : tie.Need-holds_value-requires
holds-value-requires c κs = search rules

held-word-requires : tie.Need-held_word-requires
held-word-requires c κs = search rules

place-of-requires : tie.Need-place_of-place-requires
place-of-requires c κs = search rules

mul-put-word : tie.Need-overflow_mul-i
mul-put-word c = search rules

add-put-word : tie.Need-overflow_add-i
add-put-word c = search rules

put-word-requires : tie.Need-put_word-requires
put-word-requires c κs = search rules

mul-put-word-2 : tie.Need-overflow_mul-i-then-holds_value
mul-put-word-2 c = search rules

add-put-word-2 : tie.Need-overflow_add-i-then-holds_value
add-put-word-2 c = search rules

cast-put-word : tie.Need-overflow_cast-place
cast-put-word c =
    omega (arith, place_few c.args.instructions.now c.args.kerns.now c.args.k c.args.i c.held_word.ensures c.place_of-place.ensures, c.requires.0)

put-word-requires-2 : tie.Need-put_word-requires-then-holds_value
put-word-requires-2 c κs = search rules

same_length : tie.Need-shape_of-instructions-then-holds_value
same_length c = search rules

returns : tie.Need-returns-then-holds_value
returns c =
    shared_written c.args.instructions.now c.args.kerns.now c.args.k c.args.i c.held_word.ensures c.place_of-place.ensures
    (sym c.holds_value.ensures ∙ c.if-holds_value.true) c.requires.0 c.put_word.ensures c.put_word-then-holds_value.ensures

same-length-2 : tie.Need-shape_of-instructions-else-holds_value
same-length-2 c = search rules

returns-2 : tie.Need-returns-else-holds_value
returns-2 c =
    shared_kept c.args.instructions.now c.args.kerns.now c.args.k c.args.i (sym c.holds_value.ensures ∙ c.if-holds_value.false)

pub share_at_spec : {M : Type 1} → statement M
share_at_spec =
    tie.close
    (tie.spec
    holds-value-requires
    held-word-requires
    place-of-requires
    mul-put-word
    add-put-word
    put-word-requires
    mul-put-word-2
    add-put-word-2
    cast-put-word
    put-word-requires-2
    same_length
    returns
    same-length-2
    returns-2)
