-- `kern_share::share_value` meets its contract, by its tests. Assumes nothing.
use mathlib.Core.Path.{refl, sym, ap, ◌∙◌}
use lib.IntN.{ℤ}
use lib.ListN.{take, set}
use borrow.Author.Tests.{not-true, not-false}
use borrow.Author.Rules.{rules}
use Rattle.words.proofs.Bits.{number_is}
use Rattle.kern_share.proofs.Laws.{place_held, is_old, is_new_lem}
use Rattle.kern_share.proofs.share_value.Statement.{statement}
use Rattle.kern_share.proofs.share_value.Tie as tie

holds-value-requires : tie.Need-holds_value-requires
holds-value-requires c κs = search rules

returns : tie.Need-returns-then-not-holds_value
returns c = rw (sym c.holds_value.ensures ∙ c.if-not-holds_value.true) (refl, refl)

held-word-requires : tie.Need-held_word-word-requires
held-word-requires c κs = search rules

place-of-requires : tie.Need-place_of-requires
place-of-requires c κs = search rules

same_length : tie.Need-shape_of-kerns-then-place_of-m
same_length c = search rules

returns-2 : tie.Need-returns-then-place_of-m
returns-2 c =
    let a = c.args in
    rw (is_old a.instructions.now a.k a.i a.kerns.now a.m (place_held (take a.m a.kerns.now) c.held_word-word.ensures c.place_of.ensures) c.if-place_of-m.true)
    (refl, refl)

put-word-requires : tie.Need-put_word-requires
put-word-requires c κs = search rules

add-result : tie.Need-overflow_add-result
add-result c = search rules

same-length-2 : tie.Need-shape_of-kerns
same-length-2 c = search rules

returns-3 : tie.Need-returns
returns-3 c =
    let a = c.args in
    rw (is_new_lem a.instructions.now a.k a.i a.kerns.now a.m (place_held (take a.m a.kerns.now) c.held_word-word.ensures c.place_of.ensures)
    (sym c.holds_value.ensures ∙ c.if-not-holds_value.false) c.if-place_of-m.false) (refl, c.put_word.ensures ∙ ap (λ (z : ℤ). set a.kerns.now a.m z) (number_is c.held_word-word.ensures))

pub share_value_spec : {M : Type 1} → statement M
share_value_spec =
    tie.close
    (tie.spec
    holds-value-requires
    returns
    held-word-requires
    place-of-requires
    same_length
    returns-2
    put-word-requires
    add-result
    same-length-2
    returns-3)
