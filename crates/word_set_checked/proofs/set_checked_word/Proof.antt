-- `word_set_checked::set_checked_word` meets its contract: the number that is asked first, or the items of the run.
-- Assumes nothing.
use mathlib.Core.Path.{◌≡◌, ap, subst, ◌∙◌}
use Prim.Native.Nat.{◌/◌}
use lib.IntN.{ℤ}
use lib.ListN.{length}
use Rattle.words.specs.Words.{word_of, number_of}
use Rattle.words.proofs.Bits.{number_word}
use Rattle.lang.specs.Answers.{Reply}
use Rattle.captions.specs.Begin.{fresh_state}
use Rattle.word_set.specs.Setting.{items_from}
use Rattle.word_set.specs.Writing.{Tells}
use Rattle.word_set_checked.specs.Checked.{checked_refusal}
use Rattle.word_set_checked.proofs.Laws.{refused_tells, taken_tells}
use borrow.Author.Rules.{rules}
use Rattle.word_set_checked.proofs.set_checked_word.Statement.{statement}
use Rattle.word_set_checked.proofs.set_checked_word.Tie as tie

-- the number, by the boundary character as it was lent
asked : (c : tie.After-checked_refusal-refusal) → let a = c.args in
    c.checked_refusal-refusal.result ≡ checked_refusal a.boundary a.word.now a.options
asked c =
    c.checked_refusal-refusal.ensures ∙ ap (λ (z : ℤ). checked_refusal z c.args.word.now c.args.options)
    (number_word c.args.boundary c.ranges.boundary)

checked-refusal-requires : tie.Need-checked_refusal-refusal-requires
checked-refusal-requires c κs = search rules

zero-all-requires : tie.Need-zero_all-requires
zero-all-requires c κs = search rules

same_length : tie.Need-shape_of-items-then-refusal-ne0
same_length c = search rules

returns : tie.Need-returns-then-refusal-ne0
returns c =
    let a = c.args in
    refused_tells (checked_refusal a.boundary a.word.now a.options) c.checked_refusal-refusal.result
    (items_from a.pairs.now a.ops.now a.boundary a.word.now a.options (length a.items.now / 6)
    (fresh_state a.word.now a.options))
    a.items.now c.zero_all.new.s (asked (c.before.before.before.before)) c.if-refusal-ne0.true c.zero_all.ensures

set-fresh-requires : tie.Need-set_fresh-requires
set-fresh-requires c κs = search rules

same-length-2 : tie.Need-shape_of-items
same-length-2 c = search rules

returns-2 : tie.Need-returns
returns-2 c =
    let a = c.args in
    let run : ℤ → Reply = λ z. items_from a.pairs.now a.ops.now z a.word.now a.options (length a.items.now / 6)
    (fresh_state a.word.now a.options) in
    taken_tells (checked_refusal a.boundary a.word.now a.options) c.checked_refusal-refusal.result (run a.boundary) a.items.now
    c.set_fresh.result c.set_fresh.new.items (asked (c.before.before.before.before)) c.if-refusal-ne0.false
    (subst (λ (z : ℤ). Tells (run z) a.items.now c.set_fresh.result c.set_fresh.new.items)
    (number_word a.boundary c.ranges.boundary)
    c.set_fresh.ensures)

pub set_checked_word_spec : {M : Type 1} → statement M
set_checked_word_spec =
    tie.close
    (tie.spec
    checked-refusal-requires
    zero-all-requires
    same_length
    returns
    set-fresh-requires
    same-length-2
    returns-2)
