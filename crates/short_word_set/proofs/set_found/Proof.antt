-- `short_word_set::set_found` meets its contract: the items of the letters that the word has.
-- Assumes nothing.
use mathlib.Core.Path.{◌≡◌, sym, subst, ◌∙◌}
use native.Mathlib.Omega.{arith}
use lib.IntN.{ℤ}
use lib.ListN.{length}
use lib.Seq.{length-take-le}
use Rattle.words.specs.Words.{word_of, number_of}
use Rattle.words.proofs.Bits.{number_word}
use Rattle.short_words.specs.declared.NextAnswer.TheVariants.{Word}
use Rattle.short_words.specs.NextWords.{held_word}
use Rattle.short_word_items.specs.NextItems.{next_word_items}
use Rattle.short_word_set.specs.SetNext.{word_found, SetsFound}
use Rattle.short_word_set.proofs.Laws.{found_refused, found_counted, tells_as}
use borrow.Author.Rules.{rules}
use Rattle.short_word_set.proofs.set_found.Statement.{statement}
use Rattle.short_word_set.proofs.set_found.Tie as tie

-- a short word has four places
long : (c : tie.Start) → length c.args.word.letters ≡ 4
long c = c.well_formed.1.1.1.1.0.1.1.1.0.1.0.1

array-share-prefix-letters : tie.Need-slice_bounds-letters-end
array-share-prefix-letters c = omega (arith, long (c.before), c.requires)

slice-aggregate-set-items : tie.Need-slice_bounds-set_items-end
slice-aggregate-set-items c =
    sym (length-take-le c.args.word.length c.args.word.letters (omega (arith, long (c.before.before), c.requires)))

set-items-requires : tie.Need-set_items-requires
set-items-requires c κs = search rules

enum-known-n : tie.Need-enum_known-n
enum-known-n c = search rules

not-set-requires : tie.Need-not_set-requires
not-set-requires c κs = search rules

enum-known-k : tie.Need-enum_known-k
enum-known-k c = search rules

same_length : tie.Need-shape_of-items-in-Refused
same_length c = search rules

returns : tie.Need-returns-in-Refused
returns c =
    let a = c.args in
    subst (λ (y : ℤ). SetsFound (next_word_items a.first a.pairs.now a.ops.now y (held_word a.word) (length a.items.now))
    (word_found a.word) a.items.now
    c.not_set.result c.not_set.new.items) (number_word a.boundary c.ranges.boundary)
    (found_refused (next_word_items a.first a.pairs.now a.ops.now (number_of (word_of a.boundary)) (held_word a.word) (length a.items.now))
    (word_found a.word) a.items.now c.in-Refused.n (tells_as c.in-Refused.is c.set_items.ensures)
    c.set_items.auto.items c.not_set.ensures.0 c.not_set.ensures.1)

same-length-2 : tie.Need-shape_of-items-in-Count
same-length-2 c = search rules

returns-2 : tie.Need-returns-in-Count
returns-2 c =
    let a = c.args in
    subst (λ (y : ℤ). SetsFound (next_word_items a.first a.pairs.now a.ops.now y (held_word a.word) (length a.items.now))
    (word_found a.word) a.items.now
    (record { answer = Word; word = a.word; count = c.in-Count.k }) c.set_items.new.items) (number_word a.boundary c.ranges.boundary)
    (found_counted (next_word_items a.first a.pairs.now a.ops.now (number_of (word_of a.boundary)) (held_word a.word) (length a.items.now))
    (word_found a.word) a.items.now c.in-Count.k (tells_as c.in-Count.is c.set_items.ensures))

pub set_found_spec : {M : Type 1} → statement M
set_found_spec =
    tie.close
    (tie.spec
    array-share-prefix-letters
    slice-aggregate-set-items
    set-items-requires
    enum-known-n
    not-set-requires
    enum-known-k
    same_length
    returns
    same-length-2
    returns-2)
