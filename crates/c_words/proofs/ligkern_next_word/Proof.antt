-- `c_words::ligkern_next_word` meets its contract: what set_next answered, written into the lists (proofs/Laws).
-- Assumes nothing.
use mathlib.Core.Path.{subst}
use mathlib.Core.List.{List, [], ◌∷◌}
use Prim.Native.Nat.{ℕ}
use lib.IntN.{ℤ}
use lib.ListN.{length}
use Rattle.words.proofs.Bits.{number_word}
use Rattle.short_words.specs.NextWords.{next_short_word, next_found}
use Rattle.short_word_set.specs.SetNext.{set_next_reply, SetsFound}
use Rattle.c_words.proofs.Laws.{tells_next}
use borrow.Author.Rules.{rules}
use Rattle.c_words.proofs.ligkern_next_word.Statement.{statement}
use Rattle.c_words.proofs.ligkern_next_word.Tie as tie

-- the set as it is lent
abbrev letters : tie.Start → List ℕ
letters s = s.args.from_0 ∷ s.args.from_64 ∷ s.args.from_128 ∷ s.args.from_192 ∷ []

set-next-requires : tie.Need-set_next-told-requires
set-next-requires c κs = search rules

write-next-requires : tie.Need-write_next-requires
write-next-requires c κs = search rules

same_length : tie.Need-shape_of-next
same_length c = search rules

same-length-2 : tie.Need-shape_of-items
same-length-2 c = search rules

same-length-3 : tie.Need-shape_of-values
same-length-3 c = search rules

returns : tie.Need-returns
returns c =
    let a = c.args in
    let o = next_short_word (letters (c.before.before.before.before.before.before.before.before.before.before.before.before.before.before.before.before)) a.word.now in
    tells_next o (set_next_reply (letters (c.before.before.before.before.before.before.before.before.before.before.before.before.before.before.before.before)) a.pairs.now a.ops.now a.boundary a.word.now (length a.items.now)) a.next.now a.items.now
    a.values.now c.set_next-told.result c.set_next-told.new.items
    (subst (λ (y : ℤ). SetsFound (set_next_reply (letters (c.before.before.before.before.before.before.before.before.before.before.before.before.before.before.before.before)) a.pairs.now a.ops.now y a.word.now (length a.items.now)) (next_found o)
    a.items.now c.set_next-told.result c.set_next-told.new.items) (number_word a.boundary c.ranges.boundary) c.set_next-told.ensures)
    c.set_next-told.auto.items c.write_next.ensures

pub ligkern_next_word_spec : {M : Type 1} → statement M
ligkern_next_word_spec =
    tie.close
    (tie.spec
    set-next-requires
    write-next-requires
    same_length
    same-length-2
    same-length-3
    returns)
