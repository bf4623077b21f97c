-- `short_word_set::set_next` meets its contract: by the answer of the next word.
-- Assumes nothing.
use mathlib.Core.Path.{◌≡◌, ap, subst, ◌∙◌}
use Prim.Native.Nat.{ℕ}
use lib.IntN.{ℤ}
use lib.Dec.{eqb}
use lib.ListN.{length}
use Rattle.words.proofs.Bits.{number_word}
use Rattle.lang.specs.Checks.{or_else, absent_refusal}
use Rattle.short_words.specs.declared.NextAnswer.TheVariants.{Word}
use Rattle.short_words.specs.NextWords.{next_short_word, short_refusal, next_word_by, held_word}
use Rattle.short_word_items.specs.NextItems.{next_word_items}
use Rattle.short_word_set.specs.SetNext.{word_found, SetsFound}
use Rattle.short_word_set.proofs.Laws.{Answers, word_answers, answered_short, word_set, end_set, refused_set}
use borrow.Author.Rules.{rules}
use Rattle.short_word_set.proofs.set_next.Statement.{statement}
use Rattle.short_word_set.proofs.set_next.Tie as tie

-- the next word, at the boundary character as it is lent
abbrev number : tie.Start → ℕ
number s = or_else (absent_refusal 255 s.args.boundary) (short_refusal s.args.letters.now s.args.word.now)

as_lent : (n : tie.After-checked_next-next) → n.checked_next-next.result ≡
    next_word_by (number n.before.before) (next_short_word n.args.letters.now n.args.word.now)
as_lent n =
    let a = n.args in
    n.checked_next-next.ensures
    ∙ ap (λ (y : ℤ). next_word_by (or_else (absent_refusal 255 y) (short_refusal a.letters.now a.word.now)) (next_short_word a.letters.now a.word.now))
    (number_word a.boundary n.ranges.boundary)

answers : (n : tie.After-checked_next-next) → n.checked_next-next.result.answer ≡ Word →
    Answers (number n.before.before) (next_short_word n.args.letters.now n.args.word.now) n.checked_next-next.result
answers n e =
    word_answers (number (n.before.before)) (next_short_word n.args.letters.now n.args.word.now) n.checked_next-next.result (as_lent n) e

checked-next-requires : tie.Need-checked_next-next-requires
checked-next-requires c κs = search rules

enum_told : tie.Need-enum_told-1
enum_told c = search rules

set-found-requires : tie.Need-set_found-requires
set-found-requires c κs =
    let a = c.args in
    answered_short a.letters.now a.pairs.now a.ops.now a.boundary a.word.now (eqb (length a.word.now) 0) a.items.now
    c.checked_next-next.result (answers (c.before.before.before) c.in-Word.is)

enum-told-2 : tie.Need-enum_told-in-End
enum-told-2 c = search rules

not-set-requires : tie.Need-not_set-requires
not-set-requires c κs = search rules

enum-known-answer : tie.Need-enum_known-answer
enum-known-answer c = search rules

not-set-requires-2 : tie.Need-not_set-requires-in-Refused
not-set-requires-2 c κs = search rules

same_length : tie.Need-shape_of-items-in-Word
same_length c = search rules

returns : tie.Need-returns-in-Word
returns c =
    let a = c.args in
    word_set a.letters.now a.pairs.now a.ops.now a.boundary a.word.now (eqb (length a.word.now) 0) a.items.now
    c.checked_next-next.result c.set_found.result c.set_found.new.items (answers (c.before.before.before.before.before) c.in-Word.is)
    (subst (λ (y : ℤ). SetsFound
    (next_word_items (eqb (length a.word.now) 0) a.pairs.now a.ops.now y (held_word c.checked_next-next.result.word) (length a.items.now))
    (word_found c.checked_next-next.result.word) a.items.now c.set_found.result c.set_found.new.items)
    (number_word a.boundary c.ranges.boundary) c.set_found.ensures)

same-length-2 : tie.Need-shape_of-items-in-End
same-length-2 c = search rules

returns-2 : tie.Need-returns-in-End
returns-2 c =
    let a = c.args in
    end_set a.letters.now a.pairs.now a.ops.now a.boundary a.word.now (eqb (length a.word.now) 0) a.items.now
    c.checked_next-next.result (as_lent (c.before.before.before.before)) c.in-End.is c.not_set.ensures.0 c.not_set.ensures.1

same-length-3 : tie.Need-shape_of-items-in-Refused
same-length-3 c = search rules

returns-3 : tie.Need-returns-in-Refused
returns-3 c =
    let a = c.args in
    refused_set a.letters.now a.pairs.now a.ops.now a.boundary a.word.now (eqb (length a.word.now) 0) a.items.now
    c.checked_next-next.result c.in-Refused.n (as_lent (c.before.before.before.before)) c.in-Refused.is c.not_set-in-Refused.ensures.0 c.not_set-in-Refused.ensures.1

pub set_next_spec : {M : Type 1} → statement M
set_next_spec =
    tie.close
    (tie.spec
    checked-next-requires
    enum_told
    set-found-requires
    enum-told-2
    not-set-requires
    enum-known-answer
    not-set-requires-2
    same_length
    returns
    same-length-2
    returns-2
    same-length-3
    returns-3)
