-- What the next short word's items are: on a table that begin accepts those that set_word gives, and so, for a font that compile accepts and a
-- reading that ends, the reading's. Proved: proofs/Theorems. And by which numbers it is refused, at the end.
use Rattle.std.specs.Prelude.{◌≡◌, ℕ, ◌*◌, ◌≤◌, ℤ, length}
use mathlib.Core.List.{List, [], ◌∷◌, Memᴰ}
use Rattle.std.proofs.Math.Option.{some}
use Rattle.reading.specs.Items.{Out}
use Rattle.fonts.specs.Fonts.{Font}
use Rattle.captions.specs.Begin.{begin_refusal, plain_options}
use Rattle.captions.specs.Demand3.{Reads, Demand3}
use Rattle.word_set.specs.Setting.{set_reply}
use Rattle.word_set.specs.Purpose.{SetAs}
use Rattle.short_words.specs.NextWords.{next_short_word, short_refusal}
use Rattle.short_word_set.specs.SetNext.{set_next_reply}

-- a word that is taken has a next one, and begin accepts the table and the boundary character, over any word: what is set is what set_word
-- sets of the next word
abbrev pub SetsAsWord : Type 0
SetsAsWord =
    (letters : List ℕ) (pairs ops : List ℤ) (boundary : ℤ) (word next begun : List ℕ) (room : ℕ) →
    begin_refusal pairs ops boundary begun plain_options ≡ 0 → short_refusal letters word ≡ 0 → next_short_word letters word ≡ some next →
    set_next_reply letters pairs ops boundary word room ≡ set_reply pairs ops boundary next plain_options room

-- so for a font that compile accepts and of which no loop is reported: the reading of the next word ends, and what is set, where the list has
-- room, is that reading
abbrev pub SetsAsRead : Type 0
SetsAsRead =
    (f : Font) (pairs ops loops : List ℤ) (letters word next : List ℕ) (room : ℕ) → Demand3 f 0 pairs ops loops → short_refusal letters word ≡ 0 →
    next_short_word letters word ≡ some next →
    (items : List Out) × Reads f next plain_options items
    × (6 * length items ≤ room →
    (set_next_reply letters pairs ops f.boundary word room ≡ set_reply pairs ops f.boundary next plain_options room)
    × SetAs f pairs ops next plain_options room items)

-- ---- the numbers

-- Whatever set, table, boundary character, word and room are lent, the number is 0 or one of these. Not 6 or 20: the next word has at most
-- four letters, each a character of the set, and there is no override. Proved: `set-next-numbers` of proofs/RefusalNumbers.
abbrev pub SetNextNumbers : Type 0
SetNextNumbers =
    (letters : List ℕ) (pairs ops : List ℤ) (boundary : ℤ) (word : List ℕ) (room : ℕ) →
    Memᴰ (set_next_reply letters pairs ops boundary word room).number (0 ∷ 4 ∷ 7 ∷ 15 ∷ 27 ∷ [])
