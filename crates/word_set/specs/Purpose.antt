-- What a word set whole is, for a font that compile accepts: demand 3 (R14 to R23) speaks of any number of steps, and `Answered` of
-- captions/specs/Demand3 says what they answer. The theorem is `every-word` of proofs/Theorems. And that no letter is lost, at the end.
use Rattle.std.specs.Prelude.{◌≡◌, cond, List, [], ◌∷◌, ◌++◌, map, ℕ, zero, suc, ◌*◌, ◌/◌, ◌≤◌, ℤ, pos, leb, length, get_or, drop}
use Rattle.words.specs.Words.{word_of}
use Rattle.lang.specs.Answers.{Reply}
use Rattle.reading.specs.Items.{Out}
use Rattle.fonts.specs.Fonts.{Font}
use Rattle.captions.specs.declared.RunOptions.{RunOptions}
use Rattle.captions.specs.declared.State.{State}
use Rattle.captions.specs.declared.Answer.{Answer}
use Rattle.captions.specs.declared.Begun.TheVariants.{Run}
use Rattle.captions.specs.Replies.{answer_reply}
use Rattle.captions.specs.Begin.{begin_of}
use Rattle.captions.specs.Runs.{answers, shows, shown}
use Rattle.captions.specs.Demand3.{Answered}
use Rattle.captions.specs.Queries.{original_of}
use Rattle.word_set.specs.Setting.{set_reply}

-- the numbers of answers, one after the other
unfoldable pub values_of : List Answer → List ℤ
values_of [] = []
values_of (a ∷ others) = (answer_reply a).values ++ values_of others

-- What is set in a list of `room` numbers: nothing is refused; the numbers that are written are those of the answers of the steps from the
-- state that begin returns, one step for each item, with originals and flags; these answers are the items, by kind and by code or scaled
-- kern (R22); and the count that is answered is that of the items.
pub record SetAs (f : Font) (pairs ops : List ℤ) (word : List ℕ) (options : RunOptions) (room : ℕ) (items : List Out) : Type 0 where
  pub start : State
  pub begins : begin_of pairs ops f.boundary word options ≡ Run start
  pub accepted : (set_reply pairs ops f.boundary word options room).number ≡ 0
  pub numbers : (set_reply pairs ops f.boundary word options room).values ≡
      values_of (answers pairs ops f.boundary word options (length items) start)
  pub same : map shown (answers pairs ops f.boundary word options (length items) start) ≡ map shows items
  pub counted : length (set_reply pairs ops f.boundary word options room).values / 6 ≡ length items

-- what the steps of a run answer is what is set, where the list has room for it
abbrev pub EveryWord : Type 0
EveryWord =
    (f : Font) (pairs ops : List ℤ) (word : List ℕ) (options : RunOptions) (items : List Out) (room : ℕ) →
    Answered f pairs ops word options items → 6 * length items ≤ room → SetAs f pairs ops word options room items

-- ---- no letter lost (R387)

-- the letters that the first item of a list says by its start and length, its numbers 2 and 3: of kinds 0 and 1; a kern has none
abbrev pub first_letters : List ℕ → List ℤ → List ℕ
first_letters word items =
    cond (leb (word_of (get_or items 0 (pos 0))) 1) (original_of word (word_of (get_or items 2 (pos 0))) (word_of (get_or items 3 (pos 0)))) []

-- those of n items, six numbers each, one after the other
unfoldable pub items_letters : List ℕ → ℕ → List ℤ → List ℕ
items_letters word zero items = []
items_letters word (suc n) items = first_letters word items ++ items_letters word n (drop 6 items)

-- those of all items of a reply are the word, each letter once
abbrev pub AllLetters : List ℕ → Reply → Type 0
AllLetters word r = items_letters word (length r.values / 6) r.values ≡ word

-- Whatever set_word is lent, where it is not refused its items have all letters of the word. Proved: `every-set-word` of proofs/Letters.
abbrev pub EverySetWord : Type 0
EverySetWord =
    (pairs ops : List ℤ) (boundary : ℤ) (word : List ℕ) (options : RunOptions) (room : ℕ) →
    (set_reply pairs ops boundary word options room).number ≡ 0 → AllLetters word (set_reply pairs ops boundary word options room)
