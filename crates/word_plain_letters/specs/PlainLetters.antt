-- Letters that a loop of their own gives, each written as its items of six numbers: one that has no pair with the character left of it lets
-- that stand, and a kern pair (R417) gives its character and its kern. Over any word, table and list, and over any step and any look-up of
-- pairs. A left is its place in the order of pairs, one more than its code.
use Rattle.std.specs.Prelude.{◌≡◌, ℕ, suc, ◌+◌, ◌-◌, ◌*◌, ◌/◌, ◌%◌, ◌^◌, ◌<◌, ◌≤◌, Bool, true, false, cond, List, [], ◌∷◌, length, ℤ, ◌==◌, nat_le, slice_index}
use Rattle.std.proofs.lemmas.List.Edits.{sets}
use Rattle.words.specs.Words.{word_of, number_of}
use Rattle.captions.specs.declared.RunOptions.{RunOptions}
use Rattle.captions.specs.declared.NextLeft.TheVariants as next
use Rattle.captions.specs.declared.Consumes.TheVariants as consumes
use Rattle.captions.specs.declared.State.{State}
use Rattle.captions.specs.declared.Answer.{Answer}
use Rattle.captions.specs.declared.Answer.TheVariants.{Char, Ligature, Kern, End, Refused}
use Rattle.captions.specs.declared.Step.{Step}
use Rattle.captions.specs.Replies.{answer_reply}
use Rattle.captions.specs.Tables.{pair_count, op_value, first_op, last_code}
use Rattle.step_quick.specs.Quick.{plain_code, next_letter, is_quick, found_place}
use Rattle.word_plain_letters.specs.declared.LettersGiven.{LettersGiven}
use Rattle.step_quick_pair.specs.KernPairs.{is_kern_pair}

-- six numbers at a place; nothing where there is no room for them
abbrev pub six_at : List ℤ → ℕ → List ℤ → List ℤ
six_at items at vs = cond (nat_le (at + 6) (length items)) (sets items at vs) items

-- the left's place in the order of pairs, where it is a character
abbrev pub plain_left : State → ℕ
plain_left s = suc (plain_code s.next_left)

-- ---- the items that steps give

-- a character or a kern
abbrev pub is_given : Answer → Bool
is_given (Char c start) = true
is_given (Ligature c start n left right) = false
is_given (Kern k) = true
is_given End = false
is_given (Refused n) = false

-- From a state on, m steps one after the other, each of which gives a character or a kern: the state that they lead to, and the list, in
-- which their numbers stand from item k on. How many steps is free.
pub data GivesItems (step : State → Step) (s : State) (items : List ℤ) (k : ℕ) : State → ℕ → List ℤ → Type 0 where
  nothing : GivesItems step s items k s 0 items
  more : {u : State} {m : ℕ} {d : List ℤ} → GivesItems step s items k u m d → is_given (step u).answer ≡ true → k + m < length d / 6 →
      GivesItems step s items k (step u).state (suc m) (sets d (6 * (k + m)) (answer_reply (step u).answer).values)

-- ---- one item

-- the six numbers of a character as it stands
abbrev pub letter_item : ℕ → ℕ → List ℤ
letter_item code start = number_of 0 ∷ number_of code ∷ number_of start ∷ number_of 1 ∷ number_of 0 ∷ number_of 0 ∷ []

-- those of a kern
abbrev pub kern_six : ℤ → List ℤ
kern_six value = number_of 2 ∷ value ∷ number_of 0 ∷ number_of 0 ∷ number_of 0 ∷ number_of 0 ∷ []

-- What is written of a kern pair, by its place: its character and then its kern; of any other entry, and where there is no room, nothing.
-- The contract of give_pair: the op after them, or 0; the code that is then next; and the list.
pub data GivesPair (pairs ops : List ℤ) (place start : ℕ) (items : List ℤ) (at : ℕ) : ℕ → ℕ → List ℤ → Type 0 where
  stops : GivesPair pairs ops place start items at 0 0 items
  kerns : is_kern_pair pairs ops place ≡ true → at + 12 ≤ length items →
      GivesPair pairs ops place start items at (suc (suc (first_op pairs place))) (last_code pairs place)
      (sets (sets items at (letter_item (word_of (op_value ops (first_op pairs place))) start)) (at + 6) (kern_six (op_value ops (suc (first_op pairs place)))))

-- ---- letters that stand

-- what a loop over at most n letters from number `read` on asks: so many letters, starts of 16 bits, room for so many items, and a left
pub record MayStand (word : List ℕ) (read given left n : ℕ) (items : List ℤ) (k : ℕ) : Type 0 where
  pub letters : read + n ≤ length word
  pub starts : given + n ≤ 65535
  pub room : k + n ≤ length items / 6
  pub some : 0 < left
  pub small : left ≤ 256

-- Letters in range one after the other, each of which has no pair with the left of it by a look-up, so that the left is given as it stands:
-- the left that is then next, how many they are, and the list, in which their numbers stand from item k on.
pub data Stand (place : ℕ → ℕ → ℕ) (none : ℕ) (word : List ℕ) (read given left : ℕ) (items : List ℤ) (k : ℕ) : ℕ → ℕ → List ℤ → Type 0 where
  none_stand : Stand place none word read given left items k left 0 items
  one_stands : {l n : ℕ} {d : List ℤ} → Stand place none word read given left items k l n d → read + n < length word →
      slice_index word (read + n) ≤ 255 → place l (slice_index word (read + n)) ≡ none → k + n < length d / 6 →
      Stand place none word read given left items k (suc (slice_index word (read + n))) (suc n) (sets d (6 * (k + n)) (letter_item (l - 1) (given + n)))

-- a pair, if there is one, is that of a left and a letter, which is there and in range
abbrev pub PairStops : List ℤ → List ℕ → ℕ → ℕ → ℕ → Type 0
PairStops pairs word at left k =
    k < pair_count pairs → (at < length word) × (slice_index word at ≤ 255) × (k ≡ found_place pairs left (slice_index word at))

-- ---- letters one after the other

-- the state once n letters more are given, by the code that is then next and the op after the last; its numbers of letters are of 64 bits
abbrev pub letters_moved : State → ℕ → ℕ → ℕ → State
letters_moved s code o n =
    cond (n == 0) s
    (record {
      next_left = next.Char code;
      op = o;
      ops = 0;
      read = (s.read + n) % 2 ^ 64;
      given = (s.given + n) % 2 ^ 64;
      pending = 0;
      pending_boundary = false;
      consumes_left = consumes.Nothing;
    })

-- where i letters end, of which m items were given: the left that is then next, and the pair that stopped them
abbrev pub letters_end : State → ℕ → ℕ → ℕ → ℕ → ℕ → LettersGiven
letters_end s l o i m k = record { state = letters_moved s (l - 1) o i; count = m; pair = k }

-- pair k, if there is one, is the one that the next step looks up, and a letter is then looked up
abbrev pub NextPair : List ℤ → List ℤ → ℤ → List ℕ → RunOptions → State → ℕ → Type 0
NextPair pairs ops boundary word options s k =
    k < pair_count pairs →
    (is_quick ops boundary word options s ≡ true) × (k ≡ found_place pairs (plain_left s) (next_letter word s))
