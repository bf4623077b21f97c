-- What answer_font and the functions below it are held to: the bytes that are written, or a number (R200 to R204).
use Rattle.std.specs.Prelude.{◌≡◌, List, [], ◌∷◌, ℕ, ℤ, pos, negsuc, length}
use Rattle.lang.specs.declared.Written.{Written}
use Rattle.lang.specs.Checks.{or_else}
use Rattle.lang.specs.Answers.{Reply, reply_of, written_reply, list_of}
use Rattle.captions.specs.Begin.{fresh_state, plain_options}
use Rattle.word_set.specs.Setting.{items_from}
use Rattle.columns.specs.Replying.{reply_bytes, reply_refusal}

-- the bytes and zeros, and how many; or a number, and zeros
pub record AnswersBytes (number : ℕ) (bytes reply : List ℕ) (r : Written) (reply' : List ℕ) : Type 0 where
  pub answer : written_reply r ≡ reply_of number (pos (length bytes) ∷ [])
  pub list : reply' ≡ list_of number 0 (length reply) bytes

-- the items that a fresh run gives over a table; none where there is no word
abbrev pub fresh_items : List ℤ → List ℤ → ℤ → ℤ → List ℕ → Reply
fresh_items pairs ops boundary (pos n) word = items_from pairs ops boundary word plain_options 885 (fresh_state word plain_options)
fresh_items pairs ops boundary (negsuc n) word = reply_of 0 []

-- the bytes of the reply with those items
abbrev pub fresh_bytes : List ℤ → List ℤ → List ℤ → ℤ → ℤ → List ℕ → List ℕ
fresh_bytes pairs ops loops boundary letters word = reply_bytes pairs ops loops letters (fresh_items pairs ops boundary letters word).values

-- the number of a run that is refused or has over 885 items; else 15 where the bytes are too many; else 0
abbrev pub fresh_number : List ℤ → List ℤ → List ℤ → ℤ → ℤ → List ℕ → ℕ → ℕ
fresh_number pairs ops loops boundary letters word room =
    or_else (fresh_items pairs ops boundary letters word).number (reply_refusal (fresh_bytes pairs ops loops boundary letters word) room)
