-- The items of a next short word (R439): the contract of `set_items`.
use Rattle.std.specs.Prelude.{Bool, true, false, List, ℕ, ◌/◌, ℤ}
use Rattle.lang.specs.Answers.{Reply}
use Rattle.captions.specs.Begin.{fresh_state, plain_options}
use Rattle.word_set.specs.Setting.{items_from, set_reply}

-- the items of a word, set with the left boundary and no override: of the first after the empty word, with which a listing starts, as
-- set_word sets it, the table checked whole; of any other as set_fresh does, which checks what its steps read
abbrev pub next_word_items : Bool → List ℤ → List ℤ → ℤ → List ℕ → ℕ → Reply
next_word_items true pairs ops boundary next room = set_reply pairs ops boundary next plain_options room
next_word_items false pairs ops boundary next room = items_from pairs ops boundary next plain_options (room / 6) (fresh_state next plain_options)
