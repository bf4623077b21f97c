-- A word set whole (R131 to R134), with the count of its items in a list (R215): the contract of `ligkern_set_word`, and of
-- `ligkern_set_word_indexed` of crate c_indexed, by the reply of the function that each calls.
use Rattle.std.specs.Prelude.{◌≡◌, List, [], ◌∷◌, ℕ, ◌/◌, ℤ, pos, length}
use Rattle.lang.specs.Checks.{lower}
use Rattle.lang.specs.Answers.{Reply, list_of, room_refusal}

-- the reply's number, and 15 where n places do not hold the count (R216): the lower of the two, so that 15 comes before 20 (R375)
abbrev pub caption_number : Reply → ℕ → ℕ
caption_number reply n = lower reply.number (room_refusal 1 n)

-- the number, and what the two lists hold: the numbers of the items and how many items there are, with zeros after them; or zeros
pub record SetsCaption (reply : Reply) (items : List ℤ) (count : List ℕ) (r : ℕ) (items' : List ℤ) (count' : List ℕ) : Type 0 where
  pub number : r ≡ caption_number reply (length count)
  pub list : items' ≡ list_of (caption_number reply (length count)) (pos 0) (length items) reply.values
  pub counted : count' ≡ list_of (caption_number reply (length count)) 0 (length count) (length reply.values / 6 ∷ [])
