-- Four fonts, each a boundary character, pairs and ops, and acts of twelve numbers after them.
use Rattle.std.specs.Prelude.{List, ℕ, ◌/◌, ℤ, length}
use Rattle.test_requests.specs.Requests.{part_of, after_of}

-- what stands after the first font
abbrev pub past_of : List ℤ → List ℤ
past_of numbers = part_of numbers (after_of 2 numbers (after_of 6 numbers 1)) (length numbers)

-- what stands after the four
abbrev pub acts_of : List ℤ → List ℤ
acts_of numbers = past_of (past_of (past_of (past_of numbers)))

-- how many acts these are: what is left of twelve is none
abbrev pub act_count : List ℤ → ℕ
act_count numbers = length numbers / 12
