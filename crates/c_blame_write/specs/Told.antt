-- What is told a host in C of a blamed instruction (R489): the contract of `tell_blamed`.
use Rattle.std.specs.Prelude.{◌≡◌, List, map, ℕ, length}
use Rattle.lang.specs.Checks.{lower}
use Rattle.lang.specs.Answers.{Reply, room_refusal, list_of}
use Rattle.c_values.specs.Telling.{natural}

-- the lower of the answer's number and 15, where the list has not two places (R216): 15 is one more of the numbers before any removal, and
-- beside a 13 or 14 of a removal the lower is told; the values and zeros, or zeros alone
pub record TellsBlamed (reply : Reply) (values : List ℕ) (r : ℕ) (values' : List ℕ) : Type 0 where
  pub number : r ≡ lower reply.number (room_refusal 2 (length values))
  pub told : values' ≡ list_of r 0 (length values) (map natural reply.values)
