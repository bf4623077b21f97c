-- One kern scaled for a host in C: what is told of the answer that scaling gives (`scaled_reply` of tfm/specs/Scaled), in a list of one
-- place.
use Rattle.std.specs.Prelude.{◌≡◌, List, ℕ, ℤ, pos, length}
use Rattle.lang.specs.Checks.{lower}
use Rattle.lang.specs.Answers.{Reply, room_refusal, list_of}

-- THE contract of ligkern_to_scaled: the lower of the answer's number and 15, where the list has no place, so that 15 comes after 5 and 13
-- and before 19 (R356); the scaled kern and zeros, or zeros alone
pub record TellsScaled (reply : Reply) (scaled : List ℤ) (r : ℕ) (scaled' : List ℤ) : Type 0 where
  pub number : r ≡ lower reply.number (room_refusal 1 (length scaled))
  pub told : scaled' ≡ list_of r (pos 0) (length scaled) reply.values
