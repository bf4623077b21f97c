-- What asking before a repair tells a host in C (R401, R402): its answer is the reply that the port's own function is held to (`Asks` of
-- crate repairs). What is added is 15 where the list of values has no place (R216).
use Rattle.std.specs.Prelude.{◌≡◌, List, [], ◌∷◌, ℕ, ◌/◌, ℤ, pos, length, replicate}
use Rattle.lang.specs.Answers.{Reply, reply_of}
use Rattle.repairs.specs.Damaged.{Damaged}
use Rattle.repairs.specs.Warnings.{warnings_of}
use Rattle.repairs.specs.Asking.{ask_refusal}
use Rattle.c_values.specs.Telling.{Gives}

-- how many warnings there are, or the number
abbrev pub ask_reply : Damaged → ℕ → ℕ → Reply
ask_reply d warnings work = reply_of (ask_refusal d warnings work) (pos (length (warnings_of d) / 4) ∷ [])

-- THE contract of ligkern_ask_repair: the number, the warnings and their count, taken or refused; and the work
pub record HostAsks (d : Damaged) (warnings : List ℤ) (work values : List ℕ) (r : ℕ) (warnings' : List ℤ) (work' values' : List ℕ)
    : Type 0 where
  pub gives : Gives (pos 0) (ask_reply d (length warnings) (length work)) (warnings_of d) warnings values r warnings' values'
  pub cleared : work' ≡ replicate (length work) 0
