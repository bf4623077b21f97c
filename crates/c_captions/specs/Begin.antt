-- A fresh run (R97) whose state stands in a list (R218): the contract of `ligkern_begin`.
use Rattle.std.specs.Prelude.{◌≡◌, List, ℕ, ℤ, length}
use Rattle.std.proofs.Math.Option.{some}
use Rattle.lang.specs.Checks.{lower}
use Rattle.lang.specs.Answers.{list_of, room_refusal}
use Rattle.captions.specs.declared.RunOptions.{RunOptions}
use Rattle.captions.specs.Begin.{begin_refusal, fresh_state}
use Rattle.c_states.specs.States.{numbers_of, state_read}

-- begin's numbers, and 15 where n places do not hold a state (R216): the lower of the two, so that 15 comes before 20 (R375)
abbrev pub begin_number : List ℤ → List ℤ → ℤ → List ℕ → RunOptions → ℕ → ℕ
begin_number pairs ops boundary word options n = lower (begin_refusal pairs ops boundary word options) (room_refusal 9 n)

-- the number, and what the list holds: the nine numbers of a fresh state and zeros, which are read back as that state; or zeros
pub record BeginsRun (pairs ops : List ℤ) (boundary : ℤ) (word : List ℕ) (options : RunOptions) (state : List ℕ) (r : ℕ)
    (state' : List ℕ) : Type 0 where
  pub number : r ≡ begin_number pairs ops boundary word options (length state)
  pub list : state' ≡ list_of (begin_number pairs ops boundary word options (length state)) 0 (length state)
      (numbers_of (fresh_state word options))
  pub again : r ≡ 0 → state_read state' ≡ some (fresh_state word options)
