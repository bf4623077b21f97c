-- Which instruction did that? for a host in C (R489): what is told of the answer (`blamedReply` of removals/specs/Search), in a list of two
-- places: 1 and the index, or 0 and 0.
use Rattle.std.specs.Prelude.{List, ℕ, ℤ, length}
use Rattle.fonts.specs.Fonts.{Font}
use Rattle.captions.specs.declared.RunOptions.{RunOptions}
use Rattle.c_blame_write.specs.Told.{TellsBlamed}
use Rattle.removals.specs.declared.FontNumbers.{FontNumbers}
use Rattle.removals.specs.Search.{blame_room, blamed_of, blamed_reply, WorkZeroed}

-- the numbers of a font as the call takes them
abbrev pub font_numbers_of : ℤ → ℤ → ℤ → ℤ → ℤ → FontNumbers
font_numbers_of boundary left design size magnification =
    record { boundary = boundary; left_entry = left; design_size = design; size = size; magnification = magnification }

-- THE contract of ligkern_blamed_instruction: the number, the values, and zeros in the six lists that are work; `size` is the number of the
-- size asked for
pub record BlamesForHost (f : Font) (size : ℕ) (word : List ℕ) (options : RunOptions) (pairs ops pairsWithout opsWithout edited : List ℤ)
    (work values : List ℕ) (r : ℕ) (pairs' ops' pairsWithout' opsWithout' edited' : List ℤ) (work' values' : List ℕ) : Type 0 where
  pub tells : TellsBlamed
      (blamed_reply (blamed_of f (blame_room pairs ops pairsWithout opsWithout work) size word options (length edited))) values r values'
  pub zeroed : WorkZeroed pairs ops pairsWithout opsWithout edited work pairs' ops' pairsWithout' opsWithout' edited' work'
