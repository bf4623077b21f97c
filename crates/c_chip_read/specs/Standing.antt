-- The numbers of a chip that some command leaves, tested where they stand: what `isChip` and `chipRefusal` ask together, each letter once.
use Rattle.std.specs.Prelude.{Bool, List, ℕ, leb, length, get_or, drop}
use Rattle.lang.specs.Every.{both, every}
use Rattle.c_states.specs.States.{is_state}
use Rattle.chips.specs.Commands.{item_stands, open_stands}
use Rattle.c_chips.specs.ChipLists.{is_word, is_shown, shown_at, chip_at}

-- no more than 64 letters, each a byte
abbrev pub byte_letters : List ℕ → Bool
byte_letters ns = both (leb (get_or ns 1 0) 64) (every (get_or ns 1 0) (λ i. leb (get_or (drop 18 ns) i 0) 255))

-- a caller of 0 to 7, and eight counts of 32 bits
abbrev pub callers_stand : List ℕ → Bool
callers_stand ns = both (leb (get_or ns 90 0) 7) (every 8 (λ i. is_word (get_or (drop 82 ns) i 0)))

-- all of them
abbrev pub list_stands : List ℕ → Bool
list_stands ns =
    both (leb 91 (length ns))
    (both (leb (get_or ns 0 0) 1)
    (both (is_shown ns)
    (both (is_state (drop 9 ns))
    (both (byte_letters ns)
    (both (callers_stand ns)
    (both (item_stands (shown_at ns)) (open_stands (chip_at ns))))))))
