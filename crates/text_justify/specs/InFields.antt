-- Numbers of a list that is lent, in fields (R186) at a place, and when there is room for them.
use Rattle.std.specs.Prelude.{Bool, cond, List, [], ◌∷◌, ◌++◌, ℕ, ◌+◌, ◌-◌, ◌*◌, ℤ, pos, leb, get_or}
use Rattle.std.proofs.lemmas.List.Edits.{sets}
use Rattle.words.specs.Lists.{tabulate}
use Rattle.lang.specs.Every.{both}
use Rattle.columns.specs.Lines.{fields_of}

-- n numbers of a list from a place on, 0 past its end
abbrev pub numbers_from : List ℤ → ℕ → ℕ → List ℤ
numbers_from numbers from n = tabulate n (λ j. get_or numbers (from + j) (pos 0))

-- of the six numbers of a pair from a place on: all but where its ops begin
abbrev pub five_from : List ℤ → ℕ → List ℤ
five_from pairs first = numbers_from pairs first 4 ++ (get_or pairs (first + 5) (pos 0) ∷ [])

-- fields that are taken: at most six, of numbers from a place up to `last` on, and room for all of them
abbrev pub fields_fit : ℕ → ℕ → ℕ → ℕ → ℕ → Bool
fields_fit last from n at room = both (leb n 6) (both (leb from last) (both (leb (12 * n) room) (leb at (room - 12 * n))))

-- fields are written at a place where they are taken; else nothing is
abbrev pub fields_where : Bool → List ℕ → ℕ → List ℤ → List ℕ
fields_where taken out at zs = cond taken (sets out at (fields_of zs)) out
