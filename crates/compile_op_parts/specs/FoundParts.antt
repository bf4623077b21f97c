-- The parts that a row's ops are made of, over any rows: pairs are found by bisection. On rows whose rules are written they are `firstPart`
-- and `secondPart` of compiling/specs/OpSteps (proofs/Laws).
use Rattle.std.specs.Prelude.{cond, List, [], ◌∷◌, ℕ, ◌+◌, ltb, leb, eqb}
use Rattle.compiling.specs.declared.Part.{Part}
use Rattle.compiling.specs.declared.Part.TheVariants.{Nothing, Ligature, Kern}
use Rattle.compiling.specs.Rows.{at, search_row}
use Rattle.compiling.specs.OpSteps.{left_part, part_by, last_by, any_of}

-- the ops of left t (0 the boundary, else 1 + character) and right r, by the row that is found among the first n
abbrev pub pair_found : ℕ → List ℕ → ℕ → ℕ → Part
pair_found n w t r = part_by t (search_row w n t r)

-- the code of their last, by that row
abbrev pub last_found : ℕ → List ℕ → ℕ → ℕ → ℕ
last_found n w t r = last_by w r (search_row w n t r)

-- the place of a character among the lefts; a code that is none is taken for the boundary
abbrev pub place_of : ℕ → ℕ
place_of c = cond (ltb c 256) (c + 1) 0

-- what stands first in the ops of left t and a right with the op and value v: the left finished, or the ops of t and v
abbrev pub first_of_found : ℕ → List ℕ → ℕ → ℕ → ℕ → Part
first_of_found n w op t v = cond (leb 6 op) (left_part t) (cond (any_of op (2 ∷ 3 ∷ [])) (pair_found n w t v) Nothing)

-- what follows it, with its first character a ligature: the kern, the inserted character, or the ops of that, or of the last of t and v,
-- with the right r
abbrev pub second_of_found : ℕ → List ℕ → ℕ → ℕ → ℕ → ℕ → Part
second_of_found n w op t v r =
    cond (eqb op 128) (Kern v)
    (cond (any_of op (5 ∷ 11 ∷ [])) (Ligature v)
    (cond (any_of op (1 ∷ 7 ∷ [])) (pair_found n w (place_of v) r)
    (cond (eqb op 3) (pair_found n w (place_of (last_found n w t v)) r) Nothing)))

-- what stands first in the ops of row k
abbrev pub first_found : ℕ → List ℕ → ℕ → Part
first_found n w k = first_of_found n w (at w k 3) (at w k 0) (at w k 4)

-- what follows it in the ops of row k
abbrev pub second_found : ℕ → List ℕ → ℕ → Part
second_found n w k = second_of_found n w (at w k 3) (at w k 0) (at w k 4) (at w k 1)
