-- The pair table, the ops and the loop list of finished pairs, as numbers (R77 to R83). Six i32 a pair (R77, R78): left (-1 is the
-- boundary), right, last code, last flag, first op, op count; two an op (R82): kind (0 character, 1 ligature, 2 scaled kern) and value; two
-- a loop (R83).
use Rattle.std.specs.Prelude.{Bool, true, false, List, [], ◌∷◌, ◌++◌, ℕ, zero, suc, ◌+◌, ℤ, pos, negsuc, length, get_or}
use Rattle.std.proofs.Math.Option.{Option, none, some}
use Rattle.reading.specs.Items.{Left, bnd, chr, item, code, flag, Out, glyph, kern}
use Rattle.reading.specs.Depth.{Res, Finished, Pair}
use Rattle.reading.specs.Loops.{Ruled}

-- pair k of a list; past its end, the boundary with character 0, and index 0
abbrev pub nth : List Ruled → ℕ → Ruled
nth ps k = get_or ps k (record { pair = record { left = bnd; right = 0 }; index = 0 })

-- the entry of pair k
abbrev pub entry_of : Finished → List Ruled → ℕ → Option Res
entry_of f ps k = f (nth ps k).pair.left (nth ps k).pair.right

-- the ops of an entry; none where there is no entry
abbrev pub ops_of : Option Res → List Out
ops_of none = []
ops_of (some q) = q.outs

-- how many ops the first k pairs have
unfoldable pub ops_before : Finished → List Ruled → ℕ → ℕ
ops_before f ps zero = 0
ops_before f ps (suc k) = ops_before f ps k + length (ops_of (entry_of f ps k))

-- the kind and the value of an op
abbrev pub out_numbers : Out → List ℤ
out_numbers (glyph (item false c)) = pos 0 ∷ pos c ∷ []
out_numbers (glyph (item true c)) = pos 1 ∷ pos c ∷ []
out_numbers (kern k) = pos 2 ∷ k ∷ []

-- two numbers an op, one after the other
unfoldable pub op_numbers : List Out → List ℤ
op_numbers [] = []
op_numbers (o ∷ os) = out_numbers o ++ op_numbers os

-- the ops of the first k pairs (R81)
unfoldable pub ops_table : Finished → List Ruled → ℕ → List ℤ
ops_table f ps zero = []
ops_table f ps (suc k) = ops_table f ps k ++ op_numbers (ops_of (entry_of f ps k))

-- a left as the table has it: -1 the boundary, else the character
abbrev pub left_number : Left → ℤ
left_number bnd = negsuc 0
left_number (chr c) = pos c

-- 1 where a flag is set, else 0
abbrev pub flag_number : Bool → ℤ
flag_number true = pos 1
flag_number false = pos 0

-- the six numbers of a finished pair, whose first op is given
abbrev pub pair_numbers : Pair → ℕ → Option Res → List ℤ
pair_numbers p first none = []
pair_numbers p first (some q) =
    left_number p.left ∷ pos p.right ∷ pos (code q.last) ∷ flag_number (flag q.last) ∷ pos first ∷ pos (length q.outs) ∷ []

-- the table of the first k pairs (R79)
unfoldable pub pair_table : Finished → List Ruled → ℕ → List ℤ
pair_table f ps zero = []
pair_table f ps (suc k) = pair_table f ps k ++ pair_numbers (nth ps k).pair (ops_before f ps k) (entry_of f ps k)

-- the loop list, two numbers a pair
unfoldable pub loop_numbers : List Pair → List ℤ
loop_numbers [] = []
loop_numbers (p ∷ ps) = left_number p.left ∷ pos p.right ∷ loop_numbers ps
