-- What the passes over settled rows leave: op counts and first ops, and rows that are ready to be written.
use Rattle.std.specs.Prelude.{◌≡◌, List, ℕ, min, ◌<◌, ℤ, length}
use Rattle.fonts.specs.Numbers.{ops_of, ops_before, ops_table, pair_table}
use Rattle.compiling.specs.Rows.{at, pairs, Encoded}
use Rattle.compiling.specs.SettledRows.{outcome, finished_rows, Settled}

-- a count that stops at 2 ^ 31
abbrev pub capped : ℕ → ℕ
capped n = min n 2147483648

-- every number of the first n rows but number g is the same
pub record OnlyField (g n : ℕ) (w w' : List ℕ) : Type 0 where
  pub same_length : length w' ≡ length w
  pub same : (k f : ℕ) → k < n → f < 16 → (f ≡ g → ⊥) → at w' k f ≡ at w k f

-- how many ops row k has; none where it never finishes
abbrev pub row_ops : ℕ → List ℕ → ℕ → ℕ
row_ops n w k = length (ops_of (outcome n w k))

-- how many ops the first n rows have in all
abbrev pub op_total : ℕ → List ℕ → ℕ
op_total n w = ops_before (finished_rows n w) (pairs n w) n

-- op counts, capped, and their capped sum r
pub record Counts (n : ℕ) (w w' : List ℕ) (r : ℕ) : Type 0 where
  pub only : OnlyField 12 n w w'
  pub counts : (k : ℕ) → k < n → at w' k 12 ≡ capped (row_ops n w k)
  pub total : r ≡ capped (op_total n w)

-- op counts as they are
abbrev pub Exact : ℕ → List ℕ → Type 0
Exact n w = (k : ℕ) → k < n → at w k 12 ≡ row_ops n w k

-- first ops: number 13 of each row is how many ops the rows before it have, and no other number changes
pub record Firsts (n : ℕ) (w w' : List ℕ) : Type 0 where
  pub only : OnlyField 13 n w w'
  pub firsts : (k : ℕ) → k < n → at w' k 13 ≡ ops_before (finished_rows n w) (pairs n w) k

-- rows that are ready to be written: m finished, counts and first ops as they are
pub record Ready (n m : ℕ) (w : List ℕ) : Type 0 where
  pub encoded : Encoded n w
  pub settled : Settled n w w m
  pub exact : Exact n w
  pub firsts : (k : ℕ) → k < n → at w k 13 ≡ ops_before (finished_rows n w) (pairs n w) k
  pub few : op_total n w < 2147483648

-- the ops of the first n rows as numbers, two an op
abbrev pub ops_written : ℕ → List ℕ → List ℤ
ops_written n w = ops_table (finished_rows n w) (pairs n w) n

-- the pair table of the first n rows, six numbers for each that finishes
abbrev pub pairs_written : ℕ → List ℕ → List ℤ
pairs_written n w = pair_table (finished_rows n w) (pairs n w) n
