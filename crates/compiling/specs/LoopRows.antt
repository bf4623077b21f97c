-- The loop list over the rows: the order of walks (R87), and what the pass over them finds.
use Rattle.std.specs.Prelude.{◌≡◌, true, cond, List, ℕ, suc, ◌+◌, ◌-◌, ◌<◌, ◌≤◌, ltb, length, get_or}
use Rattle.reading.specs.Items.{bnd}
use Rattle.reading.specs.Depth.{Pair}
use Rattle.reading.specs.Loops.{walked_before, loop_list}
use Rattle.compiling.specs.Rows.{at, pair_at, ruled_at, pairs, rules}

-- the row of walk number s, of n rows of which the first e are the boundary's: those come last
abbrev pub walk_place : ℕ → ℕ → ℕ → ℕ
walk_place n e s = cond (ltb (e + s) n) (e + s) (e + s - n)

-- the row from which walk number s starts, which number 15 of the rows says
abbrev pub walk_row : ℕ → ℕ → List ℕ → ℕ → ℕ
walk_row n e w s = at w (walk_place n e s) 15

-- The boundary's rows are the first e, and number 15 of the rows gives them in the order of walks, each row once.
pub record WalkOrder (n e : ℕ) (w : List ℕ) : Type 0 where
  pub few : e ≤ n
  pub boundary : (k : ℕ) → k < e → at w k 0 ≡ 0
  pub others : (k : ℕ) → e ≤ k → k < n → 0 < at w k 0
  pub row : (s : ℕ) → s < n → walk_row n e w s < n
  pub sorted : (s : ℕ) → suc s < n → walked_before (ruled_at w (walk_row n e w s)) (ruled_at w (walk_row n e w (suc s))) ≡ true
  pub each : (k : ℕ) → k < n → (s : ℕ) × (s < n) × (walk_row n e w s ≡ k)

-- the loop list of the pairs and rules that the first n rows say
abbrev pub loops_of : ℕ → List ℕ → List Pair
loops_of n w = loop_list (rules n w) (pairs n w)

-- pair i of a list; past its end, the boundary with character 0
abbrev pub nth_pair : List Pair → ℕ → Pair
nth_pair ps i = get_or ps i (record { left = bnd; right = 0 })

-- the rows that are listed stand in number 8 of the first r rows
pub record Listed (n : ℕ) (w w' : List ℕ) (r : ℕ) : Type 0 where
  pub same_length : length w' ≡ length w
  pub rows : (k f : ℕ) → k < n → f < 16 → (f ≡ 8 → ⊥) → (f ≡ 14 → ⊥) → at w' k f ≡ at w k f
  pub count : r ≡ length (loops_of n w)
  pub few : r ≤ n
  pub listed : (i : ℕ) → i < r → (at w' i 8 < n) × (pair_at w (at w' i 8) ≡ nth_pair (loops_of n w) i)
