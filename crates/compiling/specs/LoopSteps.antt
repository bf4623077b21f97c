-- Walks over the rows step by step, as crate `compile_loops` takes them (R88, R89).
use Rattle.std.specs.Prelude.{◌≡◌, List, ℕ, ◌+◌, ◌*◌, ◌<◌, ◌≤◌, length, set}
use Rattle.compiling.specs.Rows.{at}

-- Rows that can be walked over: what never finishes waits for a row that never finishes.
pub record Walkable (n : ℕ) (w : List ℕ) : Type 0 where
  pub room : 16 * n ≤ length w
  pub few : n ≤ 65792
  pub onward : (k : ℕ) → k < n → at w k 5 ≡ 3 → (at w k 9 < n) × (at w (at w k 9) 5 ≡ 3)

-- A walk from row k over the rows w: each row without a mark gets the mark id, and the row that it waits for is next; a row r with a mark
-- ends the walk, and leaves the rows w'.
pub data Walk (id : ℕ) : List ℕ → ℕ → List ℕ → ℕ → Type 0 where
  stops : {w : List ℕ} {k : ℕ} → (at w k 14 ≡ 0 → ⊥) → Walk id w k w k
  goes : {w w' : List ℕ} {k r : ℕ} → at w k 14 ≡ 0 → Walk id (set w (16 * k + 14) id) (at w k 9) w' r → Walk id w k w' r

-- A turn at row k, with r rows listed before it and r' after it: no walk from a row that finishes; a walk that ends at a row of its own
-- lists that row.
pub data WalkTaken (id : ℕ) (w : List ℕ) (k r : ℕ) (w' : List ℕ) (r' : ℕ) : Type 0 where
  finishes : (at w k 5 ≡ 3 → ⊥) → w' ≡ w → r' ≡ r → WalkTaken id w k r w' r'
  meets_own : {u : List ℕ} {l : ℕ} → at w k 5 ≡ 3 → Walk id w k u l → at u l 14 ≡ id → w' ≡ set u (16 * r + 8) l → r' ≡ r + 1 →
      WalkTaken id w k r w' r'
  meets_earlier : {u : List ℕ} {l : ℕ} → at w k 5 ≡ 3 → Walk id w k u l → (at u l 14 ≡ id → ⊥) → w' ≡ u → r' ≡ r → WalkTaken id w k r w' r'

-- The first r rows list rows that hold a pair of characters.
pub record Listing (r : ℕ) (w : List ℕ) : Type 0 where
  pub row : (i : ℕ) → i < r → at w i 8 < 65792
  pub left : (i : ℕ) → i < r → at w (at w i 8) 0 < 257
  pub right : (i : ℕ) → i < r → at w (at w i 8) 1 < 256
