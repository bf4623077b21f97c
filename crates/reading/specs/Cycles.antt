-- One pair for every cycle (R83): what the loop list is, said of cycles. Each pair that never ends is followed to the one that it waits
-- for. The theorem is `one-per-cycle` of proofs/Theorems.
use Rattle.std.specs.Prelude.{◌≡◌, ℕ, zero, suc}
use mathlib.Core.List.{List, [], ◌∷◌, Memᴰ}
use Rattle.reading.specs.Items.{Left, free, Rules}
use Rattle.reading.specs.Reading.{NeverEnds}
use Rattle.reading.specs.Depth.{Pair}
use Rattle.reading.specs.Loops.{Ruled, finished, waits, loop_list}

-- the pair that is met after following n times
unfoldable pub followed : (Pair → Pair) → ℕ → Pair → Pair
followed next zero p = p
followed next (suc n) p = followed next n (next p)

-- q is met from p
pub record Meets (next : Pair → Pair) (p q : Pair) : Type 0 where
  pub times : ℕ
  pub met : followed next times p ≡ q

-- p comes back to itself: it is on a cycle
pub record OnCycle (next : Pair → Pair) (p : Pair) : Type 0 where
  pub times : ℕ
  pub back : followed next (suc times) p ≡ p

-- no pair of a list is met from one before it: no two of them that are on cycles are on one cycle
pub data OnCyclesApart (next : Pair → Pair) : List Pair → Type 0 where
  none : OnCyclesApart next []
  one : {p : Pair} {ps : List Pair} → ((q : Pair) → Memᴰ q ps → Meets next p q → ⊥) → OnCyclesApart next ps →
      OnCyclesApart next (p ∷ ps)

-- A list has one pair of each cycle of pairs that never end, and nothing else: each of its pairs never ends and is on a cycle; no two are
-- on one cycle; and from every pair that never ends and is on a cycle one of the list is met, which is then on that cycle.
pub record CyclesListed (rule : Rules) (next : Pair → Pair) (listed : List Pair) : Type 0 where
  pub comes_back : (p : Pair) → Memᴰ p listed → NeverEnds rule p.left p.right × OnCycle next p
  pub one_each : OnCyclesApart next listed
  pub all_listed : (p : Pair) → NeverEnds rule p.left p.right → OnCycle next p → (q : Pair) × Memᴰ q listed × Meets next p q

-- the pairs that have a rule are among ps
pub record Covers (rule : Rules) (ps : List Ruled) : Type 0 where
  pub covers : (l : Left) (r : ℕ) → (rule l r ≡ free → ⊥) →
      (i : ℕ) × Memᴰ (record { pair = record { left = l; right = r }; index = i }) ps

-- R83, whole: whatever the rules, and whatever the pairs that are given to compiling, if all that have a rule are among them, then the loop
-- list has one pair of each cycle of pairs that never end, each followed to the one that it waits for
abbrev pub OnePerCycle : Type 0
OnePerCycle = (rule : Rules) (ps : List Ruled) → Covers rule ps → CyclesListed rule (waits rule (finished rule ps)) (loop_list rule ps)
