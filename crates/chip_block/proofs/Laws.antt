-- The interrupt by its tests, and a block in which the status, the count and the item were stored.
-- Assumes nothing.
use mathlib.Core.Path.{◌≡◌, refl, ap, ◌∙◌}
use mathlib.Core.Bool.{Bool, true, false, not}
use mathlib.Core.List.{List, [], ◌∷◌, ◌++◌}
use Prim.Native.Nat.{ℕ, ◌/◌, ◌%◌, ◌≤◌}
use native.Mathlib.Omega.{arith}
use lib.Dec.{eqb}
use lib.ListN.{length, get_or, set, take, drop, length-set}
use lib.Seq.{sets, sets-eq, length-sets}
use borrow.Author.Tests.{eq-eqb}
use Rattle.lang.specs.Every.{both}
use Rattle.chips.specs.Blocks.{weighed, high_first}

-- ---- the status

-- an item is not ready, or the mask hides it
pub none_ready : (mask : ℕ) {ready : Bool} → ready ≡ false → both ready (not (eqb (mask % 2) 1)) ≡ false
none_ready mask e = rw e

pub ready_hidden : (mask : ℕ) (ready : Bool) → mask % 2 ≡ 1 → both ready (not (eqb (mask % 2) 1)) ≡ false
ready_hidden mask true h = rw (eq-eqb (mask % 2) 1 h)
ready_hidden mask false h = refl

pub weight_few : (b : Bool) (n : ℕ) → weighed b n ≤ n
weight_few true n = omega arith
weight_few false n = omega arith

-- ---- the block

pub stored : (l : List ℕ) (s n : ℕ) (item : List ℕ) → 16 ≤ length l → length item ≡ 8 →
    sets (sets (set l 2 s) 4 (high_first n)) 8 item ≡ take 2 l ++ (s ∷ get_or l 3 0 ∷ high_first n) ++ item ++ drop 16 l
stored [] s n item h eight = absurd (omega (arith, h))
stored (a ∷ []) s n item h eight = absurd (omega (arith, h))
stored (a ∷ b ∷ []) s n item h eight = absurd (omega (arith, h))
stored (a ∷ b ∷ c ∷ []) s n item h eight = absurd (omega (arith, h))
stored (a ∷ b ∷ c ∷ d ∷ []) s n item h eight = absurd (omega (arith, h))
stored (a ∷ b ∷ c ∷ d ∷ e ∷ []) s n item h eight = absurd (omega (arith, h))
stored (a ∷ b ∷ c ∷ d ∷ e ∷ f ∷ []) s n item h eight = absurd (omega (arith, h))
stored (a ∷ b ∷ c ∷ d ∷ e ∷ f ∷ g ∷ []) s n item h eight = absurd (omega (arith, h))
stored (a ∷ b ∷ c ∷ d ∷ e ∷ f ∷ g ∷ i ∷ r) s n item h eight =
    sets-eq item (a ∷ b ∷ s ∷ d ∷ n / 16777216 % 256 ∷ n / 65536 % 256 ∷ n / 256 % 256 ∷ n % 256 ∷ r) 8 (omega (arith, h, eight)) ∙ rw eight

-- stores keep the length
pub kept_length : (l d e : List ℕ) (s : ℕ) (vs ws : List ℕ) → d ≡ sets (set l 2 s) 4 vs → e ≡ sets d 8 ws → length e ≡ length l
kept_length l d e s vs ws f g = ap length g ∙ length-sets d 8 ws ∙ ap length f ∙ length-sets (set l 2 s) 4 vs ∙ length-set l 2 s
