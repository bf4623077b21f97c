-- Left after left, from none: the rows are those of the lefts passed, the boundary's first.
-- Assumes nothing.
use mathlib.Core.Path.{◌≡◌, refl}
use mathlib.Core.List.{List}
use Prim.Native.Nat.{ℕ, zero, suc, ◌*◌, ◌<◌, ◌≤◌}
use native.Mathlib.Omega.{arith}
use lib.IntN.{ℤ}
use lib.ListN.{length, replicate}
use Rattle.lang.specs.Records.{count}
use Rattle.compiling.specs.PairRows.{Collects}
use Rattle.compiling.specs.PairSteps.{Adding}
use Rattle.compiling.proofs.PairRowLaws.{Gathering, adding_first, adding, gathering_all}
use Rattle.compile_collect.specs.Collecting.{edge_by}

-- the first t lefts are done: none yet, or some, of whose rows the boundary's are e
abbrev pub Lefts : List ℤ → List ℤ → ℕ → ℕ → List ℕ → List ℕ → ℕ → ℕ → Type 0
Lefts s table cap e w₀ w zero n = (n ≡ 0) × (w ≡ w₀)
Lefts s table cap e w₀ w (suc t) n = Gathering s table cap e w₀ w (suc t) n

pub edge_first : (t n e : ℕ) → t ≡ 0 → n ≡ edge_by t n e
edge_first zero n e h = refl
edge_first (suc t) n e h = absurd (omega arith)

pub edge_later : (t n e : ℕ) → (t ≡ 0 → ⊥) → e ≡ edge_by t n e
edge_later zero n e h = absurd (h refl)
edge_later (suc t) n e h = refl

module _ (s table : List ℤ) (cap : ℕ) (w₀ : List ℕ) where
  pub lefts_adding : (e t n : ℕ) (w : List ℕ) → Lefts s table cap e w₀ w t n → count s ≤ 32767 → 16 * cap ≤ length w₀ → w₀ ≡ replicate (length w₀) 0 → t < 257 →
      Adding s table t n cap w
  lefts_adding e zero n w h short room z l = rw (h.0, h.1) (adding_first s table cap w₀ short room z)
  lefts_adding e (suc t) n w h short room z l = adding s table cap e w₀ w (suc t) n h short room l

  pub lefts_all : (e t n : ℕ) (w : List ℕ) → Lefts s table cap e w₀ w t n → 257 ≤ t → (n ≤ cap) × Collects s table w₀ w n e
  lefts_all e zero n w h l = absurd (omega arith)
  lefts_all e (suc t) n w h l = (h.fits, gathering_all s table cap e w₀ w (suc t) n h w₀ refl l)
