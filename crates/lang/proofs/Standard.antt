-- Which op bytes below 128 are standard, as a list, and what any other acts as: TeX 545 and TFtoPL 77 in a form to read. Assumes nothing.
use mathlib.Core.Path.{◌≡◌, refl}
use mathlib.Core.Bool.{true, false}
use mathlib.Core.List.{List, [], ◌∷◌}
use Prim.Native.Nat.{ℕ, ◌+◌, ◌-◌, ◌*◌, ◌<◌, ◌≤◌}
use borrow.Author.Tests.{lt-ltb, le-ltb, le-leb, lt-leb}
use Rattle.words.specs.Lists.{tabulate}
use Rattle.lang.specs.declared.operation.PostLigOperation.TheVariants.{RetainNeitherMoveToInserted}
use Rattle.lang.specs.declared.operation.Operation.TheVariants.{KernAtIndex}
use Rattle.lang.specs.Operations.{advance, keeps_left, keeps_right, is_standard, retains, lig, ligature, from_bytes}
use Rattle.lang.proofs.Table.{agree_below}
use Rattle.lang.proofs.Arms.{one_of}

abbrev pub eight : List ℕ
eight = 0 ∷ 1 ∷ 2 ∷ 3 ∷ 5 ∷ 6 ∷ 7 ∷ 11 ∷ []

-- the standard op bytes are these eight: the rule a ≤ b + c, computed at each of the 128
pub standard_eight : (op : ℕ) → op < 128 → is_standard op ≡ one_of op (0 ∷ 1 ∷ 2 ∷ 3 ∷ 5 ∷ 6 ∷ 7 ∷ 11 ∷ [])
unfolding tabulate
standard_eight op h = agree_below is_standard (λ (k : ℕ). one_of k eight) 128 refl op h

-- any other op byte below 128 acts as 0, LIG, and is marked
pub nonstandard_as_zero : (op c : ℕ) → op < 128 → is_standard op ≡ false → from_bytes op c ≡ lig RetainNeitherMoveToInserted c true
unfolding from_bytes ligature
nonstandard_as_zero op c h s = rw (lt-ltb op 128 h, s)

-- an op byte whose advance is at most what is retained is standard
pub within_retained : (op c : ℕ) → advance op ≤ keeps_left op + keeps_right op →
    ligature op c ≡ lig (retains (keeps_left op) (keeps_right op) (advance op)) c false
unfolding ligature
within_retained op c h = rw (le-leb (advance op) (keeps_left op + keeps_right op) h)

-- one whose advance is more is LIG, marked
pub beyond_retained : (op c : ℕ) → keeps_left op + keeps_right op < advance op → ligature op c ≡ lig RetainNeitherMoveToInserted c true
unfolding ligature
beyond_retained op c h = rw (lt-leb (advance op) (keeps_left op + keeps_right op) h)

-- below 128 the op byte is a ligature's
pub below_128 : (op c : ℕ) → op < 128 → from_bytes op c ≡ ligature op c
unfolding from_bytes
below_128 op c h = rw (lt-ltb op 128 h)

-- from 128 on the two bytes are a kern index
pub kern_index : (op c : ℕ) → 128 ≤ op → from_bytes op c ≡ KernAtIndex (256 * (op - 128) + c)
unfolding from_bytes
kern_index op c h = rw (le-ltb op 128 h)
