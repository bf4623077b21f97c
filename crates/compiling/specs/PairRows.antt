-- What the first two passes leave in the rows: the pairs that have a rule, in ascending order, and what their rules do.
use Rattle.std.specs.Prelude.{◌≡◌, Bool, true, List, ℕ, ◌<◌, ◌≤◌, ℤ, length}
use Rattle.lang.specs.declared.operation.Operation.{Operation}
use Rattle.lang.specs.Every.{every}
use Rattle.lang.specs.Records.{instruction_at}
use Rattle.program_chain.specs.Chains.{acts_as}
use Rattle.compiling.specs.declared.Collected.{Collected}
use Rattle.compiling.specs.declared.Effect.{Effect}
use Rattle.compiling.specs.declared.Collected.TheVariants.{Rows, Refused}
use Rattle.compiling.specs.Rows.{at, ruled_at, rule_at, rule_fits, Ascending}
use Rattle.compiling.specs.LoopRows.{WalkOrder}
use Rattle.compiling.specs.RowNumbers.{effect_of}
use Rattle.fonts.specs.Fonts.{pairs_by, rule_of_operation}
use Rattle.fonts.specs.Numbers.{nth}
use Rattle.fonts.specs.Compiled.{scales}

-- n rows, of which e are the boundary's: each is its pair, every number but 0, 1, 2 and 15 is 0, and so is what follows the rows
pub record Collects (s table : List ℤ) (w w' : List ℕ) (n e : ℕ) : Type 0 where
  pub same_length : length w' ≡ length w
  pub all : n ≡ length (pairs_by s table)
  pub ascending : Ascending n w'
  pub pair : (k : ℕ) → k < n → ruled_at w' k ≡ nth (pairs_by s table) k
  pub turns : WalkOrder n e w'
  pub rest : (k f : ℕ) → k < n → 2 < f → f < 15 → at w' k f ≡ 0
  pub after : (k f : ℕ) → n ≤ k → f < 16 → at w' k f ≡ 0

-- by the answer: the rows, or 12, since there are more pairs than the cap
abbrev pub CollectsBy : List ℤ → List ℤ → ℕ → List ℕ → List ℕ → Collected → Type 0
CollectsBy s table cap w w' (Rows n e) = (n ≤ cap) × Collects s table w w' n e
CollectsBy s table cap w w' (Refused k) = (k ≡ 12) × (cap < length (pairs_by s table))

-- the operation of row k, over the font's kerns
abbrev pub operation_at : List ℤ → List ℤ → List ℕ → ℕ → Operation
operation_at s kerns w k = acts_as kerns (instruction_at s (at w k 2)).operation

-- every kern that is the rule of one of the first n rows scales
abbrev pub rows_scale : List ℤ → List ℤ → ℤ → List ℕ → ℕ → Bool
rows_scale s kerns design w n = every n (λ k. scales design (operation_at s kerns w k))

-- what the rule of row k does
abbrev pub effect_at : List ℤ → List ℤ → ℤ → List ℕ → ℕ → Effect
effect_at s kerns design w k = effect_of design (operation_at s kerns w k)

-- numbers 3 and 4 of each row say its rule, and nothing else has changed
pub record Writes (s kerns : List ℤ) (design : ℤ) (n : ℕ) (w w' : List ℕ) : Type 0 where
  pub same_length : length w' ≡ length w
  pub same : (k f : ℕ) → f < 16 → (f ≡ 3 → ⊥) → (f ≡ 4 → ⊥) → at w' k f ≡ at w k f
  pub after : (k f : ℕ) → n ≤ k → f < 16 → at w' k f ≡ at w k f
  pub op : (k : ℕ) → k < n → at w' k 3 ≡ (effect_at s kerns design w k).op
  pub value : (k : ℕ) → k < n → at w' k 4 ≡ (effect_at s kerns design w k).value
  pub rules : (k : ℕ) → k < n → rule_at w' k ≡ rule_of_operation design (operation_at s kerns w k)
  pub ops : (k : ℕ) → k < n → rule_fits (at w' k 3) (at w' k 4) ≡ true

-- the contract of encode: whether every kern that is a rule scales, and the rules as they are written
pub record Encodes (s kerns : List ℤ) (design : ℤ) (n : ℕ) (w w' : List ℕ) (r : Bool) : Type 0 where
  pub answer : r ≡ rows_scale s kerns design w n
  pub written : Writes s kerns design n w w'
