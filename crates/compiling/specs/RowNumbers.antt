-- The sixteen numbers of every row as the first stage of compiling leaves them, row after row: a pair, its rule's index, what its rule
-- does, and the order of its left's rows. Rows.antt says what each number is for; those that later passes write are 0.
use Rattle.std.specs.Prelude.{Bool, true, false, cond, List, [], ◌∷◌, ◌++◌, ℕ, zero, suc, ◌+◌, ◌-◌, ℤ, ltb, length, replicate, Result, Ok, Err}
use Rattle.words.specs.Words.{word_of}
use Rattle.tfm.specs.declared.ScalingError.{ScalingError}
use Rattle.tfm.specs.Scaled.{to_scaled}
use Rattle.lang.specs.declared.operation.Operation.{Operation}
use Rattle.lang.specs.declared.operation.Operation.TheVariants.{Kern, KernAtIndex, Ligature, EntrypointRedirect}
pub use Rattle.lang.specs.Operations.{byte_of_operation}
use Rattle.lang.specs.Records.{instruction_at}
use Rattle.program_chain.specs.Chains.{acts_as}
use Rattle.reading.specs.Items.{Left, bnd, chr}
use Rattle.reading.specs.Depth.{Pair}
use Rattle.reading.specs.Loops.{Ruled, same_pair, ordered}
use Rattle.fonts.specs.Fonts.{Font, number_of_left, pairs_of}
use Rattle.fonts.specs.Numbers.{nth}
use Rattle.compiling.specs.declared.Effect.{Effect}

-- ---- what a rule does: numbers 3 and 4

-- numbers 3 and 4 of a row, and whether its rule's kern scales
abbrev pub effect : ℕ → ℕ → Bool → Effect
effect op value scaled = record { op = op; value = value; scaled = scaled }

-- 128 and the bits of a kern's scaled value; 0 where it does not scale
abbrev pub kern_effect : Result ℤ ScalingError → Effect
kern_effect (Ok v) = effect 128 (word_of v) true
kern_effect (Err e) = effect 128 0 false

-- an op byte and the inserted character; a rule is no kern index and no redirect
abbrev pub effect_of : ℤ → Operation → Effect
effect_of design (Kern k) = kern_effect (to_scaled k.0 design)
effect_of design (KernAtIndex i) = effect 128 0 false
effect_of design (Ligature c p t) = effect (byte_of_operation p) c.0 true
effect_of design (EntrypointRedirect t g) = effect 128 0 false

-- ---- the order of a left's rows: number 15

-- one more than n where a left is the boundary
abbrev pub boundary_more : Left → ℕ → ℕ
boundary_more bnd n = suc n
boundary_more (chr c) n = n

-- how many of the pairs are the boundary's
unfoldable pub boundary_pairs : List Ruled → ℕ
boundary_pairs [] = 0
boundary_pairs (p ∷ ps) = boundary_more p.pair.left (boundary_pairs ps)

-- the first place of a pair
unfoldable pub pair_place : Pair → List Ruled → ℕ
pair_place p [] = 0
pair_place p (q ∷ qs) = cond (same_pair p q.pair) 0 (suc (pair_place p qs))

-- the walk whose start row k gives, of n rows of which the first e are the boundary's: those come last (LoopRows.walk_place goes back)
abbrev pub walk_of : ℕ → ℕ → ℕ → ℕ
walk_of n e k = cond (ltb k e) (n - e + k) (k - e)

-- the row of the pair that this walk starts from: walks go by left, then by rule index; rows by left, then by right character
unfoldable pub turn_of : List Ruled → ℕ → ℕ
turn_of ps k = pair_place (nth (ordered ps) (walk_of (length ps) (boundary_pairs ps) k)).pair ps

-- ---- rows

-- row k of these pairs, with numbers 3 and 4
abbrev pub sixteen_numbers : List Ruled → ℕ → ℕ → ℕ → List ℕ
sixteen_numbers ps k op value =
    number_of_left (nth ps k).pair.left ∷ (nth ps k).pair.right ∷ (nth ps k).index ∷ op ∷ value ∷ (replicate 10 0 ++ (turn_of ps k ∷ []))

-- the first n rows, one after the other
unfoldable pub in_rows : (ℕ → List ℕ) → ℕ → List ℕ
in_rows row zero = []
in_rows row (suc n) = in_rows row n ++ row n

-- the pairs as they are collected
abbrev pub pair_row_numbers : List Ruled → List ℕ
pair_row_numbers ps = in_rows (λ k. sixteen_numbers ps k 0 0) (length ps)

-- what the rule of a font's pair k does
abbrev pub pair_effect : Font → ℕ → Effect
pair_effect f k = effect_of f.design (acts_as f.kerns (instruction_at f.instructions (nth (pairs_of f) k).index).operation)

-- the pairs of a font with what their rules do
abbrev pub font_row_numbers : Font → List ℕ
font_row_numbers f = in_rows (λ k. sixteen_numbers (pairs_of f) k (pair_effect f k).op (pair_effect f k).value) (length (pairs_of f))
