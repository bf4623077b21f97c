-- A font as it is lent (R90), its rules (R55, R58 to R61), and the pairs that have one (R80).
use Rattle.std.specs.Prelude.{cond, List, [], ◌∷◌, ◌++◌, ℕ, zero, suc, ℤ, pos, negsuc, ltb, get_or, Result, Ok, Err}
use Rattle.std.proofs.Math.Option.{Option, none, some}
use Rattle.tfm.specs.declared.ScalingError.{ScalingError}
use Rattle.tfm.specs.Scaled.{to_scaled}
use Rattle.lang.specs.declared.operation.Operation.{Operation}
use Rattle.lang.specs.declared.operation.Operation.TheVariants.{Kern, KernAtIndex, Ligature, EntrypointRedirect}
use Rattle.lang.specs.Records.{instruction_at}
use Rattle.lang.specs.Entries.{entries_table}
use Rattle.program_chain.specs.Chains.{rule_index_of, acts_as}
use Rattle.reading.specs.Items.{Left, bnd, chr, Rule, free, kerned, lig, Rules}
use Rattle.reading.specs.Loops.{Ruled}

-- A font as it is lent: four numbers an instruction, two an entry. A boundary character and a left entry of -1 are absent (R35 to R37).
pub record Font : Type 0 where
  pub instructions : List ℤ
  pub kerns : List ℤ
  pub entries : List ℤ
  pub boundary : ℤ
  pub left : ℤ
  pub design : ℤ

-- the font of the lists that are lent
abbrev pub font_of : List ℤ → List ℤ → List ℤ → ℤ → ℤ → ℤ → Font
font_of instructions kerns entries boundary left design =
    record { instructions = instructions; kerns = kerns; entries = entries; boundary = boundary; left = left; design = design }

-- ---- lefts, by their place: 0 is the boundary, and 1 + c the character c

-- the left at a place
abbrev pub left_of : ℕ → Left
left_of zero = bnd
left_of (suc c) = chr c

-- the place of a left
abbrev pub number_of_left : Left → ℕ
number_of_left bnd = 0
number_of_left (chr c) = suc c

-- ---- which instruction is a pair's rule

-- the entry of a left (R55): the table's place of a character below 256, or place 256 for the boundary
abbrev pub left_entry_of : List ℤ → Left → ℤ
left_entry_of table bnd = get_or table 256 (negsuc 0)
left_entry_of table (chr c) = cond (ltb c 256) (get_or table c (negsuc 0)) (negsuc 0)

-- the index of the rule of right character r on the chain from an entry; none where the entry is absent, -1
abbrev pub rule_from : List ℤ → ℤ → ℕ → Option ℕ
rule_from s (negsuc n) r = none
rule_from s (pos e) r = rule_index_of s e r

-- the index of the instruction that is the rule of a pair, over the instructions and the table of entries
abbrev pub index_of : List ℤ → List ℤ → Left → ℕ → Option ℕ
index_of s table l r = rule_from s (left_entry_of table l) r

-- ---- the pairs that have a rule, ascending, the boundary first (R80)

-- a pair and its rule's index, where it has a rule; else no pair
abbrev pub ruled_by : Left → ℕ → Option ℕ → List Ruled
ruled_by l r none = []
ruled_by l r (some i) = record { pair = record { left = l; right = r }; index = i } ∷ []

-- of one left, with right characters below n
unfoldable pub row_pairs : List ℤ → List ℤ → Left → ℕ → List Ruled
row_pairs s table l zero = []
row_pairs s table l (suc r) = row_pairs s table l r ++ ruled_by l r (index_of s table l r)

-- of the first t lefts
unfoldable pub left_pairs : List ℤ → List ℤ → ℕ → List Ruled
left_pairs s table zero = []
left_pairs s table (suc t) = left_pairs s table t ++ row_pairs s table (left_of t) 256

-- of all 257 lefts
abbrev pub pairs_by : List ℤ → List ℤ → List Ruled
pairs_by s table = left_pairs s table 257

-- the table of 257 entries: the characters', and at 256 the left boundary's
abbrev pub table_of : Font → List ℤ
table_of f = entries_table f.entries f.left

-- the pairs of a font that have a rule
abbrev pub pairs_of : Font → List Ruled
pairs_of f = pairs_by f.instructions (table_of f)

-- ---- what it does

-- a kern that cannot be scaled is 13 in compiling (R242); where only the loops are asked for (R183) it is a kern like any other, of zero
abbrev pub scaled_kern : Result ℤ ScalingError → Rule
scaled_kern (Ok v) = kerned v
scaled_kern (Err e) = kerned (pos 0)

-- what an operation does, a kern scaled at the design size; a kern index and a redirect, which `actsAs` never leaves, do nothing
abbrev pub rule_of_operation : ℤ → Operation → Rule
rule_of_operation design (Kern k) = scaled_kern (to_scaled k.0 design)
rule_of_operation design (KernAtIndex i) = free
rule_of_operation design (Ligature c p t) = lig p c.0
rule_of_operation design (EntrypointRedirect t g) = free

-- what the instruction at an index does; a pair without one is free
abbrev pub rule_of_index : Font → Option ℕ → Rule
rule_of_index f none = free
rule_of_index f (some i) = rule_of_operation f.design (acts_as f.kerns (instruction_at f.instructions i).operation)

-- THE rules of a font: the reading is over them
abbrev pub rules_of : Font → Rules
rules_of f l r = rule_of_index f (index_of f.instructions (table_of f) l r)
