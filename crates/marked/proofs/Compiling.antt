-- What compiling gives of fonts whose entries are of one left. A font has 65,792 pairs to ask for a rule; here the lefts without an entry are passed over by a
-- law. Assumes nothing.
use mathlib.Core.Path.{◌≡◌, refl, sym, ap, ◌∙◌}
use mathlib.Core.Bool.{Bool, true, false, cond}
use mathlib.Core.List.{List, [], ◌∷◌, ◌++◌, append-nil}
use mathlib.Core.Logic.{◌⊎◌, inl, inr, ⊎_map}
use Prim.Native.Nat.{ℕ, zero, suc, ◌<◌, ◌≤◌}
use native.Mathlib.Nat.{eq-or-lt_of_le, le_of_suc-le-suc}
use native.Mathlib.Omega.{arith}
use lib.IntN.{ℤ, pos, negsuc}
use lib.Dec.{eqb}
use borrow.Author.Tests.{eqb-true}
use Rattle.tfm.specs.Scaled.{to_scaled, halve}
use Rattle.lang.specs.Operations.{from_bytes, ligature}
use Rattle.lang.specs.Entries.{entered, entries_table}
use Rattle.lang.specs.Every.{every}
use Rattle.lang.proofs.Every.{every_at}
use Rattle.program_chain.specs.Chains.{chain_from, first_for}
use Rattle.reading.specs.Items.{Left, chr}
use Rattle.reading.specs.Reading.{read, reading}
use Rattle.reading.specs.Depth.{comp}
use Rattle.reading.specs.Loops.{Ruled, loop_list, insert, ordered, unfinished, walk, walks, member}
use Rattle.fonts.specs.Fonts.{Font, left_of, left_entry_of, row_pairs, left_pairs, pairs_of, table_of}
use Rattle.fonts.specs.Numbers.{loop_numbers, ops_before, op_numbers, ops_table, pair_table}
use Rattle.fonts.specs.Compiled.{all_scale, room_of, compile_refusal, font_counts}
use Rattle.lang.specs.Answers.{reply_of}
use Rattle.marked.specs.Rows.{one_rule, example_font, reply_numbers, loop_row, accepted_row, table_row, ops_row, word_row}

abbrev is_absent : ℤ → Bool
is_absent (pos e) = false
is_absent (negsuc n) = true

-- a left without an entry has no pairs
row_none : (program table : List ℤ) (l : Left) (e : ℤ) (n : ℕ) → left_entry_of table l ≡ e → is_absent e ≡ true → row_pairs program table l n ≡ []
unfolding row_pairs
row_none program table l (pos e) n h a = absurd (let z : ◌≡◌ {A = ℕ} 0 1 = cc in omega arith)
row_none program table l (negsuc e) zero h a = refl
row_none program table l (negsuc e) (suc n) h a = rw (h, row_none program table l (negsuc e) n h a) refl

-- left k has no entry, unless it is left u
abbrev only : Font → ℕ → ℕ → Bool
only f u k = cond (eqb k u) true (is_absent (left_entry_of (table_of f) (left_of k)))

only_by : (f : Font) (u k : ℕ) (b : Bool) → eqb k u ≡ b → (k ≡ u → ⊥) → cond b true (is_absent (left_entry_of (table_of f) (left_of k))) ≡ true →
    is_absent (left_entry_of (table_of f) (left_of k)) ≡ true
only_by f u k true e h a = absurd (h (eqb-true k u e))
only_by f u k false e h a = a

-- where every left but u is without an entry, the font's pairs are those of u
module _ (f : Font) (u : ℕ) (all-only : every 257 (only f u) ≡ true) where
  abbrev own : List Ruled
  own = row_pairs f.instructions (table_of f) (left_of u) 256

  left_none : (k : ℕ) → k < 257 → (k ≡ u → ⊥) → row_pairs f.instructions (table_of f) (left_of k) 256 ≡ []
  left_none k l h =
      row_none f.instructions (table_of f) (left_of k) (left_entry_of (table_of f) (left_of k)) 256 refl
      (only_by f u k (eqb k u) refl h (every_at 257 k (only f u) all-only l))

  before : (k : ℕ) → k ≤ u → k ≤ 257 → left_pairs f.instructions (table_of f) k ≡ []
  unfolding left_pairs
  before zero h l = refl
  before (suc k) h l = rw (before k (omega arith) (omega arith), left_none k (omega arith) (λ e. omega (arith, e))) refl

  after_by : (k : ℕ) → k < 257 → (k ≡ u) ⊎ (u < k) → (u < k → left_pairs f.instructions (table_of f) k ≡ own) →
      left_pairs f.instructions (table_of f) k ++ row_pairs f.instructions (table_of f) (left_of k) 256 ≡ own
  after_by k l (inl e) ih = rw (e, before u (omega arith) (omega (arith, e))) refl
  after_by k l (inr h) ih = rw (ih h, left_none k l (λ e. omega (arith, e))) (append-nil own)

  after : (k : ℕ) → u < k → k ≤ 257 → left_pairs f.instructions (table_of f) k ≡ own
  unfolding left_pairs
  after zero h l = absurd (omega arith)
  after (suc k) h l = after_by k (omega arith) (⊎_map sym (λ (j : u < k). j) (eq-or-lt_of_le (le_of_suc-le-suc h))) (λ j. after k j (omega arith))

  pub pairs_own : u < 257 → pairs_of f ≡ own
  pairs_own h = after 257 h (omega arith)

-- ---- the font of one rule: left 66 is character 65

rule_only : every 257 (only one_rule 66) ≡ true
unfolding every entered entries_table
rule_only = refl

rule_pairs : pairs_of one_rule ≡ record { pair = record { left = chr 65; right = 66 }; index = 0 } ∷ []
unfolding row_pairs entered entries_table chain_from first_for from_bytes ligature
rule_pairs = pairs_own one_rule 66 rule_only (omega arith)

pub one_loop : loop_row.given ≡ loop_row.said
unfolding loop_numbers loop_list entered entries_table chain_from first_for from_bytes ligature comp insert ordered unfinished walk walks member
one_loop = rw rule_pairs refl

-- ---- the example of R275: left 103 is character 102

example_only : every 257 (only example_font 103) ≡ true
unfolding every entered entries_table
example_only = refl

example_pairs : pairs_of example_font
    ≡ record { pair = record { left = chr 102; right = 33 }; index = 1 } ∷ record { pair = record { left = chr 102; right = 105 }; index = 0 } ∷ []
unfolding row_pairs entered entries_table chain_from first_for from_bytes ligature
example_pairs = pairs_own example_font 103 example_only (omega arith)

-- its kern is scaled, so that no number refuses it
example_scales : all_scale example_font ≡ true
unfolding every to_scaled from_bytes ligature
example_scales = rw (example_pairs, example_pairs) refl

example_accepted : compile_refusal example_font (room_of 12 8 0 32) ≡ 0
unfolding every loop_list entered entries_table chain_from first_for to_scaled from_bytes ligature comp insert ordered unfinished walks ops_before
example_accepted = rw (example_scales, example_pairs) refl

pub accepted : accepted_row.given ≡ accepted_row.said
unfolding loop_list entered entries_table chain_from first_for to_scaled from_bytes ligature comp insert ordered unfinished walks ops_before pair_table
accepted = ap (λ (n : ℕ). reply_numbers (reply_of n (font_counts example_font))) example_accepted ∙ rw example_pairs refl

pub table : table_row.given ≡ table_row.said
unfolding entered entries_table chain_from first_for to_scaled from_bytes ligature comp ops_before pair_table
table = rw example_pairs refl

pub ops : ops_row.given ≡ ops_row.said
unfolding entered entries_table chain_from first_for to_scaled halve from_bytes ligature comp op_numbers ops_table
ops = rw example_pairs refl

pub word : word_row.given ≡ word_row.said
unfolding entered entries_table chain_from first_for from_bytes ligature read reading op_numbers
word = refl
