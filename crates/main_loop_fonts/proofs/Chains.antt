-- The search is the chain of the lent program, and what it finds is the rule.
-- Assumes nothing.
use mathlib.Core.Path.{◌≡◌, refl, sym, ap, ◌∙◌}
use mathlib.Core.Bool.{Bool, true, false, cond, not}
use mathlib.Core.List.{List, [], ◌∷◌}
use mathlib.Core.Option.{Option, none, some}
use Prim.Native.Nat.{ℕ, zero, suc, ◌+◌, ◌-◌, ◌*◌, ◌<◌, ◌≤◌}
use native.Mathlib.Omega.{arith}
use lib.IntN.{ℤ, pos, negsuc}
use lib.Dec.{leb, ltb, eqb}
use lib.ListN.{length, get_or}
use borrow.Author.Tests.{lt-ltb, leb-true, leb-false, le-leb, lt-leb}
use Rattle.words.proofs.Lists.{get_d_tabulate}
use Rattle.tfm.specs.Scaled.{to_scaled}
use Rattle.lang.specs.Every.{both}
use Rattle.lang.specs.Records.{count, instruction_at}
use Rattle.lang.proofs.Every.{both_left}
use Rattle.program_chain.specs.Chains.{Program, onward_from, chain_from, first_for, is_rule_for, acts_as, rule_index_of}
use Rattle.program_chain.proofs.Walks.{chain_past}
use Rattle.reading.specs.Items.{Rule, free, lig}
use Rattle.fonts.specs.Fonts.{scaled_kern, rule_of_operation, rule_of_index}
use Rattle.files.specs.Lengths.{lengths_of, kern_start}
use Rattle.files.specs.Commands.{kern_number}
use Rattle.files.specs.Reading.{file_instructions, file_kerns}
use Rattle.file_fonts.specs.Meant.{file_design, meant_font}
use Rattle.file_fonts.specs.Purpose.{AreBytes}
use Rattle.main_loop_fonts.specs.Search.{skip_byte, next_char, op_byte, rem_byte, is_command_for, search_from, searched, char_kern, command_rule}
use Rattle.main_loop_fonts.proofs.Loads.{TexLoads}
use Rattle.main_loop_fonts.proofs.Commands.{case_rule_lem, Inside, count_file, rule_for, op_kern, op_ligature, goes_on, goes_out}

-- one step of a search over any program
first_on : (m n : ℕ) (program : Program) (k r : ℕ) → k < n → {t : Bool} → is_rule_for r (program k) ≡ t →
    first_for program r (chain_from (suc m) n program k)
    ≡ cond t (some k) (first_for program r (chain_from m n program (onward_from n (program k).next_instruction k)))
unfolding first_for chain_from
first_on m n program k r h e = rw (lt-ltb k n h, e) refl

module _ (file : List ℕ) (bytes : AreBytes file) (loads : TexLoads file) where
  -- ---- the instruction that is found

  rule_by_lem : (k : ℕ) → Inside file k → skip_byte file k ≤ 128 → (t : Bool) → leb 128 (op_byte file k) ≡ t →
      rule_of_index (meant_font file) (some k) ≡ command_rule file (some k)
  rule_by_lem k h l true t =
      let m : 128 ≤ op_byte file k = leb-true 128 (op_byte file k) t in
      let i = 256 * (op_byte file k - 128) + rem_byte file k in
      let g : get_or (file_kerns file) i (pos 0) ≡ kern_number file (kern_start (lengths_of file) + i) =
      get_d_tabulate (lengths_of file).nk (λ (j : ℕ). kern_number file (kern_start (lengths_of file) + j)) i (pos 0) (loads.kerns k h l m) in
      ap (λ op. rule_of_operation (file_design file) (acts_as (file_kerns file) op)) (op_kern file bytes k h l m)
      ∙ ap (λ (z : ℤ). scaled_kern (to_scaled z (file_design file))) g
      ∙ rw t
  rule_by_lem k h l false t =
      let m : op_byte file k < 128 = leb-false 128 (op_byte file k) t in
      ap (λ op. rule_of_operation (file_design file) (acts_as (file_kerns file) op)) (op_ligature file bytes k h l m)
      ∙ case_rule_lem (file_kerns file) (file_design file) (rem_byte file k) (op_byte file k) m
      ∙ rw t

  rule_at_lem : (k : ℕ) → Inside file k → skip_byte file k ≤ 128 → rule_of_index (meant_font file) (some k) ≡ command_rule file (some k)
  rule_at_lem k h l = rule_by_lem k h l (leb 128 (op_byte file k)) refl

  -- ---- the chain

  abbrev chain_rule : ℕ → ℕ → ℕ → Rule
  chain_rule m k r =
      rule_of_index (meant_font file)
      (first_for (instruction_at (file_instructions file)) r
      (chain_from m (count (file_instructions file)) (instruction_at (file_instructions file)) k))

  later : (m k r : ℕ) → Inside file k → (t : Bool) → leb 128 (skip_byte file k) ≡ t →
      ((i : ℕ) → Inside file i → chain_rule m i r ≡ command_rule file (search_from file m i r)) →
      chain_rule m (onward_from (count (file_instructions file)) (instruction_at (file_instructions file) k).next_instruction k) r
      ≡ command_rule file (cond t none (search_from file m (k + skip_byte file k + 1) r))
  unfolding first_for
  later m k r h true t ih =
      rw (goes_out file bytes k h (leb-true 128 (skip_byte file k) t) (count (file_instructions file)))
      (ap (λ (is : List ℕ). rule_of_index (meant_font file) (first_for (instruction_at (file_instructions file)) r is))
      (chain_past m (count (file_instructions file)) (instruction_at (file_instructions file)) (count (file_instructions file)) (omega arith)))
  later m k r h false t ih =
      let l : skip_byte file k < 128 = leb-false 128 (skip_byte file k) t in
      rw (goes_on file bytes k h l (count (file_instructions file))) (ih (k + skip_byte file k + 1) (loads.nexts k h l))

  here : (m k r : ℕ) → Inside file k → (t : Bool) → is_command_for file k r ≡ t →
      chain_rule m (onward_from (count (file_instructions file)) (instruction_at (file_instructions file) k).next_instruction k) r
      ≡ command_rule file (cond (leb 128 (skip_byte file k)) none (search_from file m (k + skip_byte file k + 1) r)) →
      rule_of_index (meant_font file)
      (cond t (some k)
      (first_for (instruction_at (file_instructions file)) r
      (chain_from m (count (file_instructions file)) (instruction_at (file_instructions file))
      (onward_from (count (file_instructions file)) (instruction_at (file_instructions file) k).next_instruction k))))
      ≡ command_rule file (cond t (some k) (cond (leb 128 (skip_byte file k)) none (search_from file m (k + skip_byte file k + 1) r)))
  here m k r h true t e = rule_at_lem k h (leb-true (skip_byte file k) 128 (both_left (leb (skip_byte file k) 128) (eqb (next_char file k) r) t))
  here m k r h false t e = e

  pub searches : (m k r : ℕ) → Inside file k → chain_rule m k r ≡ command_rule file (search_from file m k r)
  unfolding first_for chain_from search_from
  searches zero k r h = refl
  searches (suc m) k r h =
      ap (rule_of_index (meant_font file))
      (first_on m (count (file_instructions file)) (instruction_at (file_instructions file)) k r (omega (arith, count_file file)) (rule_for file bytes k h r))
      ∙ (here m k r h (is_command_for file k r) refl (later m k r h (leb 128 (skip_byte file k)) refl (λ i g. searches m i r g)))

  -- the whole of it
  pub searched_rule : (k r : ℕ) → Inside file k → rule_of_index (meant_font file) (rule_index_of (file_instructions file) k r) ≡ command_rule file (searched file k r)
  searched_rule k r h =
      ap (λ (m : ℕ). chain_rule m k r) (count_file file) ∙ searches (lengths_of file).nl k r h
