-- THE law `tex-rules`, and the theorems `file-read` and `file-set`, which specs/Purpose states.
-- Assumes nothing.
use mathlib.Core.Path.{◌≡◌, refl, sym, ap, ◌∙◌, fun_ext, subst}
use mathlib.Core.Bool.{Bool, true, false, cond, not}
use mathlib.Core.List.{List}
use mathlib.Core.Option.{Option, none, some}
use Prim.Native.Nat.{ℕ, zero, suc, ◌+◌, ◌-◌, ◌*◌, ◌<◌, ◌≤◌}
use native.Mathlib.Omega.{arith}
use lib.IntN.{ℤ, pos, negsuc}
use lib.Dec.{leb, ltb, eqb}
use lib.Signed.{non_neg}
use borrow.Author.Tests.{ltb-true, eqb-true}
use Rattle.lang.specs.Every.{both}
use Rattle.lang.proofs.Every.{both_left, both_right}
use Rattle.reading.specs.Items.{Left, bnd, chr, Rule, free, Rules}
use Rattle.fonts.specs.Fonts.{rule_from, left_entry_of, table_of, rule_of_index, rules_of}
use Rattle.files.specs.Lengths.{lengths_of, command_start, kern_start, lengths_refusal}
use Rattle.files.specs.Commands.{word_byte, is_first255}
use Rattle.files.specs.Reading.{file_instructions, file_left}
use Rattle.file_fonts.specs.Meant.{meant_font}
use Rattle.file_fonts.specs.Purpose.{AreBytes}
use Rattle.main_loop_fonts.specs.Search.{skip_byte, restart_at, has_program, lig_kern_start, restarted_search, searched, labelled, has_bchar_label, command_rule, tex_rules}
use Rattle.captions.specs.Steps.{right_item}
use Rattle.main_loops.specs.Purpose.{LoopStops, SameNodes}
use Rattle.main_loops.proofs.Theorems.{same_nodes}
use Rattle.main_loop_runs.proofs.Theorems.{every_font_set}
use Rattle.main_loop_fonts.specs.Purpose.{TexRules, FileRead, FileSet}
use Rattle.main_loop_fonts.proofs.Loads.{TexLoads, loaded}
use Rattle.main_loop_fonts.proofs.Commands.{Inside}
use Rattle.main_loop_fonts.proofs.Chains.{searched_rule}
use Rattle.main_loop_fonts.proofs.Starts.{char_entry_lem, left_entry_lem, starts_inside}

module _ (file : List ℕ) (bytes : AreBytes file) (ok : lengths_refusal file ≡ 0) (loads : TexLoads file) where
  char_by : (c r : ℕ) (t : Bool) → has_program file c ≡ t →
      rule_of_index (meant_font file) (rule_from (file_instructions file) (cond t (pos (restarted_search file (lig_kern_start file c))) (negsuc 0)) r)
      ≡ command_rule file (cond t (searched file (restarted_search file (lig_kern_start file c)) r) none)
  char_by c r true t = searched_rule file bytes loads (restarted_search file (lig_kern_start file c)) r (starts_inside file bytes loads ok c t)
  char_by c r false t = refl

  -- the last instruction's target, where it names the left entry
  left_by : (r : ℕ) (t : Bool) → both (ltb 0 (lengths_of file).nl) (is_first255 file (kern_start (lengths_of file) - 1)) ≡ t →
      rule_of_index (meant_font file)
      (rule_from (file_instructions file)
      (cond t (pos (256 * word_byte file (kern_start (lengths_of file) - 1) 2 + word_byte file (kern_start (lengths_of file) - 1) 3)) (negsuc 0)) r)
      ≡ command_rule file
      (labelled file
      (cond t (pos (256 * word_byte file (kern_start (lengths_of file) - 1) 2 + word_byte file (kern_start (lengths_of file) - 1) 3)) (negsuc 0)) r)
  left_by r true t = searched_rule file bytes loads _ r inside
    where
      some-instruction : 0 < (lengths_of file).nl
      some-instruction = ltb-true 0 (lengths_of file).nl (both_left (ltb 0 (lengths_of file).nl) (is_first255 file (kern_start (lengths_of file) - 1)) t)

      place : kern_start (lengths_of file) - 1 ≡ command_start (lengths_of file) + ((lengths_of file).nl - 1)
      place = omega (arith, some-instruction)

      is-255 : skip_byte file ((lengths_of file).nl - 1) ≡ 255
      is-255 = rw (← place) (eqb-true (word_byte file (kern_start (lengths_of file) - 1) 0) 255
          (both_right (ltb 0 (lengths_of file).nl) (is_first255 file (kern_start (lengths_of file) - 1)) t))

      inside : Inside file (256 * word_byte file (kern_start (lengths_of file) - 1) 2 + word_byte file (kern_start (lengths_of file) - 1) 3)
      inside = rw place (loads.restarts ((lengths_of file).nl - 1) (omega (arith, some-instruction)) (omega (arith, is-255)))
  left_by r false t = refl

  rule_is : (l : Left) (r : ℕ) → tex_rules file l r ≡ rules_of (meant_font file) l r
  rule_is bnd r =
      sym
      (ap (λ (z : ℤ). rule_of_index (meant_font file) (rule_from (file_instructions file) z r)) (left_entry_lem file bytes loads ok)
      ∙ left_by r (both (ltb 0 (lengths_of file).nl) (is_first255 file (kern_start (lengths_of file) - 1))) refl)
  rule_is (chr c) r =
      sym
      (ap (λ (z : ℤ). rule_of_index (meant_font file) (rule_from (file_instructions file) z r)) (char_entry_lem file bytes loads ok c)
      ∙ char_by c r (has_program file c) refl)

pub tex_rules_lem : TexRules
tex_rules_lem file bytes ok loads l r = rule_is file bytes ok (loaded file ok loads) l r

-- without a bchar_label the left boundary has no rule
label_free : (file : List ℕ) (r : ℕ) (z : ℤ) → non_neg z ≡ false → command_rule file (labelled file z r) ≡ free
label_free file r (pos k) e = absurd (let z : ◌≡◌ {A = ℕ} 0 1 = cc in omega arith)
label_free file r (negsuc k) e = refl

module _ (file : List ℕ) (bytes : AreBytes file) (ok : lengths_refusal file ≡ 0) (loads : TexLoads file) where
  rules_are : tex_rules file ≡ rules_of (meant_font file)
  rules_are = fun_ext (λ l. fun_ext (λ r. rule_is file bytes ok loads l r))

pub file_read : FileRead
file_read file bytes ok test boundary word right =
    let loads = loaded file ok test in
    subst (λ (rule : Rules). SameNodes (tex_rules file) rule boundary (has_bchar_label file) word right) (rules_are file bytes ok loads)
    (same_nodes (tex_rules file) boundary (has_bchar_label file) (λ h r. label_free file r (file_left file) h) word right)

pub file_set : FileSet
file_set file bytes ok test size pairs ops loops work p o pairs' ops' loops' work' c word options caption =
    let loads = loaded file ok test in
    let n = every_font_set (meant_font file) size pairs ops loops work p o pairs' ops' loops' work' c word options caption in
    record {
      nodes = n.nodes;
      stops =
          subst
          (λ (rule : Rules). LoopStops rule (not options.disable_left_boundary) (has_bchar_label file) word
          (right_item (meant_font file).boundary options.right_boundary_override) n.nodes) (sym (rules_are file bytes ok loads)) n.stops;
      given = n.given;
    }
