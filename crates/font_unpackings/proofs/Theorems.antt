-- The theorems that specs/Purpose states. `unpacked-rules`: each pair has the rule that it had. `unpacked-file`: so it has in the font that a file means.
-- Assumes nothing.
use mathlib.Core.Path.{◌≡◌, refl, sym, ap, ◌∙◌}
use mathlib.Core.Bool.{Bool, true, false, cond, not}
use mathlib.Core.List.{List}
use mathlib.Core.Option.{Option, none, some, map}
use Prim.Native.Nat.{ℕ, ◌+◌, ◌-◌, ◌/◌, ◌<◌, ◌≤◌}
use native.Mathlib.Omega.{arith}
use lib.IntN.{ℤ, pos, negsuc}
use lib.Dec.{leb}
use lib.ListN.{length}
use lib.Signed.{non_neg}
use borrow.Author.Tests.{leb-true}
use Rattle.words.specs.Words.{word_of}
use Rattle.lang.specs.declared.instruction.Instruction.{Instruction}
use Rattle.lang.specs.Every.{both, every}
use Rattle.lang.specs.Records.{count, is_kind}
use Rattle.lang.specs.Checks.{program_refusal, kerns_refusal, entries_refusal, absent_refusal, design_refusal, or_else, entry_at}
use Rattle.lang.specs.Entries.{entries_table}
use Rattle.lang.proofs.Every.{both_left, both_right, every_at}
use Rattle.lang.proofs.Refusals.{or_else_none}
use Rattle.program_chain.specs.Chains.{rule_index_of, acts_as}
use Rattle.reading.specs.Items.{Left}
use Rattle.files.specs.Reading.{file_instructions, file_kerns, file_boundary, file_left}
use Rattle.fonts.specs.Fonts.{Font, font_of, left_entry_of, rule_from, rule_of_operation, rule_of_index, rules_of}
use Rattle.file_fonts.specs.Meant.{meant_entries, file_design}
use Rattle.file_fonts.proofs.Theorems.{meant_taken}
use Rattle.font_unpackings.specs.Unpackings.{own_start, own_count, is_own, left_stands, stands_packed, moved_entries, left_moved_back}
use Rattle.font_unpackings.specs.Purpose.{UnpackedRules, UnpackedFile}
use Rattle.font_unpackings.proofs.Own.{own_program, rule_same, own_rules}
use Rattle.font_unpackings.proofs.Moved.{Back, absent, entry, left_back}

-- ---- a font whose redirects stand as packing puts them

-- a test that is asked passes
asked : (t x : Bool) → cond t x true ≡ true → t ≡ true → x ≡ true
asked true x e d = e
asked false x e d = absurd (let z : ◌≡◌ {A = ℕ} 0 1 = cc in omega arith)

module _ (s es : List ℤ) (left : ℤ) (stands : stands_packed s es left ≡ true) where
  abbrev plain_test : Bool
  plain_test = every (own_count s left) (λ i. not (is_kind 3 s (own_start s left + i)))

  abbrev entries_test : Bool
  entries_test = every (length es / 2) (λ i. is_own s left (word_of (entry_at es i)))

  rest : both entries_test (left_stands s left) ≡ true
  rest = both_right plain_test (both entries_test (left_stands s left)) stands

  own_from : (e : ℕ) → is_own s left e ≡ true → own_start s left ≤ e
  own_from e t = leb-true (own_start s left) e (both_left (leb (own_start s left) e) _ t)

  entry_from : (i : ℕ) → i < length es / 2 → own_start s left ≤ word_of (entry_at es i)
  entry_from i h =
      own_from (word_of (entry_at es i))
      (every_at (length es / 2) i (λ i. is_own s left (word_of (entry_at es i))) (both_left entries_test (left_stands s left) rest) h)

  left_test : non_neg left ≡ true → both (is_own s left (word_of left)) (is_kind 3 s (count s - 1)) ≡ true
  left_test d =
      asked (non_neg left) (both (is_own s left (word_of left)) (is_kind 3 s (count s - 1))) (both_right entries_test (left_stands s left) rest) d

  last_held : non_neg left ≡ true → is_kind 3 s (count s - 1) ≡ true
  last_held d = both_right (is_own s left (word_of left)) (is_kind 3 s (count s - 1)) (left_test d)

  left_from : non_neg left ≡ true → own_start s left ≤ word_of left
  left_from d = own_from (word_of left) (both_left (is_own s left (word_of left)) (is_kind 3 s (count s - 1)) (left_test d))

  back_by : (z : ℤ) → (non_neg z ≡ true → own_start s left ≤ word_of z) → Back (own_start s left) z (left_moved_back z (own_start s left))
  back_by (pos e) h = entry e (h refl)
  back_by (negsuc n) h = absent n

  module _ (kerns : List ℤ) (boundary design : ℤ) where
    abbrev packed : Font
    packed = font_of s kerns es boundary left design

    abbrev unpacked : Font
    unpacked = font_of (own_program s left) kerns (moved_entries es (own_start s left)) boundary (left_moved_back left (own_start s left)) design

    -- the rule on a chain, by what is found there
    rule_by_lem : (e y : ℕ) (o : Option ℕ) → rule_index_of (own_program s left) e y ≡ o →
        rule_of_index unpacked o ≡ rule_of_index packed (map (λ (i : ℕ). i + own_start s left) o)
    rule_by_lem e y none h = refl
    rule_by_lem e y (some i) h = ap (λ (x : Instruction). rule_of_operation design (acts_as kerns x.operation)) (sym (rule_same s left e y i h))

    -- the rule from an entry
    from-by : (z z' : ℤ) → Back (own_start s left) z z' → (y : ℕ) →
        rule_of_index unpacked (rule_from (own_program s left) z' y) ≡ rule_of_index packed (rule_from s z y)
    from-by z z' (absent n) y = refl
    from-by z z' (entry e h) y =
        let q : e - own_start s left + own_start s left ≡ e = omega arith in
        rule_by_lem (e - own_start s left) y (rule_index_of (own_program s left) (e - own_start s left) y) refl
        ∙ ap (rule_of_index packed) (sym (own_rules s left last_held (e - own_start s left) y) ∙ ap (λ (i : ℕ). rule_index_of s i y) q)

    rules-kept : entries_refusal 65535 es ≡ 0 → (x : Left) (y : ℕ) → rules_of unpacked x y ≡ rules_of packed x y
    rules-kept ok x y =
        from-by (left_entry_of (entries_table es left) x) (left_entry_of (entries_table (moved_entries es (own_start s left)) (left_moved_back left (own_start s left))) x)
        (left_back es (own_start s left) ok entry_from left (back_by left left_from) x) y

-- ---- every font

pub unpacked_rules : UnpackedRules
unpacked_rules s kerns es boundary left design ok entered taken x y = by (stands_packed s es left) refl
  where
    by : (t : Bool) → stands_packed s es left ≡ t →
        rules_of
        (font_of (cond t (own_program s left) s) kerns (cond t (moved_entries es (own_start s left)) es) boundary
        (cond t (left_moved_back left (own_start s left)) left) design)
        x y
        ≡ rules_of (font_of s kerns es boundary left design) x y
    by true t = rules-kept s es left t kerns boundary design entered x y
    by false t = refl

pub unpacked_file : UnpackedFile
unpacked_file file bytes ok x y =
    let s = file_instructions file in
    let d = design_refusal (file_design file) in
    let l = or_else (absent_refusal 65535 (file_left file)) d in
    let b = or_else (absent_refusal 255 (file_boundary file)) l in
    let e = or_else (entries_refusal 65535 (meant_entries file)) b in
    let k = or_else (kerns_refusal (file_kerns file)) e in
    let p = or_else_none (program_refusal s) k (meant_taken file bytes ok) in
    let q = or_else_none (entries_refusal 65535 (meant_entries file)) b (or_else_none (kerns_refusal (file_kerns file)) e p.1).1 in
    let r = or_else_none (absent_refusal 65535 (file_left file)) d (or_else_none (absent_refusal 255 (file_boundary file)) l q.1).1 in
    unpacked_rules s (file_kerns file) (meant_entries file) (file_boundary file) (file_left file) (file_design file) p.0 q.0 r.0 x y
