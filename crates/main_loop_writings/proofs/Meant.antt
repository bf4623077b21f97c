-- The font that a written file means has the rules of the font that was written.
-- Assumes nothing.
use mathlib.Core.Path.{◌≡◌, refl, sym, ap, ◌∙◌}
use mathlib.Core.Bool.{Bool, true, false, cond}
use mathlib.Core.List.{List}
use mathlib.Core.Logic.{◌⊎◌, inl, inr}
use mathlib.Core.Option.{Option, none, some, map}
use Prim.Native.Nat.{ℕ, ◌+◌, ◌/◌, ◌%◌, ◌<◌, ◌≤◌}
use native.Mathlib.Omega.{arith}
use lib.IntN.{ℤ, pos, negsuc}
use lib.Dec.{leb, ltb, eqb}
use lib.ListN.{length, get_or}
use lib.Seq.{get_or-set_same}
use borrow.Author.Tests.{leb-true, ltb-true}
use Rattle.words.specs.Words.{word_of}
use Rattle.lang.specs.declared.instruction.Instruction.{Instruction}
use Rattle.lang.specs.Every.{both, every}
use Rattle.lang.specs.Records.{count, is_kind, within, instruction_at}
use Rattle.lang.specs.Checks.{char_at, entry_at, entered_once, entry_fits, entries_refusal}
use Rattle.lang.specs.Entries.{entered, entries_table}
use Rattle.lang.proofs.Every.{both_left, both_right, every_at}
use Rattle.lang.proofs.Refusals.{unless_none}
use Rattle.lang.proofs.Tables.{length_entered}
use Rattle.entry_targets.specs.Targets.{stands_for}
use Rattle.program_chain.specs.Chains.{rule_index_of, acts_as}
use Rattle.reading.specs.Items.{Left, bnd, chr}
use Rattle.fonts.specs.Fonts.{left_entry_of, rule_from, table_of, rule_of_operation, rule_of_index, rules_of}
use Rattle.pack.specs.Packing.{font_offset}
use Rattle.pack.specs.Purpose.{old_entry, SameRules, RulesKept}
use Rattle.pack.proofs.Purpose.{packed_rules}
use Rattle.files.specs.declared.FileLengths.{FileLengths}
use Rattle.files.specs.Lengths.{lengths_of, lengths_refusal}
use Rattle.files.specs.Commands.{kern_number}
use Rattle.files.specs.Reading.{file_instructions, file_kerns, file_left}
use Rattle.files.specs.Writing.{Writable, shared_font, written_kerns, written_instructions, written_table, written_lengths}
use Rattle.files.specs.Purpose.{AreI32, unflagged, moved_left}
use Rattle.files.proofs.Laid.{Laid, Same}
use Rattle.files.proofs.Shared.{shared_count}
use Rattle.files.proofs.Packed.{old_field, fits_behind}
use Rattle.files.proofs.Own.{within_pos, own_plain}
use Rattle.files.proofs.Entries.{Found, Absent, found, entered_at, entered_none, table_is, entry_once}
use Rattle.files.proofs.Unflagged.{unflagged_stands, unflagged_same}
use Rattle.files.proofs.Taken.{WritesFile}
use Rattle.files.proofs.Font.{font_accepted, font_plain, entry_inside}
use Rattle.file_fonts.specs.Meant.{file_design, or_ten_points, ten_points, meant_font}
use Rattle.file_fonts.specs.Purpose.{AreBytes}
use Rattle.main_loop_fonts.specs.Search.{lig_kern_start, restarted_search}
use Rattle.main_loop_fonts.proofs.Loads.{TexLoads}
use Rattle.main_loop_fonts.proofs.Starts.{stands_for_lem, char_entry_lem, left_entry_lem}
use Rattle.main_loop_writings.specs.Purpose.{written_font}
use Rattle.main_loop_writings.proofs.Starts.{Starts, starts, starts_none}
use Rattle.main_loop_writings.proofs.Rules.{found_below, unflagged_index, shared_rules, acts_same}

-- ---- the entries of a font

entry_within : (limit : ℕ) (es : List ℤ) → entries_refusal limit es ≡ 0 → (i : ℕ) → i < length es / 2 → within limit (entry_at es i) ≡ true
entry_within limit es ok i h =
    both_left (within limit (entry_at es i)) (entered_once es i)
    (both_right (within 255 (char_at es i)) (both (within limit (entry_at es i)) (entered_once es i))
    (every_at (length es / 2) i (entry_fits limit es)
    (both_right (eqb (length es % 2) 0) (every (length es / 2) (entry_fits limit es))
    (unless_none 3 (both (eqb (length es % 2) 0) (every (length es / 2) (entry_fits limit es))) ok))
    h))

table_left : (es : List ℤ) (left : ℤ) → get_or (entries_table es left) 256 (negsuc 0) ≡ left
unfolding entries_table
table_left es left =
    get_or-set_same (entered es (length es / 2)) 256 left (negsuc 0) (rw (length_entered es (length es / 2)) (omega arith))

-- ---- the design size

kern_same : {file old : List ℕ} {to : ℕ} → Same file old 20 to → 32 ≤ to → kern_number file 7 ≡ kern_number old 7
kern_same s h =
    rw (
      s.at 28 (omega arith) (omega arith),
      s.at 29 (omega arith) (omega arith),
      s.at 30 (omega arith) (omega arith),
      s.at 31 (omega arith) (omega arith),
    )

module _ (old file : List ℕ) (f : Writable) (v : WritesFile old f) (are : AreI32 f.instructions) (kerns_are : AreI32 f.kerns)
    (laid : Laid old file (lengths_of old) (written_instructions f) (written_kerns f) (written_table f) f.boundary)
    (lengths : lengths_of file ≡ written_lengths (lengths_of old) (count (written_instructions f)) (length (written_kerns f)))
    (program : file_instructions file ≡ unflagged (written_instructions f)) (kerns : file_kerns file ≡ written_kerns f)
    (left : file_left file ≡ moved_left f.left (font_offset (shared_font f)))
    (bytes : AreBytes file) (loads : TexLoads file) (ok : lengths_refusal file ≡ 0)
  where
    abbrev whole : List ℤ
    whole = written_instructions f

    abbrev offset : ℕ
    offset = font_offset (shared_font f)

    design : file_design file ≡ file_design old
    design =
        ap (λ (m : FileLengths). cond (leb 2 m.lh) (or_ten_points (kern_number file 7)) ten_points) lengths ∙ by (leb 2 (lengths_of old).lh) refl
      where
        by : (t : Bool) → leb 2 (lengths_of old).lh ≡ t → cond t (or_ten_points (kern_number file 7)) ten_points ≡ cond t (or_ten_points (kern_number old 7)) ten_points
        by true t = ap or_ten_points (kern_same laid.same_header (omega (arith, leb-true 2 (lengths_of old).lh t)))
        by false t = refl

    -- ---- from an entry on

    rule-some : (e r i : ℕ) → SameRules (shared_font f) e → rule_index_of f.instructions e r ≡ some i →
        rule_of_index (meant_font file) (some (i + offset)) ≡ rule_of_index (written_font old f) (some i)
    rule-some e r i kept h =
        let s = f.instructions in
        let n = count whole in
        let m = length (written_kerns f) in
        let l : i < count s = found_below (count s) (instruction_at s) r (count s) e i h in
        let l' : i < count (shared_font f).instructions = omega (arith, l, shared_count s f.kerns) in
        let plain : is_kind 3 whole (i + offset) ≡ false =
        ap (λ (z : ℤ). eqb (word_of z) 3) (old_field (shared_font f) i 2 l' (omega arith)) ∙ font_plain f v.packs old n m v.writes are i l' in
        let same : instruction_at (unflagged whole) (i + offset) ≡ instruction_at (shared_font f).instructions i =
        unflagged_same whole (i + offset) (omega (arith, l', fits_behind (shared_font f))) plain
        ∙ kept.same r i (shared_rules s f.kerns are kerns_are v.packs.program e r ∙ h) in
        ap (λ (d : ℤ). rule_of_operation d (acts_as (file_kerns file) (instruction_at (file_instructions file) (i + offset)).operation)) design
        ∙ ap (λ (ks : List ℤ). rule_of_operation (file_design old) (acts_as ks (instruction_at (file_instructions file) (i + offset)).operation)) kerns
        ∙ ap (λ (x : List ℤ). rule_of_operation (file_design old) (acts_as (written_kerns f) (instruction_at x (i + offset)).operation)) program
        ∙ ap (λ (x : Instruction). rule_of_operation (file_design old) (acts_as (written_kerns f) x.operation)) same
        ∙ ap (rule_of_operation (file_design old))
        (acts_same s f.kerns are kerns_are v.packs.program i l
        (own_plain s f.kerns are v.packs.program i l (v.writes.instructions i l)))

    rule_by_lem : (e r : ℕ) (o : Option ℕ) → SameRules (shared_font f) e → rule_index_of f.instructions e r ≡ o →
        rule_of_index (meant_font file) (map (λ (i : ℕ). i + offset) o) ≡ rule_of_index (written_font old f) o
    rule_by_lem e r none kept h = refl
    rule_by_lem e r (some i) kept h = rule-some e r i kept h

    rule_moved : (e r : ℕ) → SameRules (shared_font f) e →
        rule_of_index (meant_font file) (rule_index_of (file_instructions file) (e + offset) r)
        ≡ rule_of_index (written_font old f) (rule_index_of f.instructions e r)
    rule_moved e r kept =
        ap (rule_of_index (meant_font file))
        (ap (λ (s : List ℤ). rule_index_of s (e + offset) r) program
        ∙ unflagged_index whole (e + offset) r
        ∙ kept.rule r
        ∙ ap (map (λ (i : ℕ). i + offset)) (shared_rules f.instructions f.kerns are kerns_are v.packs.program e r))
        ∙ rule_by_lem e r (rule_index_of f.instructions e r) kept refl

    kept-rules : RulesKept (shared_font f)
    kept-rules =
        packed_rules (shared_font f) (length whole) (length f.entries) (font_accepted f v.packs) (omega (arith, v.writes.size))

    -- ---- the left entry

    left_by : (z : ℤ) → f.left ≡ z → (r : ℕ) →
        rule_of_index (meant_font file) (rule_from (file_instructions file) (moved_left z offset) r)
        ≡ rule_of_index (written_font old f) (rule_from f.instructions z r)
    left_by (pos e) q r = rule_moved e r (kept-rules.left e q)
    left_by (negsuc n) q r = refl

    left-rules : (r : ℕ) → rules_of (meant_font file) bnd r ≡ rules_of (written_font old f) bnd r
    left-rules r =
        ap (λ (z : ℤ). rule_of_index (meant_font file) (rule_from (file_instructions file) z r)) (left_entry_lem file bytes loads ok ∙ left)
        ∙ left_by f.left refl r
        ∙ ap (λ (z : ℤ). rule_of_index (written_font old f) (rule_from f.instructions z r)) (sym (table_left f.entries f.left))

    -- ---- a character

    module _ (c : ℕ) (h : c < 256) where
      abbrev ownEntry : ℤ
      ownEntry = get_or (entries_table f.entries f.left) c (negsuc 0)

      abbrev SameFrom : ℤ → ℤ → ℕ → Type 0
      SameFrom z z' r =
          rule_of_index (meant_font file) (rule_from (file_instructions file) z' r) ≡ rule_of_index (written_font old f) (rule_from f.instructions z r)

      same_from : {x y x' y' : ℤ} (r : ℕ) → x ≡ y → x' ≡ y' → SameFrom y y' r → SameFrom x x' r
      same_from r e g k = rw (e, g) k

      own-found : (w : Found f.entries (length f.entries / 2) c) → ownEntry ≡ pos (old_entry (shared_font f) w.place)
      own-found w =
          table_is f.entries f.left c h
          ∙ entered_at f.entries (length f.entries / 2) w.place c (omega arith) w.char
          (λ j a b. entry_once 65535 f.entries v.packs.entries w.place j a b) w.inside
          ∙ within_pos 65535 (entry_at f.entries w.place) (entry_within 65535 f.entries v.packs.entries w.place w.inside)

      meant-found : (w : Found f.entries (length f.entries / 2) c) →
          left_entry_of (table_of (meant_font file)) (chr c) ≡ pos (old_entry (shared_font f) w.place + offset)
      meant-found w =
          let s : Starts old file f v are laid lengths c w.place = starts old file f v are laid lengths c w.place h w.inside w.char in
          let k = lig_kern_start file c in
          let inside : k < (lengths_of file).nl = omega (arith, s.inside, ap (λ (m : FileLengths). m.nl) lengths) in
          char_entry_lem file bytes loads ok c
          ∙ ap (λ (t : Bool). cond t (pos (restarted_search file k)) (negsuc 0)) s.has
          ∙ ap pos
          (sym (stands_for_lem file bytes loads k inside)
          ∙ ap (λ (x : List ℤ). stands_for x k) program
          ∙ unflagged_stands whole k s.inside
          ∙ s.stands)

      kept_from : (i : ℕ) → i < length f.entries / 2 → SameRules (shared_font f) (old_entry (shared_font f) i)
      kept_from i g =
          let n = count whole in
          let m = length (written_kerns f) in
          let l : old_entry (shared_font f) i < count (shared_font f).instructions =
          omega (arith, entry_inside f v.packs old n m v.writes i g, shared_count f.instructions f.kerns) in
          (kept-rules.entries i g l (font_plain f v.packs old n m v.writes are (old_entry (shared_font f) i) l)).1

      char_by : (r : ℕ) → Found f.entries (length f.entries / 2) c ⊎ Absent f.entries (length f.entries / 2) c →
          SameFrom ownEntry (left_entry_of (table_of (meant_font file)) (chr c)) r
      char_by r (inl w) = same_from r (own-found w) (meant-found w) (rule_moved (old_entry (shared_font f) w.place) r (kept_from w.place w.inside))
      char_by r (inr a) =
          same_from r (table_is f.entries f.left c h ∙ entered_none f.entries (length f.entries / 2) c (omega arith) a)
          (char_entry_lem file bytes loads ok c
          ∙ ap (λ (t : Bool). cond t (pos (restarted_search file (lig_kern_start file c))) (negsuc 0)) (starts_none old file f v are laid lengths c h a))
          refl

    char-rules : (c r : ℕ) (t : Bool) → ltb c 256 ≡ t →
        rule_of_index (meant_font file) (rule_from (file_instructions file) (left_entry_of (table_of (meant_font file)) (chr c)) r)
        ≡ rule_of_index (written_font old f)
        (rule_from f.instructions (cond t (get_or (entries_table f.entries f.left) c (negsuc 0)) (negsuc 0)) r)
    char-rules c r true t = let h = ltb-true c 256 t in char_by c h r (found f.entries (length f.entries / 2) c)
    char-rules c r false t = rw t refl

    pub same_rules : (l : Left) (r : ℕ) → rules_of (meant_font file) l r ≡ rules_of (written_font old f) l r
    same_rules bnd r = left-rules r
    same_rules (chr c) r = char-rules c r (ltb c 256) refl
