-- THE theorem `every-written-font`, which specs/Purpose states.
-- Assumes nothing.
use mathlib.Core.Path.{◌≡◌, refl, sym, ap, ◌∙◌, fun_ext, subst}
use mathlib.Core.Bool.{Bool, true, not}
use mathlib.Core.List.{List}
use mathlib.Core.Logic.{◌⊎◌, inl, inr}
use Prim.Native.Nat.{ℕ, ◌/◌, ◌<◌}
use native.Mathlib.Omega.{arith}
use lib.IntN.{ℤ, pos, negsuc}
use lib.ListN.{length}
use lib.Signed.{non_neg}
use borrow.Author.Tests.{lt-ltb}
use Rattle.lang.specs.Records.{count}
use Rattle.lang.proofs.Every.{every_all}
use Rattle.reading.specs.Items.{Rules}
use Rattle.fonts.specs.Fonts.{rules_of}
use Rattle.pack.specs.Packing.{font_offset}
use Rattle.files.specs.declared.FileLengths.{FileLengths}
use Rattle.files.specs.Lengths.{lengths_of}
use Rattle.files.specs.Writing.{Writable, shared_font, written_kerns, written_instructions, written_table, written_file, written_lengths}
use Rattle.files.specs.Purpose.{ReadsAgain, moved_left}
use Rattle.files.proofs.Laid.{Laid, joined_laid, laid_lengths}
use Rattle.files.proofs.Lengths.{taken_fits}
use Rattle.files.proofs.Entries.{Found, Absent, found}
use Rattle.files.proofs.Taken.{WritesFile, written}
use Rattle.files.proofs.Theorems.{read_after_write}
use Rattle.file_fonts.specs.Meant.{meant_font}
use Rattle.file_fonts.specs.Purpose.{AreBytes}
use Rattle.captions.specs.Steps.{right_item}
use Rattle.main_loops.specs.Purpose.{LoopStops, SameNodes}
use Rattle.main_loop_runs.proofs.Theorems.{every_font_set}
use Rattle.main_loop_fonts.specs.Search.{lig_kern_start, has_bchar_label, tex_rules, loads_start, loads_instruction, tex_loads}
use Rattle.main_loop_fonts.proofs.Loads.{loaded}
use Rattle.main_loop_fonts.proofs.Theorems.{tex_rules_lem, file_read}
use Rattle.main_loop_writings.specs.Purpose.{WritesForTex, written_font, LoadsWritten, TexSets, EveryWrittenFont}
use Rattle.main_loop_writings.proofs.Bytes.{bytes_joined}
use Rattle.main_loop_writings.proofs.Instructions.{instruction_loads}
use Rattle.main_loop_writings.proofs.Starts.{Starts, starts, starts_none}
use Rattle.main_loop_writings.proofs.Meant.{same_rules}

-- ---- TeX loads the file

-- by each of its tests
loads_all : (file : List ℕ) → ((c : ℕ) → c < 256 → loads_start file c ≡ true) → ((k : ℕ) → k < (lengths_of file).nl → loads_instruction file k ≡ true) →
    tex_loads file ≡ true
loads_all file g h = rw (every_all 256 (loads_start file) g, every_all (lengths_of file).nl (loads_instruction file) h)

-- the left entry, moved, is there exactly where it was
moved_label : (z : ℤ) (o : ℕ) → non_neg (moved_left z o) ≡ non_neg z
moved_label (pos e) o = refl
moved_label (negsuc n) o = refl

module _ (old : List ℕ) (f : Writable) (room : ℕ) (w : WritesForTex old f room) where
  v : WritesFile old f
  v = written old f room w.accepted

  abbrev file : List ℕ
  file = written_file old f

  laid : Laid old file (lengths_of old) (written_instructions f) (written_kerns f) (written_table f) f.boundary
  laid =
      let u = taken_fits old v.lengths in
      joined_laid old (lengths_of old) (written_instructions f) (written_kerns f) (written_table f) f.boundary (omega (arith, u.sum, u.whole))

  lengths : lengths_of file ≡ written_lengths (lengths_of old) (count (written_instructions f)) (length (written_kerns f))
  lengths = laid_lengths laid v.writes.size

  words : (lengths_of file).nl ≡ count (written_instructions f)
  words = ap (λ (m : FileLengths). m.nl) lengths

  again : ReadsAgain old f
  again = read_after_write old f room w.program_numbers w.kern_numbers w.accepted

  file_bytes_lem : AreBytes file
  file_bytes_lem = bytes_joined old w.old_bytes (lengths_of old) (written_instructions f) (written_kerns f) (written_table f) f.boundary

  start_by : (c : ℕ) → c < 256 → Found f.entries (length f.entries / 2) c ⊎ Absent f.entries (length f.entries / 2) c → loads_start file c ≡ true
  start_by c h (inl r) =
      let s : Starts old file f v w.program_numbers laid lengths c r.place =
      starts old file f v w.program_numbers laid lengths c r.place h r.inside r.char in
      rw s.has (lt-ltb (lig_kern_start file c) (lengths_of file).nl (omega (arith, s.inside, words)))
  start_by c h (inr a) = rw (starts_none old file f v w.program_numbers laid lengths c h a)

  file_loads : tex_loads file ≡ true
  file_loads =
      loads_all file (λ c h. start_by c h (found f.entries (length f.entries / 2) c))
      (λ k h. instruction_loads old file f v w.program_numbers w.nexts laid lengths k (omega (arith, h, words)))

  -- ---- by the font's own rules

  loads_written : LoadsWritten old f
  loads_written =
      let loads = loaded file again.taken file_loads in
      let meant = same_rules old file f v w.program_numbers w.kern_numbers laid lengths again.program again.kerns again.left file_bytes_lem loads
      again.taken in
      record {
        bytes = file_bytes_lem;
        lengths = again.taken;
        loads = file_loads;
        meant = meant;
        finds = λ l r. tex_rules_lem file file_bytes_lem again.taken file_loads l r ∙ meant l r;
      }

  meant_are : rules_of (meant_font file) ≡ rules_of (written_font old f)
  meant_are = fun_ext (λ l. fun_ext (λ r. loads_written.meant l r))

  found_are : tex_rules file ≡ rules_of (written_font old f)
  found_are = fun_ext (λ l. fun_ext (λ r. loads_written.finds l r))

  label_is : has_bchar_label file ≡ non_neg f.left
  label_is = ap non_neg again.left ∙ moved_label f.left (font_offset (shared_font f))

  tex_sets : TexSets old f
  tex_sets =
      record {
        loaded = loads_written;
        read =
            λ boundary word right.
            subst (λ (label : Bool). SameNodes (tex_rules file) (rules_of (written_font old f)) boundary label word right) label_is
            (subst (λ (rule : Rules). SameNodes (tex_rules file) rule boundary (has_bchar_label file) word right) meant_are
            (file_read file file_bytes_lem again.taken file_loads boundary word right));
        set =
            λ size pairs ops loops work p o pairs' ops' loops' work' c word options caption.
            let n = every_font_set (written_font old f) size pairs ops loops work p o pairs' ops' loops' work' c word options caption in
            record {
              nodes = n.nodes;
              stops =
                  subst
                  (λ (rule : Rules). LoopStops rule (not options.disable_left_boundary) (non_neg f.left) word
                  (right_item f.boundary options.right_boundary_override) n.nodes) (sym found_are) n.stops;
              given = n.given;
            };
      }

pub every_written_font : EveryWrittenFont
every_written_font old f room w = tex_sets old f room w
