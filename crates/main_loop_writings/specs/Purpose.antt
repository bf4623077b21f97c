-- TeX's main loop on a font that writing takes (R497): theorem `every-written-font` of proofs/Theorems. No contract cites this.
use Rattle.std.specs.Prelude.{◌≡◌, Bool, true, cond, not, List, ℕ, ◌+◌, ◌*◌, ℤ, ltb, take}
use Rattle.std.proofs.Math.Option.{Option}
use Rattle.std.specs.Int.Signed.{non_neg}
use Rattle.words.specs.Words.{word_of}
use Rattle.lang.specs.Every.{every}
use Rattle.lang.specs.Records.{count, field}
use Rattle.reading.specs.Items.{Left}
use Rattle.fonts.specs.declared.Compiled.TheVariants.{Tables}
use Rattle.fonts.specs.Fonts.{Font, font_of, rules_of}
use Rattle.fonts.specs.Compiled.{Compiles}
use Rattle.files.specs.Lengths.{lengths_refusal}
use Rattle.files.specs.Writing.{Writable, written_file, write_refusal}
use Rattle.files.specs.Purpose.{AreI32}
use Rattle.file_fonts.specs.Meant.{file_design, meant_font}
use Rattle.file_fonts.specs.Purpose.{AreBytes}
use Rattle.captions.specs.declared.RunOptions.{RunOptions}
use Rattle.captions.specs.Steps.{right_item}
use Rattle.captions.specs.Demand3.{Caption}
use Rattle.main_loops.specs.Nodes.{Node}
use Rattle.main_loops.specs.Purpose.{LoopStops, SameNodes}
use Rattle.main_loop_runs.specs.Purpose.{GivesNodes}
use Rattle.main_loop_fonts.specs.Search.{tex_rules, tex_loads}

-- ---- what is asked of a font, and of the file that it is written into

-- the next of instruction i, where it has one, does not pass the end (TeX 573)
abbrev pub next_inside : List ℤ → ℕ → Bool
next_inside s i = cond (non_neg (field s i 0)) (ltb (i + word_of (field s i 0) + 1) (count s)) true

abbrev pub nexts_inside : List ℤ → Bool
nexts_inside s = every (count s) (next_inside s)

-- writing takes the font into the old file (none of 1 to 4, 10, 11, 17 and 18, and there is room), and no next passes the end. The lists
-- are lists of bytes and of i32, as every list is that is lent. Nothing else is asked of the old file
pub record WritesForTex (old : List ℕ) (f : Writable) (room : ℕ) : Type 0 where
  pub old_bytes : AreBytes old
  pub program_numbers : AreI32 f.instructions
  pub kern_numbers : AreI32 f.kerns
  pub accepted : write_refusal old f room ≡ 0
  pub nexts : nexts_inside f.instructions ≡ true

-- the font itself, entries as they were lent; the design size is the old file's
abbrev pub written_font : List ℕ → Writable → Font
written_font old f = font_of f.instructions f.kerns f.entries f.boundary f.left (file_design old)

-- ---- what holds of it

-- the written file is one that TeX loads, and what it means, and what TeX finds in it, are the font's own rules
pub record LoadsWritten (old : List ℕ) (f : Writable) : Type 0 where
  pub bytes : AreBytes (written_file old f)
  pub lengths : lengths_refusal (written_file old f) ≡ 0
  pub loads : tex_loads (written_file old f) ≡ true
  pub meant : (l : Left) (r : ℕ) → rules_of (meant_font (written_file old f)) l r ≡ rules_of (written_font old f) l r
  pub finds : (l : Left) (r : ℕ) → tex_rules (written_file old f) l r ≡ rules_of (written_font old f) l r

-- the main loop over the bytes of the written file stops on a caption, and the run with the font's own tables gives its nodes, one for
-- one, and then the end for ever
pub record SetAsWritten (old : List ℕ) (f : Writable) (pairs ops : List ℤ) (word : List ℕ) (options : RunOptions) : Type 0 where
  pub nodes : List Node
  pub stops : LoopStops (tex_rules (written_file old f)) (not options.disable_left_boundary) (non_neg f.left) word
      (right_item f.boundary options.right_boundary_override) nodes
  pub given : GivesNodes (written_font old f) pairs ops word options nodes

-- of every word, either boundary choice and any right item or none the loop stops exactly when the reading by the font's rules ends, and
-- then its nodes are the reading's items; and where compile accepts the font without a loop, every caption is set so
pub record TexSets (old : List ℕ) (f : Writable) : Type 0 where
  pub loaded : LoadsWritten old f
  pub read : (boundary : Bool) (word : List ℕ) (right : Option ℕ) →
      SameNodes (tex_rules (written_file old f)) (rules_of (written_font old f)) boundary (non_neg f.left) word right
  pub set : (size : ℕ) (pairs ops loops : List ℤ) (work : List ℕ) (p o : ℕ) (pairs' ops' loops' : List ℤ) (work' : List ℕ) →
      Compiles (written_font old f) size pairs ops loops work (Tables p o 0) pairs' ops' loops' work' →
      (word : List ℕ) (options : RunOptions) → Caption word options →
      SetAsWritten old f (take (6 * p) pairs') (take (2 * o) ops') word options

-- THE theorem: so it is of every font that writing takes and in which no next passes the end.
abbrev pub EveryWrittenFont : Type 0
EveryWrittenFont = (old : List ℕ) (f : Writable) (room : ℕ) → WritesForTex old f room → TexSets old f
