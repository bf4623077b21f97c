-- What TeX finds in a file is the rule of the font that the file means (R494), so that its main loop does what the reading says (R495),
-- and the run gives its nodes one for one (R496). Theorems `tex-rules`, `file-read` and `file-set` of proofs/Theorems. No contract cites
-- this.
use Rattle.std.specs.Prelude.{◌≡◌, Bool, true, not, List, ℕ, ◌*◌, ℤ, take}
use Rattle.std.proofs.Math.Option.{Option}
use Rattle.reading.specs.Items.{Left}
use Rattle.fonts.specs.declared.Compiled.TheVariants.{Tables}
use Rattle.fonts.specs.Fonts.{rules_of}
use Rattle.fonts.specs.Compiled.{Compiles}
use Rattle.files.specs.Lengths.{lengths_refusal}
use Rattle.file_fonts.specs.Meant.{meant_font}
use Rattle.file_fonts.specs.Purpose.{AreBytes}
use Rattle.captions.specs.declared.RunOptions.{RunOptions}
use Rattle.captions.specs.Steps.{right_item}
use Rattle.captions.specs.Demand3.{Caption}
use Rattle.main_loops.specs.Nodes.{Node}
use Rattle.main_loops.specs.Purpose.{LoopStops, SameNodes}
use Rattle.main_loop_runs.specs.Purpose.{GivesNodes}
use Rattle.main_loop_fonts.specs.Search.{tex_rules, has_bchar_label, tex_loads}

-- THE law: the bytes of a file, entries packed, and the lent program, entries unpacked and chains followed, give every pair one rule.
abbrev pub TexRules : Type 0
TexRules =
    (file : List ℕ) → AreBytes file → lengths_refusal file ≡ 0 → tex_loads file ≡ true → (l : Left) (r : ℕ) →
    tex_rules file l r ≡ rules_of (meant_font file) l r

-- Of every file that TeX loads, every word, either boundary choice and any right item or none: the main loop over the bytes of the file
-- stops exactly when the reading of the word ends, by the rules of the font that the file means, and then its nodes are the reading's
-- items.
abbrev pub FileRead : Type 0
FileRead =
    (file : List ℕ) → AreBytes file → lengths_refusal file ≡ 0 → tex_loads file ≡ true →
    (boundary : Bool) (word : List ℕ) (right : Option ℕ) →
    SameNodes (tex_rules file) (rules_of (meant_font file)) boundary (has_bchar_label file) word right

-- A font file set as TeX sets it: the main loop over its bytes stops on a caption, and the run gives its nodes, one for one, and then the
-- end for ever.
pub record SetAsTex (file : List ℕ) (pairs ops : List ℤ) (word : List ℕ) (options : RunOptions) : Type 0 where
  pub nodes : List Node
  pub stops : LoopStops (tex_rules file) (not options.disable_left_boundary) (has_bchar_label file) word
      (right_item (meant_font file).boundary options.right_boundary_override) nodes
  pub given : GivesNodes (meant_font file) pairs ops word options nodes

-- So it is with every file that TeX loads and that means a font which compile accepts without a loop (where `check_file` answers a font of
-- 0 loops, it does), with the pairs and ops that compile wrote, and with every caption.
abbrev pub FileSet : Type 0
FileSet =
    (file : List ℕ) → AreBytes file → lengths_refusal file ≡ 0 → tex_loads file ≡ true →
    (size : ℕ) (pairs ops loops : List ℤ) (work : List ℕ) (p o : ℕ) (pairs' ops' loops' : List ℤ) (work' : List ℕ) →
    Compiles (meant_font file) size pairs ops loops work (Tables p o 0) pairs' ops' loops' work' →
    (word : List ℕ) (options : RunOptions) → Caption word options → SetAsTex file (take (6 * p) pairs') (take (2 * o) ops') word options
