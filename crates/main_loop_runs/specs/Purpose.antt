-- A run gives node for node what TeX gives (R496): characters, kerns by their scaled value (TeX 571), ligatures with their letters
-- (lig_ptr)
-- as originals and their subtype as the two flags. Theorem `every-font-set` of proofs/Theorems. No contract cites this.
use Rattle.std.specs.Prelude.{◌≡◌, Bool, not, List, [], ◌∷◌, map, ℕ, zero, suc, ◌*◌, ℤ, take}
use Rattle.std.specs.Int.Signed.{non_neg}
use Rattle.fonts.specs.declared.Compiled.TheVariants.{Tables}
use Rattle.fonts.specs.Fonts.{Font, rules_of}
use Rattle.fonts.specs.Compiled.{Compiles}
use Rattle.captions.specs.declared.RunOptions.{RunOptions}
use Rattle.captions.specs.declared.State.{State}
use Rattle.captions.specs.declared.Answer.{Answer}
use Rattle.captions.specs.declared.Answer.TheVariants.{Char, Ligature, Kern, End, Refused}
use Rattle.captions.specs.declared.Begun.TheVariants.{Run}
use Rattle.captions.specs.Begin.{begin_of}
use Rattle.captions.specs.Steps.{right_item}
use Rattle.captions.specs.Runs.{answers}
use Rattle.captions.specs.Queries.{original_of}
use Rattle.captions.specs.Demand3.{Caption}
use Rattle.main_loops.specs.Nodes.{Node, char_node, kern_node, ligature_node}
use Rattle.main_loops.specs.Loop.{subtype_of}
use Rattle.main_loops.specs.Purpose.{LoopStops}

-- an answer as TeX's node, the end, or a refusal's number
pub data NodeAnswer : Type 0 where
  is_node : Node → NodeAnswer
  is_over : NodeAnswer
  is_refusal : ℕ → NodeAnswer

-- of a ligature its letters are its original, and its subtype both flags
abbrev pub answer_node : List ℕ → Answer → NodeAnswer
answer_node word (Char c start) = is_node (char_node c)
answer_node word (Ligature c start n left right) = is_node (ligature_node c (original_of word start n) (subtype_of left right))
answer_node word (Kern k) = is_node (kern_node k)
answer_node word End = is_over
answer_node word (Refused n) = is_refusal n

-- the first n of a list's nodes, and then the end for ever
unfoldable pub nodes_then_end : ℕ → List Node → List NodeAnswer
nodes_then_end zero ns = []
nodes_then_end (suc n) [] = is_over ∷ nodes_then_end n []
nodes_then_end (suc n) (v ∷ ns) = is_node v ∷ nodes_then_end n ns

-- begin, lent these pairs and ops, is not refused, and for every n the answers of the n steps from it are the first n of the nodes
pub record GivesNodes (f : Font) (pairs ops : List ℤ) (word : List ℕ) (options : RunOptions) (ns : List Node) : Type 0 where
  pub start : State
  pub begins : begin_of pairs ops f.boundary word options ≡ Run start
  pub answered : (n : ℕ) → map (answer_node word) (answers pairs ops f.boundary word options n start) ≡ nodes_then_end n ns

-- TeX's main loop stops on the word, by the font's rules, and the run gives its nodes
pub record NodeForNode (f : Font) (pairs ops : List ℤ) (word : List ℕ) (options : RunOptions) : Type 0 where
  pub nodes : List Node
  pub stops : LoopStops (rules_of f) (not options.disable_left_boundary) (non_neg f.left) word
      (right_item f.boundary options.right_boundary_override) nodes
  pub given : GivesNodes f pairs ops word options nodes

-- So it is of every font that compile accepts without a loop, with the pairs and ops that it wrote, of every word, either boundary choice
-- and any override (demand 3's captions).
abbrev pub EveryFontSet : Type 0
EveryFontSet =
    (f : Font) (size : ℕ) (pairs ops loops : List ℤ) (work : List ℕ) (p o : ℕ) (pairs' ops' loops' : List ℤ) (work' : List ℕ) →
    Compiles f size pairs ops loops work (Tables p o 0) pairs' ops' loops' work' →
    (word : List ℕ) (options : RunOptions) → Caption word options → NodeForNode f (take (6 * p) pairs') (take (2 * o) ops') word options
