-- TeX's main loop does what the one-by-one reading says (R495): theorem `same_nodes` of proofs/Theorems. No contract cites this.
use Rattle.std.specs.Prelude.{◌≡◌, Bool, false, List, map, ℕ}
use Rattle.std.proofs.Math.Option.{Option}
use Rattle.reading.specs.Items.{bnd, free, Rules, plain, inserted, Out, glyph, kern}
use Rattle.reading.specs.Reading.{reading, ended}
use Rattle.main_loops.specs.Nodes.{Node, char_node, kern_node, ligature_node, reswitch}
use Rattle.main_loops.specs.Loop.{main_loop, turns}

-- a node as an item of a reading: a ligature without its letters and subtype
abbrev pub node_item : Node → Out
node_item (char_node c) = glyph (plain c)
node_item (kern_node k) = kern k
node_item (ligature_node c letters subtype) = glyph (inserted c)

-- the loop stops on a word, and has made these nodes
pub record LoopStops (rule : Rules) (boundary label : Bool) (word : List ℕ) (right : Option ℕ) (ns : List Node) : Type 0 where
  pub count : ℕ
  pub stops : turns rule count (main_loop boundary label word right) ≡ reswitch ns

-- the reading of a word ends, and gives these items
pub record ReadsAs (rule : Rules) (boundary : Bool) (word : List ℕ) (right : Option ℕ) (items : List Out) : Type 0 where
  pub steps : ℕ
  pub reads : reading rule steps boundary word right ≡ ended items

-- the loop, by what it finds, stops on a word exactly when the reading by the rules ends, and then its nodes are the reading's items
pub record SameNodes (finds rule : Rules) (boundary label : Bool) (word : List ℕ) (right : Option ℕ) : Type 0 where
  pub stops_if_read : (items : List Out) → ReadsAs rule boundary word right items →
      (ns : List Node) × LoopStops finds boundary label word right ns × (map node_item ns ≡ items)
  pub read_if_stops : (ns : List Node) → LoopStops finds boundary label word right ns → ReadsAs rule boundary word right (map node_item ns)

-- So it is of all rules, every word, either boundary choice and any right item or none; where there is no bchar_label, the left boundary
-- has
-- no rule.
abbrev pub EveryWordRead : Type 0
EveryWordRead =
    (rule : Rules) (boundary label : Bool) → (label ≡ false → (r : ℕ) → rule bnd r ≡ free) → (word : List ℕ) (right : Option ℕ) →
    SameNodes rule rule boundary label word right
