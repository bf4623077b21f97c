-- A pair's ops as nodes: the first character among them takes the letters of the left and the left boundary.
-- Assumes nothing.
use mathlib.Core.Path.{◌≡◌, refl}
use mathlib.Core.Bool.{Bool, true, false, cond, not}
use mathlib.Core.List.{List, [], ◌∷◌, ◌++◌}
use Prim.Native.Nat.{ℕ, zero, suc}
use native.Mathlib.Omega.{arith}
use Rattle.lang.specs.Every.{both}
use Rattle.reading.specs.Items.{Item, item, Head, edge, at, Out, glyph, kern}
use Rattle.main_loops.specs.Nodes.{Node, char_node, kern_node, ligature_node}
use Rattle.main_loops.specs.Loop.{subtype_of}

-- the nodes made, and what a next one takes in: as the left stands its own node, by its code, and else the left's letters and boundary
pub record Held : Type 0 where
  pub nodes : List Node
  pub own : ℕ → List Node
  pub letters : List ℕ
  pub lft : Bool

abbrev pub hold : List Node → (ℕ → List Node) → List ℕ → Bool → Held
hold ns own ls lft = record { nodes = ns; own = own; letters = ls; lft = lft }

-- a character as it came; no op that comes after another is one
abbrev pub none_own : ℕ → List Node
none_own c = char_node c ∷ []

-- nothing or one kern alone is still to come
abbrev pub short : List Out → Bool
short [] = true
short (kern k ∷ []) = true
short (kern k ∷ (o ∷ os)) = false
short (glyph x ∷ os) = false

-- ops one after the other; `ends` is whether the last of them is at the right boundary
unfoldable pub give_all : Bool → Held → List Out → Held
give_all ends h [] = h
give_all ends h (kern k ∷ os) = give_all ends (hold (h.nodes ++ (kern_node k ∷ [])) h.own h.letters h.lft) os
give_all ends h (glyph (item false c) ∷ os) = give_all ends (hold (h.nodes ++ h.own c) none_own [] false) os
give_all ends h (glyph (item true c) ∷ os) =
    give_all ends (hold (h.nodes ++ (ligature_node c h.letters (subtype_of h.lft (both ends (short os))) ∷ [])) none_own [] false) os

abbrev pub head_flag_of : Head → Bool
head_flag_of edge = false
head_flag_of (at (item f c)) = f

-- some op is a character
unfoldable pub some_glyph : List Out → Bool
some_glyph [] = false
some_glyph (kern k ∷ os) = some_glyph os
some_glyph (glyph x ∷ os) = true

pub no : ◌≡◌ {A = Bool} false true → ⊥
no e = let z : ◌≡◌ {A = ℕ} 0 1 = cc in omega arith

pub glyph_long : (os : List Out) → some_glyph os ≡ true → short os ≡ false
unfolding some_glyph
glyph_long [] h = absurd (no h)
glyph_long (kern k ∷ []) h = absurd (no h)
glyph_long (kern k ∷ (o ∷ os)) h = refl
glyph_long (glyph x ∷ os) h = refl
