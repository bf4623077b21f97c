-- Fourteen words of TeX's own making (R493): one for each operation, for a kern and for each boundary, and the nodes that TeX makes of
-- them.
-- Theorem `tex-words` of proofs/Words computes the nodes by the definitions, and tools/tex/words has TeX itself print them. It reads this
-- file, a rule and a word to a line; letters are ASCII codes, the boundary character is 33, and the kern is 10 points.
use Rattle.std.specs.Prelude.{Bool, true, false, cond, List, [], ◌∷◌, ℕ, ℤ, pos, eqb}
use Rattle.std.proofs.Math.Option.{Option, none, some}
use Rattle.lang.specs.Every.{both}
use Rattle.lang.specs.declared.operation.PostLigOperation.TheVariants.{RetainBothMoveNowhere, RetainBothMoveToInserted}
use Rattle.lang.specs.declared.operation.PostLigOperation.TheVariants.{RetainBothMoveToRight, RetainRightMoveToInserted}
use Rattle.lang.specs.declared.operation.PostLigOperation.TheVariants.{RetainRightMoveToRight, RetainLeftMoveNowhere}
use Rattle.lang.specs.declared.operation.PostLigOperation.TheVariants.{RetainLeftMoveToInserted, RetainNeitherMoveToInserted}
use Rattle.reading.specs.Items.{Left, bnd, chr, Rule, free, kerned, lig}
use Rattle.main_loops.specs.Nodes.{Node, char_node, kern_node, ligature_node, Jump, reswitch}
use Rattle.main_loops.specs.Loop.{main_loop, turns}

-- ---- the font

pub data TexRule : Type 0 where
  ruled : Left → ℕ → Rule → TexRule

abbrev pub is_left_of : Left → Left → Bool
is_left_of bnd bnd = true
is_left_of bnd (chr d) = false
is_left_of (chr c) bnd = false
is_left_of (chr c) (chr d) = eqb c d

unfoldable pub rule_among : List TexRule → Left → ℕ → Rule
rule_among [] l r = free
rule_among (ruled m s rule ∷ rules) l r = cond (both (is_left_of m l) (eqb s r)) rule (rule_among rules l r)

abbrev pub tex_word_rules : List TexRule
tex_word_rules =
    ruled (chr 97) 98 (kerned (pos 655360))
    ∷ ruled (chr 99) 100 (lig RetainNeitherMoveToInserted 101)
    ∷ ruled (chr 102) 103 (lig RetainRightMoveToInserted 104)
    ∷ ruled (chr 105) 106 (lig RetainLeftMoveNowhere 107)
    ∷ ruled (chr 108) 109 (lig RetainBothMoveNowhere 110)
    ∷ ruled (chr 111) 112 (lig RetainRightMoveToRight 113)
    ∷ ruled (chr 114) 115 (lig RetainLeftMoveToInserted 116)
    ∷ ruled (chr 117) 118 (lig RetainBothMoveToInserted 119)
    ∷ ruled (chr 120) 121 (lig RetainBothMoveToRight 122)
    ∷ ruled bnd 65 (lig RetainRightMoveToInserted 66)
    ∷ ruled (chr 67) 33 (lig RetainBothMoveNowhere 68)
    ∷ ruled bnd 69 (lig RetainLeftMoveNowhere 70)
    ∷ ruled (chr 70) 33 (lig RetainNeitherMoveToInserted 71)
    ∷ ruled (chr 104) 103 (lig RetainBothMoveNowhere 72)
    ∷ ruled (chr 72) 103 (lig RetainNeitherMoveToInserted 73)
    ∷ []

-- ---- the words

-- with the left boundary or without, the letters, the right item, and the nodes
pub record TexWord : Type 0 where
  pub boundary : Bool
  pub word : List ℕ
  pub right : Option ℕ
  pub nodes : List Node

abbrev pub tex_word : Bool → List ℕ → Option ℕ → List Node → TexWord
tex_word boundary word right nodes = record { boundary = boundary; word = word; right = right; nodes = nodes }

abbrev pub tex_words : List TexWord
tex_words =
    tex_word true (97 ∷ 98 ∷ []) none (char_node 97 ∷ kern_node (pos 655360) ∷ char_node 98 ∷ [])
    ∷ tex_word true (99 ∷ 100 ∷ []) none (ligature_node 101 (99 ∷ 100 ∷ []) 0 ∷ [])
    ∷ tex_word true (102 ∷ 103 ∷ []) none (ligature_node 104 (102 ∷ []) 0 ∷ ligature_node 73 (103 ∷ []) 0 ∷ [])
    ∷ tex_word true (105 ∷ 106 ∷ []) none (char_node 105 ∷ ligature_node 107 (106 ∷ []) 0 ∷ [])
    ∷ tex_word true (108 ∷ 109 ∷ []) none (char_node 108 ∷ ligature_node 110 [] 0 ∷ char_node 109 ∷ [])
    ∷ tex_word true (111 ∷ 112 ∷ []) none (ligature_node 113 (111 ∷ []) 0 ∷ char_node 112 ∷ [])
    ∷ tex_word true (114 ∷ 115 ∷ []) none (char_node 114 ∷ ligature_node 116 (115 ∷ []) 0 ∷ [])
    ∷ tex_word true (117 ∷ 118 ∷ []) none (char_node 117 ∷ ligature_node 119 [] 0 ∷ char_node 118 ∷ [])
    ∷ tex_word true (120 ∷ 121 ∷ []) none (char_node 120 ∷ ligature_node 122 [] 0 ∷ char_node 121 ∷ [])
    ∷ tex_word true (65 ∷ []) none (ligature_node 66 [] 2 ∷ char_node 65 ∷ [])
    ∷ tex_word false (65 ∷ []) none (char_node 65 ∷ [])
    ∷ tex_word true (67 ∷ []) (some 33) (char_node 67 ∷ ligature_node 68 [] 1 ∷ [])
    ∷ tex_word true (67 ∷ []) none (char_node 67 ∷ [])
    ∷ tex_word true (69 ∷ []) (some 33) (ligature_node 71 (69 ∷ []) 3 ∷ [])
    ∷ []

-- what the loop makes of a word within twenty turns
abbrev pub tex_made : TexWord → Jump
tex_made w = turns (rule_among tex_word_rules) 20 (main_loop w.boundary true w.word w.right)

abbrev pub tex_nodes : TexWord → Jump
tex_nodes w = reswitch w.nodes
