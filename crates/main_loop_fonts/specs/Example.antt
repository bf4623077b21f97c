-- A font file of 21 words that TeX loads, and three words that it sets with it (R494): theorem `small-file-set` of proofs/Example computes
-- them from the bytes, and tools/tex/words.py has TeX itself print them. An entry is at a redirect, which names the boundary character 33
-- too; a next is followed, a kern is scaled, and the last instruction holds the left entry.
use Rattle.std.specs.Prelude.{Bool, true, false, List, [], ◌∷◌, ℕ, ℤ, pos}
use Rattle.std.proofs.Math.Option.{Option, none, some}
use Rattle.main_loops.specs.Nodes.{char_node, kern_node, ligature_node, Jump}
use Rattle.main_loops.specs.Loop.{main_loop, turns}
use Rattle.main_loops.specs.Words.{TexWord, tex_word}
use Rattle.main_loop_fonts.specs.Search.{tex_rules, has_bchar_label}

-- the lengths, the header, the words of a, b and c, the dimensions, four instructions and a kern
abbrev pub small_file : List ℕ
small_file =
    0 ∷ 21 ∷ 0 ∷ 2 ∷ 0 ∷ 97 ∷ 0 ∷ 99 ∷ 0 ∷ 2 ∷ 0 ∷ 1 ∷ 0 ∷ 1 ∷ 0 ∷ 1 ∷ 0 ∷ 4 ∷ 0 ∷ 1 ∷ 0 ∷ 0 ∷ 0 ∷ 0
    ∷ 0 ∷ 0 ∷ 0 ∷ 0 ∷ 0 ∷ 160 ∷ 0 ∷ 0
    ∷ 1 ∷ 0 ∷ 1 ∷ 0 ∷ 1 ∷ 0 ∷ 0 ∷ 0 ∷ 1 ∷ 0 ∷ 0 ∷ 0
    ∷ 0 ∷ 0 ∷ 0 ∷ 0 ∷ 0 ∷ 8 ∷ 0 ∷ 0 ∷ 0 ∷ 0 ∷ 0 ∷ 0 ∷ 0 ∷ 0 ∷ 0 ∷ 0 ∷ 0 ∷ 0 ∷ 0 ∷ 0
    ∷ 255 ∷ 33 ∷ 0 ∷ 1 ∷ 0 ∷ 97 ∷ 128 ∷ 0 ∷ 128 ∷ 98 ∷ 0 ∷ 99 ∷ 255 ∷ 0 ∷ 0 ∷ 2
    ∷ 0 ∷ 16 ∷ 0 ∷ 0
    ∷ []

abbrev pub small_words : List TexWord
small_words =
    tex_word true (97 ∷ 98 ∷ []) (some 33) (ligature_node 99 (97 ∷ 98 ∷ []) 0 ∷ [])
    ∷ tex_word true (97 ∷ 97 ∷ []) (some 33) (char_node 97 ∷ kern_node (pos 655360) ∷ char_node 97 ∷ [])
    ∷ tex_word true (98 ∷ []) (some 33) (ligature_node 99 (98 ∷ []) 2 ∷ [])
    ∷ []

-- what the loop makes of a word within ten turns, by what it finds in the file
abbrev pub small_made : TexWord → Jump
small_made w = turns (tex_rules small_file) 10 (main_loop w.boundary (has_bchar_label small_file) w.word w.right)
