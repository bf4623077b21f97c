-- The nodes that TeX makes of the words of specs/Words are those of the definitions: antt computes them all at once.
-- Assumes nothing.
use mathlib.Core.Path.{◌≡◌, refl}
use mathlib.Core.List.{map}
use Rattle.main_loops.specs.Loop.{turns}
use Rattle.main_loops.specs.Words.{rule_among, tex_words, tex_made, tex_nodes}

pub tex_words_lem : map tex_made tex_words ≡ map tex_nodes tex_words
unfolding turns rule_among
tex_words_lem = refl
