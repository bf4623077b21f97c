-- The rule of a pair as `pair_rule` answers it: a kern by the 32 bits of its scaled value.
use Rattle.std.specs.Prelude.{Bool, cond, ℕ}
use Rattle.words.specs.Words.{number_of}
use Rattle.reading.specs.Items.{Left, bnd, chr, Rule, free, kerned, lig}
use Rattle.read_rule.specs.declared.PairRule.{PairRule}
use Rattle.read_rule.specs.declared.PairRule.TheVariants as Answer

-- the rule that an answer means
abbrev pub meant : PairRule → Rule
meant Answer.Free = free
meant (Answer.Kern w) = kerned (number_of w)
meant (Answer.Ligature p c) = lig p c

-- the left of a pair: the boundary, or a character
abbrev pub left_as : Bool → ℕ → Left
left_as boundary c = cond boundary bnd (chr c)
