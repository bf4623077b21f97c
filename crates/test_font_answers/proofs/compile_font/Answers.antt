use Rattle.test_font_answers.proofs.Numbers.{numbered}
use Rattle.test_font_answers.proofs.compile_font.Goals as goal

-- a refusal has a number
pub returns : goal.returns
returns c = numbered c.compile.ensures
