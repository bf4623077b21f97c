-- `c_font_waits::is_kept` meets its contract, by whether anything is asked for.
-- Assumes nothing.
use mathlib.Core.Path.{◌∙◌}
use Rattle.words.proofs.Bits.{number_word}
use Rattle.c_font_waits.specs.Waiting.{is_waiting}
use borrow.Author.Rules.{rules}
use Rattle.c_font_waits.proofs.is_kept.Statement.{statement}
use Rattle.c_font_waits.proofs.is_kept.Tie as tie

returns : tie.Need-returns-then-idle
returns c = search rules

is-waiting-requires : tie.Need-is_waiting-requires
is-waiting-requires c κs = search rules

returns-2 : tie.Need-returns
returns-2 c =
    let a = c.args in
    rw c.if-idle.false
    (c.is_waiting.ensures
    ∙ (λ j. is_waiting (number_word a.boundary c.ranges.boundary j) (number_word a.asked_boundary c.ranges.asked_boundary j) a.pairs.now
    a.word.now a.run.now))

pub is_kept_spec : {M : Type 1} → statement M
is_kept_spec =
    tie.close
    (tie.spec
    returns
    is-waiting-requires
    returns-2)
