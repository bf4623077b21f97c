-- `caption_run::begin::codes_refusal` meets its contract: the first of two numbers that is not 0.
-- Assumes nothing.
use mathlib.Core.Path.{ap, ◌∙◌}
use Rattle.words.proofs.Bits.{number_word}
use Rattle.lang.proofs.Refusals.{first_refusal, later_refusal_lem}
use Rattle.captions.specs.Begin.{override_refusal}
use borrow.Author.Rules.{rules}
use Rattle.caption_run.proofs.begin.codes_refusal.Statement.{statement}
use Rattle.caption_run.proofs.begin.codes_refusal.Tie as tie

letters-refusal-requires : tie.Need-letters_refusal-letters-requires
letters-refusal-requires c κs = search rules

returns : tie.Need-returns-then-letters-ne0
returns c = first_refusal _ c.letters_refusal-letters.ensures c.if-letters-ne0.true

override-refusal-requires : tie.Need-override_refusal-requires
override-refusal-requires c κs = search rules

returns-2 : tie.Need-returns
returns-2 c =
    later_refusal_lem c.letters_refusal-letters.ensures c.if-letters-ne0.false
    (c.override_refusal.ensures
    ∙ ap override_refusal
    (number_word c.args.options.right_boundary_override (record { sfits = c.struct_told-1.given.1.0.1 })))

pub codes_refusal_spec : {M : Type 1} → statement M
codes_refusal_spec =
    tie.close
    (tie.spec
    letters-refusal-requires
    returns
    override-refusal-requires
    returns-2)
