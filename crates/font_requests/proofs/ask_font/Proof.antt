-- `font_requests::ask_font` meets its contract: by whether the font is refused.
-- Assumes nothing.
use mathlib.Core.Path.{◌≡◌, sym, ap, ◌∙◌}
use lib.IntN.{ℤ}
use Rattle.words.proofs.Bits.{number_word}
use Rattle.font_runs.specs.Requests.{lending, request_refusal, asking}
use Rattle.font_requests.proofs.Laws.{refused_by, taken_by}
use borrow.Author.Rules.{rules}
use Rattle.font_requests.proofs.ask_font.Statement.{statement}
use Rattle.font_requests.proofs.ask_font.Tie as tie

-- the number, of the boundary character as it was lent
number : (c : tie.After-ask_refusal-refusal) → let a = c.args in
    c.ask_refusal-refusal.result ≡ request_refusal (lending a.pairs.now a.ops.now a.boundary)
number c =
    let a = c.args in
    c.ask_refusal-refusal.ensures ∙ ap (λ (z : ℤ). request_refusal (lending a.pairs.now a.ops.now z)) (number_word a.boundary c.ranges.boundary)

ask-refusal-requires : tie.Need-ask_refusal-refusal-requires
ask-refusal-requires c κs = search rules

returns : tie.Need-returns-then-refusal-ne0
returns c = let a = c.args in refused_by (asking a.number a.run) (number c.before) c.if-refusal-ne0.true

returns-2 : tie.Need-returns
returns-2 c =
    let a = c.args in
    taken_by (asking a.number a.run) (sym (number c.before.before) ∙ c.if-refusal-ne0.false)

pub ask_font_spec : {M : Type 1} → statement M
ask_font_spec =
    tie.close
    (tie.spec
    ask-refusal-requires
    returns
    returns-2)
