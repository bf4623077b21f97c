-- `caption_run::begin::begin` meets its contract: a fresh state, or the number of the refusal.
-- Assumes nothing.
use mathlib.Core.Path.{◌≡◌, ap, ◌∙◌}
use lib.IntN.{ℤ}
use Rattle.words.proofs.Bits.{number_word}
use Rattle.captions.specs.Begin.{begin_refusal, fresh_state}
use Rattle.caption_run.proofs.BeginLaws.{begun_refused, begun_run}
use borrow.Author.Rules.{rules}
use Rattle.caption_run.proofs.begin.begin.Statement.{statement}
use Rattle.caption_run.proofs.begin.begin.Tie as tie

refusal : (c : tie.After-begin_refusal-refusal) →
    c.begin_refusal-refusal.result ≡ begin_refusal c.args.pairs.now c.args.ops.now c.args.boundary
    c.args.word.now c.args.options
refusal c =
    c.begin_refusal-refusal.ensures
    ∙ ap (λ (z : ℤ). begin_refusal c.args.pairs.now c.args.ops.now z c.args.word.now c.args.options)
    (number_word c.args.boundary c.ranges.boundary)

begin-refusal-requires : tie.Need-begin_refusal-refusal-requires
begin-refusal-requires c κs = search rules

returns : tie.Need-returns-then-refusal-ne0
returns c =
    let a = c.args in
    begun_refused c.begin_refusal-refusal.result (begin_refusal a.pairs.now a.ops.now a.boundary a.word.now a.options) (refusal (c.before))
    (fresh_state a.word.now a.options) c.if-refusal-ne0.true

fresh-state-requires : tie.Need-fresh_state-requires
fresh-state-requires c κs = search rules

returns-2 : tie.Need-returns
returns-2 c =
    let a = c.args in
    begun_run c.begin_refusal-refusal.result (begin_refusal a.pairs.now a.ops.now a.boundary a.word.now a.options) (refusal (c.before.before)) c.if-refusal-ne0.false
    c.fresh_state.ensures

pub begin_spec : {M : Type 1} → statement M
begin_spec =
    tie.close
    (tie.spec
    begin-refusal-requires
    returns
    fresh-state-requires
    returns-2)
