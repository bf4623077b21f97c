-- `step_quick::calm::is_taken` meets its contract: each of the three refusals of a call is 0, and the override is at most 255.
-- Assumes nothing.
use mathlib.Core.Path.{◌≡◌, sym, ◌∙◌}
use Rattle.lang.specs.Checks.{absent_refusal}
use Rattle.captions.proofs.Passed.{absent_passed}
use Rattle.step_quick.proofs.Laws.{boundary_refused, override_refused, word_taken}
use borrow.Author.Rules.{rules}
use Rattle.step_quick.proofs.calm.is_taken.Statement.{statement}
use Rattle.step_quick.proofs.calm.is_taken.Tie as tie

edge : (c : tie.After-absent_refusal) → c.absent_refusal.result ≡ absent_refusal 255 c.args.boundary
edge c = absent_passed c.ranges.boundary c.absent_refusal.ensures

-- the override of the options that were passed is an i32
override : (c : tie.After-absent_refusal-2) →
    c.absent_refusal-2.result ≡ absent_refusal 255 c.args.options.right_boundary_override
override c =
    absent_passed {z = c.args.options.right_boundary_override}
    (record { sfits = c.struct_told-1.given.1.0.1 }) c.absent_refusal-2.ensures

absent-refusal-requires : tie.Need-absent_refusal-requires
absent-refusal-requires c κs = search rules

returns : tie.Need-returns-then-absent_refusal-ne0
returns c =
    let a = c.args in
    let e = edge c.before in
    boundary_refused a.boundary a.word.now a.options (λ h. c.if-absent_refusal-ne0.true (e ∙ h))

absent-refusal-requires-2 : tie.Need-absent_refusal-requires-2
absent-refusal-requires-2 c κs = search rules

returns-2 : tie.Need-returns-then-absent_refusal-ne0-2
returns-2 c =
    let a = c.args in
    let f = override c.before in
    override_refused a.boundary a.word.now a.options (λ h. c.if-absent_refusal-ne0-2.true (f ∙ h))

returns-3 : tie.Need-returns
returns-3 c =
    let a = c.args in
    let e = edge c.before.before.before.before in
    let f = override c.before in
    word_taken a.boundary a.word.now a.options
    (sym e ∙ c.if-absent_refusal-ne0.false) (sym f ∙ c.if-absent_refusal-ne0-2.false)

pub is_taken_spec : {M : Type 1} → statement M
is_taken_spec =
    tie.close
    (tie.spec
    absent-refusal-requires
    returns
    absent-refusal-requires-2
    returns-2
    returns-3)
