-- `program_chain::is_rule_for` meets its contract: the kind tells whether the instruction is a redirect. Assumes nothing.
use mathlib.Core.Path.{◌≡◌, sym, ap, ◌∙◌}
use Prim.Native.Nat.{ℕ, ◌%◌}
use lib.Dec.{eqb}
use borrow.Author.Rules.{rules}
use Rattle.lang.specs.Records.{instruction_at}
use Rattle.program_chain.proofs.Rules.{redirect_passed_lem, redirect_kind}
use Rattle.program_chain.proofs.is_rule_for.Statement.{statement}
use Rattle.program_chain.proofs.is_rule_for.Tie as tie

is-redirect-requires : tie.Need-is_redirect-requires
is-redirect-requires c κs = search rules

returns : tie.Need-returns-then-is_redirect
returns c =
    let a = c.args in
    sym (redirect_passed_lem a.right (instruction_at a.instructions.now a.i)
    (redirect_kind a.instructions.now a.i ∙ sym c.is_redirect.ensures ∙ c.if-is_redirect.true))

field-at-requires : tie.Need-field_at-requires
field-at-requires c κs = search rules

returns-2 : tie.Need-returns
returns-2 c =
    let a = c.args in
    rw (redirect_kind a.instructions.now a.i ∙ sym c.is_redirect.ensures ∙ c.if-is_redirect.false)
    (ap (λ (w : ℕ). eqb (w % 256) a.right) c.field_at.ensures.is)

pub is_rule_for_spec : {M : Type 1} → statement M
is_rule_for_spec =
    tie.close
    (tie.spec
    is-redirect-requires
    returns
    field-at-requires
    returns-2)
