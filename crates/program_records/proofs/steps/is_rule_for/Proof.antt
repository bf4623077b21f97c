-- `program_records::steps::is_rule_for` meets its contract: a redirect is no rule, and any other record is one for its right character. Assumes nothing.
use mathlib.Core.Path.{◌≡◌, refl}
use mathlib.Core.Bool.{false}
use mathlib.Core.List.{[], ◌∷◌}
use types.Run.{OneOf, miss}
use denote.Enum.Declared.{tag_of}
use Rattle.lang.specs.declared.operation.Operation.{Operation}
use Rattle.lang.specs.declared.operation.Operation.TheVariants.{Kern, KernAtIndex, Ligature, EntrypointRedirect}
use Rattle.lang.specs.contracts.operation.Operation.{the_type}
use Rattle.program_chain.specs.Chains.{is_redirect_op}
use borrow.Author.Rules.{rules}
use Rattle.program_records.proofs.steps.is_rule_for.Statement.{statement}
use Rattle.program_records.proofs.steps.is_rule_for.Tie as tie

plain : (operation : Operation) → OneOf (0 ∷ 1 ∷ 2 ∷ []) (tag_of the_type operation) → is_redirect_op operation ≡ false
plain (Kern k) h = refl
plain (KernAtIndex i) h = refl
plain (Ligature c p t) h = refl
plain (EntrypointRedirect t f) h = absurd (miss (0 ∷ 1 ∷ 2 ∷ []) 3 tt h)

enum_told : tie.Need-enum_told-1
enum_told c = search rules

returns : tie.Need-returns-in-EntrypointRedirect
returns c = search rules

returns-2 : tie.Need-returns-in_default
returns-2 c = rw (plain c.args.x.operation c.in_default.in_default-own.keys2)

pub is_rule_for_spec : {M : Type 1} → statement M
is_rule_for_spec =
    tie.close
    (tie.spec
    enum_told
    returns
    returns-2)
