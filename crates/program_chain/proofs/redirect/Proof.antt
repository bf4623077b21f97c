-- `program_chain::redirect` meets its contract: a redirect is what its target's two bytes mean, and all else is kept.
-- Assumes nothing.
use mathlib.Core.Path.{◌≡◌, refl, ◌∙◌}
use mathlib.Core.Bool.{Bool}
use mathlib.Core.List.{[], ◌∷◌}
use Prim.Native.Nat.{ℕ, ◌/◌, ◌%◌}
use types.Run.{OneOf, miss}
use denote.Enum.Declared.{tag_of}
use Rattle.lang.specs.declared.operation.Operation.{Operation}
use Rattle.lang.specs.declared.operation.Operation.TheVariants.{Kern, KernAtIndex, Ligature, EntrypointRedirect}
use Rattle.lang.specs.Operations.{from_bytes}
use Rattle.program_chain.specs.Chains.{redirected}
use Rattle.lang.specs.contracts.operation.Operation.{the_type}
use borrow.Author.Rules.{rules}
use Rattle.program_chain.proofs.redirect.Statement.{statement}
use Rattle.program_chain.proofs.redirect.Tie as tie

turned : (operation : Operation) (t : ℕ) (f : Bool) (r : Operation) → operation ≡ EntrypointRedirect t f → r ≡ from_bytes (t / 256) (t % 256) →
    r ≡ redirected operation
turned operation t f r e h = h ∙ rw e

kept : (operation : Operation) → OneOf (0 ∷ 1 ∷ 2 ∷ []) (tag_of the_type operation) → operation ≡ redirected operation
kept (Kern k) h = refl
kept (KernAtIndex i) h = refl
kept (Ligature c p t) h = refl
kept (EntrypointRedirect t f) h = absurd (miss (0 ∷ 1 ∷ 2 ∷ []) 3 tt h)

enum-known-operation : tie.Need-enum_known-operation
enum-known-operation c = search rules

cast-lig-kern-operation-from-bytes : tie.Need-overflow_cast-target
cast-lig-kern-operation-from-bytes c = search rules

cast-lig-kern-operation-from-bytes-2 : tie.Need-overflow_cast-target-in-EntrypointRedirect
cast-lig-kern-operation-from-bytes-2 c = search rules

lig-kern-operation-from-bytes-requires : tie.Need-lig_kern_operation_from_bytes-requires
lig-kern-operation-from-bytes-requires c κs = search rules

returns : tie.Need-returns-in-EntrypointRedirect
returns c =
    turned c.args.operation _ _ c.lig_kern_operation_from_bytes.result c.in-EntrypointRedirect.is
    c.lig_kern_operation_from_bytes.ensures

returns-2 : tie.Need-returns-in_default
returns-2 c = kept c.args.operation c.in_default.in_default-own.keys2

pub redirect_spec : {M : Type 1} → statement M
redirect_spec =
    tie.close
    (tie.spec
    enum-known-operation
    cast-lig-kern-operation-from-bytes
    cast-lig-kern-operation-from-bytes-2
    lig-kern-operation-from-bytes-requires
    returns
    returns-2)
