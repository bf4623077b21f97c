-- `pl_steps::kinds::comment` meets its contract.
-- Assumes nothing.
use mathlib.Core.Path.{ap}
use mathlib.Core.Option.{some}
use Rattle.property_lists.specs.declared.Property.TheVariants as property
use Rattle.property_lists.specs.declared.ValueRead.TheVariants as value
use Rattle.property_lists.specs.Chars.{then_by}
use Rattle.pl_blanks.proofs.Places.{known_at, known_none}
use Rattle.pl_steps.proofs.ReadLaws.{property_at_lem, property_none}
use borrow.Author.Rules.{rules}
use native.Mathlib.Omega.{arith}
use Rattle.pl_steps.proofs.kinds.comment.Statement.{statement}
use Rattle.pl_steps.proofs.kinds.comment.Tie as tie

past-comment-requires : tie.Need-past_comment-requires
past-comment-requires c κs = search rules

enum-known-n : tie.Need-enum_known-n
enum-known-n c = search rules

enum_told : tie.Need-enum_told-1
enum_told c = search rules

returns : tie.Need-returns-in-Some
returns c =
    let k = known_at c.past_comment.ensures c.in-Some.is in
    property_at_lem _ (ap (λ o. then_by o (λ rest. some (property.Comment, rest))) k.0) (λ h. omega (arith, k.1 h)) k.2

returns-2 : tie.Need-returns-in-None
returns-2 c =
    property_none _ (ap (λ o. then_by o (λ rest. some (property.Comment, rest))) (known_none c.past_comment.ensures c.in-None.is))

pub comment_spec : {M : Type 1} → statement M
comment_spec =
    tie.close
    (tie.spec
    past-comment-requires
    enum-known-n
    enum_told
    returns
    returns-2)
