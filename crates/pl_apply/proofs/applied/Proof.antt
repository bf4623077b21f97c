-- `pl_apply::applied` meets its contract: each property by its own law.
-- Assumes nothing.
use mathlib.Core.Path.{◌≡◌, sym, ap, ◌∙◌}
use mathlib.Core.Bool.{true, false}
use Prim.Native.Nat.{ℕ, ◌+◌, ◌-◌, ◌*◌, ◌/◌, ◌≤◌}
use lib.Dec.{leb}
use borrow.Author.Tests.{leb-true, leb-false, not-true, not-false}
use Rattle.property_lists.specs.declared.Property.{Property}
use Rattle.property_lists.specs.Properties.{least_bytes}
use lib.IntN.{pos}
use Rattle.words.specs.Words.{number_of}
use Rattle.property_lists.specs.ListReading.{applied}
use Rattle.pl_apply.proofs.Laws.{small_number}
use Rattle.property_lists.specs.declared.Property.TheVariants as property
use Rattle.pl_apply.proofs.Applying.{arm_comment, arm_boundary, arm_table, arm_closed, arm_ended, arm_label, arm_stop, arm_skip, arm_step}
use borrow.Author.Rules.{rules}
use native.Mathlib.Omega.{arith}
use Rattle.pl_apply.proofs.applied.Statement.{statement}
use Rattle.pl_apply.proofs.applied.Tie as tie

least_few : (p : Property) → least_bytes p ≤ 4
least_few property.Ended = omega arith
least_few property.Closed = omega arith
least_few property.Comment = omega arith
least_few (property.Boundary c) = omega arith
least_few property.Table = omega arith
least_few (property.Label c) = omega arith
least_few property.Stop = omega arith
least_few (property.Skip n) = omega arith
least_few (property.Ligature op right inserted) = omega arith
least_few (property.Kern right bits) = omega arith

-- the property's bytes are a size
sized : (steps : ℕ) (p : Property) → leb steps ((18446744073709551615 - least_bytes p) / 4) ≡ true → 4 * steps + least_bytes p ≤ 18446744073709551615
sized steps p e = omega (arith, leb-true steps ((18446744073709551615 - least_bytes p) / 4) e, least_few p)

over : (steps : ℕ) (p : Property) → leb steps ((18446744073709551615 - least_bytes p) / 4) ≡ false → 4 * steps + least_bytes p ≤ 18446744073709551615 → ⊥
over steps p e h = omega (arith, leb-false steps ((18446744073709551615 - least_bytes p) / 4) e, least_few p)

is-size-requires : tie.Need-is_size-requires
is-size-requires c κs = search rules

returns : tie.Need-returns-then-not-is_size
returns c =
    let args = c.args in
    λ h z l st. absurd (over args.s.steps args.p (sym c.is_size.ensures ∙ c.if-not-is_size.true) h)

-- the bytes are a size where the test passes
enough : (c : tie.Else-not-is_size) → 4 * c.args.s.steps + least_bytes c.args.p ≤ 18446744073709551615
enough c =
    sized c.args.s.steps c.args.p (sym c.is_size.ensures ∙ c.if-not-is_size.false)

enum_told : tie.Need-enum_told-1
enum_told c = search rules

enum-known-p : tie.Need-enum_known-p
enum-known-p c = search rules

bounded-requires : tie.Need-bounded-requires
bounded-requires c κs = search rules

enum-told-2 : tie.Need-enum_told-in-Table
enum-told-2 c = search rules

table-opened-requires : tie.Need-table_opened-requires
table-opened-requires c κs = search rules

enum-known-p-2 : tie.Need-enum_known-p-in-Label-1
enum-known-p-2 c = search rules

label-requires : tie.Need-label-requires
label-requires c κs = omega (arith, enough c.before.before)

enum-told-3 : tie.Need-enum_told-in-Stop
enum-told-3 c = search rules

stop-requires : tie.Need-stop-requires
stop-requires c κs = omega (arith, enough c.before.before)

enum-known-p-3 : tie.Need-enum_known-p-in-Skip-1
enum-known-p-3 c = search rules

skip-requires : tie.Need-skip-requires
skip-requires c κs = omega (arith, enough c.before.before)

enum-known-p-4 : tie.Need-enum_known-p-in-Ligature-1
enum-known-p-4 c = search rules

operand-of-requires : tie.Need-operand_of-requires
operand-of-requires c κs = search rules

put-step-requires : tie.Need-put_step-requires
put-step-requires c κs =
    let h = rw c.in-Ligature.is at (enough c.before.before.before) in omega (arith, h)

enum-known-p-5 : tie.Need-enum_known-p-in-Kern-1
enum-known-p-5 c = search rules

put-step-requires-2 : tie.Need-put_step-requires-in-Kern
put-step-requires-2 c κs =
    let h = rw c.in-Kern.is at (enough c.before.before) in omega (arith, h)

enum-told-4 : tie.Need-enum_told-in-Closed
enum-told-4 c = search rules

table-closed-requires : tie.Need-table_closed-requires
table-closed-requires c κs = search rules

enum-told-5 : tie.Need-enum_told-in-Ended
enum-told-5 c = search rules

returns-2 : tie.Need-returns-in-Comment
returns-2 c =
    λ _ z l st. rw c.in-Comment.is (arm_comment st)

returns-3 : tie.Need-returns-in-Boundary
returns-3 c =
    λ _ z l st. rw c.in-Boundary.is (arm_boundary st _ c.bounded.result c.bounded.ensures)

returns-4 : tie.Need-returns-in-Table
returns-4 c =
    λ _ z l st. rw c.in-Table.is (arm_table st c.table_opened.result c.table_opened.ensures)

same_length : tie.Need-shape_of-labels
same_length c = search rules

returns-5 : tie.Need-returns-in-Label
returns-5 c =
    λ _ z l st. rw c.in-Label.is (arm_label st _ c.label.result c.label.ensures)

same-length-2 : tie.Need-shape_of-instructions-in-Stop
same-length-2 c = search rules

returns-6 : tie.Need-returns-in-Stop
returns-6 c =
    λ _ z l st. rw c.in-Stop.is (arm_stop st c.stop.result c.stop.ensures)

same-length-3 : tie.Need-shape_of-instructions-in-Skip
same-length-3 c = search rules

returns-7 : tie.Need-returns-in-Skip
returns-7 c =
    λ _ z l st. rw c.in-Skip.is (arm_skip st _ c.skip.result c.skip.ensures)

same-length-4 : tie.Need-shape_of-instructions-in-Ligature
same-length-4 c = search rules

returns-8 : tie.Need-returns-in-Ligature
unfolding applied
returns-8 c =
    let o = c.operand_of.ensures in
    let e = small_number c.operand_of.result (omega (arith, o.1)) ∙ ap pos o.0 in
    λ _ z l st. rw (c.in-Ligature.is, ← e) (arm_step st _ 2 (number_of c.operand_of.result) c.put_step.result c.put_step.ensures)

same-length-5 : tie.Need-shape_of-instructions-in-Kern
same-length-5 c = search rules

returns-9 : tie.Need-returns-in-Kern
unfolding applied
returns-9 c =
    λ _ z l st. rw c.in-Kern.is (arm_step st _ 0 _ c.put_step-in-Kern.result c.put_step-in-Kern.ensures)

returns-10 : tie.Need-returns-in-Closed
returns-10 c =
    λ _ z l st. rw c.in-Closed.is (arm_closed st c.table_closed.result c.table_closed.ensures)

returns-11 : tie.Need-returns-in-Ended
returns-11 c =
    λ _ z l st. rw c.in-Ended.is (arm_ended st)

pub applied_spec : {M : Type 1} → statement M
applied_spec =
    tie.close
    (tie.spec
    is-size-requires
    returns
    enum_told
    enum-known-p
    bounded-requires
    enum-told-2
    table-opened-requires
    enum-known-p-2
    label-requires
    enum-told-3
    stop-requires
    enum-known-p-3
    skip-requires
    enum-known-p-4
    operand-of-requires
    put-step-requires
    enum-known-p-5
    put-step-requires-2
    enum-told-4
    table-closed-requires
    enum-told-5
    returns-2
    returns-3
    returns-4
    same_length
    returns-5
    same-length-2
    returns-6
    same-length-3
    returns-7
    same-length-4
    returns-8
    same-length-5
    returns-9
    returns-10
    returns-11)
