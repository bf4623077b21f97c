-- `compile_settle::by_rule` meets its contract, by the arm that is taken: the classes simple (0, 6 and `_`), left_z (1 and 7), right_z (2) and both_z (3) of
-- TFtoPL 89. `_` is a kern, or op byte 5 or 11.
-- Assumes nothing.
use mathlib.Core.Path.{◌≡◌, sym, ◌∙◌}
use mathlib.Core.Logic.{◌⊎◌, inl, inr}
use Prim.Native.Nat.{ℕ, ◌<◌}
use native.Mathlib.Omega.{arith}
use Rattle.compiling.specs.Rows.{at}
use Rattle.compiling.proofs.RowLaws.{value_small}
use Rattle.compiling.proofs.Known.{says_small, row_inserted, row_left, row_right, row_both, row_plain, other_op}
use borrow.Author.Rules.{rules}
use Rattle.compile_settle.proofs.by_rule.Statement.{statement}
use Rattle.compile_settle.proofs.by_rule.Tie as tie

-- one of two numbers, of another name for a number
either_of : {x y a b : ℕ} → x ≡ y → (x ≡ a) ⊎ (x ≡ b) → (y ≡ a) ⊎ (y ≡ b)
either_of e (inl i) = inl (sym e ∙ i)
either_of e (inr i) = inr (sym e ∙ i)

below_128 : (x a b : ℕ) → (x ≡ a) ⊎ (x ≡ b) → a < 128 → b < 128 → x < 128
below_128 x a b (inl i) h l = omega arith
below_128 x a b (inr i) h l = omega arith

-- the numbers that were read: a left, a right, and the character of a row that is no kern
left_small : (c : tie.After-get) → c.get-left.result < 257
left_small c =
    omega (arith, c.get-left.ensures, c.requires.0.encoded.ascending.left c.args.k c.requires.1)

right_small : (c : tie.After-get) → c.get-right.result < 256
right_small c =
    omega (arith, c.get-right.ensures, c.requires.0.encoded.ascending.right c.args.k c.requires.1)

character : (c : tie.After-get) → c.get.result < 128 → c.get-value.result < 256
character c h =
    omega (
      arith,
      c.get-value.ensures,
      value_small c.get.result (at c.args.work.now c.args.k 4) (rw c.get.ensures (c.requires.0.encoded.ops c.args.k c.requires.1)) h,
    )

get-requires : tie.Need-get-left-requires
get-requires c κs = search rules

get-requires-2 : tie.Need-get-right-requires
get-requires-2 c κs = search rules

get-requires-3 : tie.Need-get-value-requires
get-requires-3 c κs = search rules

get-requires-4 : tie.Need-get-requires
get-requires-4 c κs = search rules

add-last-of : tie.Need-overflow_add-value
add-last-of c = omega (arith, character (c.before) (below_128 c.get.result 1 7 c.in-1.is (omega arith) (omega arith)))

last-of-requires : tie.Need-last_of-requires
last-of-requires c κs =
    (c.requires.0, omega (arith, character (c.before) (below_128 c.get.result 1 7 c.in-1.is (omega arith) (omega arith))), right_small (c.before))

last-of-requires-2 : tie.Need-last_of-requires-in-2
last-of-requires-2 c κs =
    (c.requires.0, left_small (c.before), character (c.before) (omega (arith, c.in-2.is)))

as-ligature-requires : tie.Need-as_ligature-requires
as-ligature-requires c κs = search rules

last-of-requires-3 : tie.Need-last_of-requires-in-3
last-of-requires-3 c κs =
    (c.requires.0, left_small (c.before), character (c.before) (omega (arith, c.in-3.is)))

then-right-requires : tie.Need-then_right-requires
then-right-requires c κs =
    (c.requires.0, says_small c.args.n c.args.work.now _ _ c.last_of-in-3.result c.last_of-in-3.ensures, right_small (c.before.before))

returns : tie.Need-returns-in-0
returns c =
    row_inserted c.args.n c.args.work.now c.args.k c.get-value.result c.get-value.ensures
    (character (c.before) (below_128 c.get.result 0 6 c.in-0.is (omega arith) (omega arith))) (either_of c.get.ensures c.in-0.is)

returns-2 : tie.Need-returns-in-1
returns-2 c =
    row_left c.args.n c.args.work.now c.args.k c.get-value.result c.get-right.result c.last_of.result c.get-value.ensures c.get-right.ensures c.last_of.ensures
    (either_of c.get.ensures c.in-1.is)

returns-3 : tie.Need-returns-in-2
returns-3 c =
    rw c.as_ligature.ensures
    (row_right c.args.n c.args.work.now c.args.k c.get-left.result c.get-value.result c.last_of-in-2.result c.get-left.ensures c.get-value.ensures c.last_of-in-2.ensures
    (sym c.get.ensures ∙ c.in-2.is))

returns-4 : tie.Need-returns-in-3
returns-4 c =
    row_both c.args.n c.args.work.now c.args.k c.requires.0.encoded.ascending c.get-left.result c.get-right.result c.get-value.result c.last_of-in-3.result
    c.then_right.result
    c.get-left.ensures c.get-right.ensures c.get-value.ensures c.last_of-in-3.ensures c.then_right.ensures (sym c.get.ensures ∙ c.in-3.is)

returns-5 : tie.Need-returns-in_default
returns-5 c =
    let m = c.in_default.in_default-own.rest in
    row_plain c.args.n c.args.work.now c.args.k c.get-right.result c.get-right.ensures (right_small (c.before))
    (rw c.get.ensures at
    (other_op c.get.result (at c.args.work.now c.args.k 4) (rw c.get.ensures (c.requires.0.encoded.ops c.args.k c.requires.1)) m.0.0.0.1
    m.0.0.1 m.0.1 m.1))

pub by_rule_spec : {M : Type 1} → statement M
by_rule_spec =
    tie.close
    (tie.spec
    get-requires
    get-requires-2
    get-requires-3
    get-requires-4
    add-last-of
    last-of-requires
    last-of-requires-2
    as-ligature-requires
    last-of-requires-3
    then-right-requires
    returns
    returns-2
    returns-3
    returns-4
    returns-5)
