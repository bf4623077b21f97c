-- `table_queries::keys::keys_refusal` meets its contract: each return by the tests that lead to it.
-- Assumes nothing.
use mathlib.Core.Path.{◌≡◌, sym, ◌∙◌}
use mathlib.Core.Bool.{true}
use Prim.Native.Nat.{◌*◌, ◌%◌}
use lib.Dec.{eqb}
use lib.ListN.{length}
use borrow.Author.Tests.{le-leb, lt-leb, eq-eqb, ne_eqb}
use Rattle.lang.specs.Every.{both, every}
use Rattle.captions.specs.Tables.{pair_count}
use Rattle.captions.specs.Form.{key_form}
use borrow.Author.Rules.{rules}
use Rattle.table_queries.proofs.keys.keys_refusal.Statement.{statement}
use Rattle.table_queries.proofs.keys.keys_refusal.Tie as tie

-- the numbers are in sixes, and every pair's left and right are of the form
passed : (c : tie.Else-not-keys_form) →
    both (eqb (length c.args.pairs.now % 6) 0)
    (every (pair_count c.args.pairs.now) (key_form c.args.pairs.now)) ≡ true
passed c =
    let s = c.args.pairs.now in
    rw (eq-eqb (length s % 6) 0 c.if-pairs-ne0.false, sym c.keys_form.ensures ∙ c.if-not-keys_form.false)

returns : tie.Need-returns-then-pairs-ne0
returns c = rw (ne_eqb (length c.args.pairs.now % 6) 0 c.if-pairs-ne0.true)

keys-form-requires : tie.Need-keys_form-requires
keys-form-requires c κs = search rules

returns-2 : tie.Need-returns-then-not-keys_form
returns-2 c =
    let s = c.args.pairs.now in
    rw (eq-eqb (length s % 6) 0 c.if-pairs-ne0.false, sym c.keys_form.ensures ∙ c.if-not-keys_form.true)

mul-if3 : tie.Need-overflow_mul-pairs
mul-if3 c = search rules

returns-3 : tie.Need-returns-then-pairs-room
returns-3 c =
    let a = c.args in
    rw (passed c.before, le-leb (2 * pair_count a.pairs.now) a.room c.if-pairs-room.true)

returns-4 : tie.Need-returns-else-pairs-room
returns-4 c =
    let a = c.args in
    rw (passed c.before, lt-leb (2 * pair_count a.pairs.now) a.room c.if-pairs-room.false)

pub keys_refusal_spec : {M : Type 1} → statement M
keys_refusal_spec =
    tie.close
    (tie.spec
    returns
    keys-form-requires
    returns-2
    mul-if3
    returns-3
    returns-4)
