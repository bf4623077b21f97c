-- `table_form_pass::pair_passes` meets its contract: each return by the tests that lead to it.
-- Assumes nothing.
use mathlib.Core.Path.{◌≡◌, refl, sym, ◌∙◌}
use mathlib.Core.List.{List}
use Prim.Native.Nat.{ℕ, ◌+◌, ◌/◌, ◌%◌}
use native.Mathlib.Omega.{arith}
use lib.IntN.{ℤ}
use Rattle.words.specs.Words.{Word}
use Rattle.captions.specs.Tables.{number}
use Rattle.table_form_pass.proofs.PairReads.{number_read, pair_codes, pair_gap, pair_over, pair_ops}
use borrow.Author.Rules.{rules}
use Rattle.table_form_pass.proofs.pair_passes.Statement.{statement}
use Rattle.table_form_pass.proofs.pair_passes.Tie as tie

-- the words of left, right, last code and last flag, and those of first op and op count
module _ (c : tie.After-word_of-2) where
  abbrev S : List ℤ
  S = c.args.pairs.now

  abbrev P : ℕ
  P = c.args.p

  whole : P % 6 ≡ 0
  whole = c.requires.0.1

  left : Word (number S (P / 6) 0) c.word_of-left.result
  left =
      let w = c.before.before.before.before.before.before in
      number_read S P P 0 whole (omega arith) (record { sfits = c.word_of-arg-1.given }) c.word_of-left.ensures

  flag : Word (number S (P / 6) 3) c.word_of-flag.result
  flag =
      let w = c.before.before.before.before in
      number_read S P (P + 3) 3 whole refl (record { sfits = c.word_of-arg-2-1.given }) c.word_of-flag.ensures

  right : Word (number S (P / 6) 1) c.word_of.result
  right =
      let w = c.before.before in
      number_read S P (P + 1) 1 whole refl (record { sfits = c.word_of-arg-3-1.given }) c.word_of.ensures

  code : Word (number S (P / 6) 2) c.word_of-2.result
  code =
      number_read S P (P + 2) 2 whole refl (record { sfits = c.word_of-arg-4-1.given }) c.word_of-2.ensures

first : (c : tie.After-word_of-3) → let r = c.before.before.before.before in Word (number (S (c.before.before.before.before)) (P (c.before.before.before.before) / 6) 4) c.word_of-3.result
first c =
    let r = c.before.before.before.before in
    number_read (S (c.before.before.before.before)) (P (c.before.before.before.before)) (P (c.before.before.before.before) + 4) 4 (whole (c.before.before.before.before)) refl (record { sfits = c.word_of-arg-5-1.given }) c.word_of-3.ensures

count : (c : tie.After-word_of-4) → let r = c.before.before.before.before.before.before.before in Word (number (S (c.before.before.before.before.before.before.before)) (P (c.before.before.before.before.before.before.before) / 6) 5) c.word_of-4.result
count c =
    let r = c.before.before.before.before.before.before.before in
    number_read (S (c.before.before.before.before.before.before.before)) (P (c.before.before.before.before.before.before.before)) (P (c.before.before.before.before.before.before.before) + 5) 5 (whole (c.before.before.before.before.before.before.before)) refl (record { sfits = c.word_of-arg-6-1.given }) c.word_of-4.ensures

mul-word-of : tie.Need-offset_bounds-pairs-p
mul-word-of c = search rules

shared-slice-copy-out-word-of : tie.Need-bounds-pairs-p
shared-slice-copy-out-word-of c = search rules

word-of-requires : tie.Need-word_of-left-requires
word-of-requires c κs = search rules

add-word-of : tie.Need-overflow_add-p
add-word-of c = search rules

mul-word-of-2 : tie.Need-offset_bounds-pairs-p-2
mul-word-of-2 c = search rules

shared-slice-copy-out-word-of-2 : tie.Need-bounds-pairs-p-2
shared-slice-copy-out-word-of-2 c = search rules

word-of-requires-2 : tie.Need-word_of-flag-requires
word-of-requires-2 c κs = search rules

add-word-of-2 : tie.Need-overflow_add-p-2
add-word-of-2 c = search rules

mul-word-of-3 : tie.Need-offset_bounds-pairs-p-3
mul-word-of-3 c = search rules

shared-slice-copy-out-word-of-3 : tie.Need-bounds-pairs-p-3
shared-slice-copy-out-word-of-3 c = search rules

word-of-requires-3 : tie.Need-word_of-requires
word-of-requires-3 c κs = search rules

add-word-of-3 : tie.Need-overflow_add-p-3
add-word-of-3 c = search rules

mul-word-of-4 : tie.Need-offset_bounds-pairs-p-4
mul-word-of-4 c = search rules

shared-slice-copy-out-word-of-4 : tie.Need-bounds-pairs-p-4
shared-slice-copy-out-word-of-4 c = search rules

word-of-requires-4 : tie.Need-word_of-requires-2
word-of-requires-4 c κs = search rules

codes-form-requires : tie.Need-codes_form-requires
codes-form-requires c κs = search rules

returns : tie.Need-returns-then-not-codes_form
returns c =
    let a = c.args in
    pair_codes a.pairs.now a.ops.now (a.p / 6) a.at (right (c.before.before)) (code (c.before.before)) (flag (c.before.before))
    (sym c.codes_form.ensures ∙ c.if-not-codes_form.true)

add-word-of-4 : tie.Need-overflow_add-p-4
add-word-of-4 c = search rules

mul-word-of-5 : tie.Need-offset_bounds-pairs-p-5
mul-word-of-5 c = search rules

shared-slice-copy-out-word-of-5 : tie.Need-bounds-pairs-p-5
shared-slice-copy-out-word-of-5 c = search rules

word-of-requires-5 : tie.Need-word_of-requires-3
word-of-requires-5 c κs = search rules

cast-if2 : tie.Need-overflow_cast-word_of
cast-if2 c = search rules

returns-2 : tie.Need-returns-then-word_of-at
returns-2 c =
    let a = c.args in
    pair_gap a.pairs.now a.ops.now (a.p / 6) a.at (right (c.before.before.before.before.before)) (code (c.before.before.before.before.before)) (flag (c.before.before.before.before.before))
    (sym c.codes_form.ensures ∙ c.if-not-codes_form.false) (first c.before) c.if-word_of-at.true

add-word-of-5 : tie.Need-overflow_add-p-5
add-word-of-5 c = search rules

mul-word-of-6 : tie.Need-offset_bounds-pairs-p-6
mul-word-of-6 c = search rules

shared-slice-copy-out-word-of-6 : tie.Need-bounds-pairs-p-6
shared-slice-copy-out-word-of-6 c = search rules

word-of-requires-6 : tie.Need-word_of-requires-4
word-of-requires-6 c κs = search rules

cast-end : tie.Need-overflow_cast-end
cast-end c = search rules

add-end : tie.Need-overflow_add-end
add-end c = search rules

returns-3 : tie.Need-returns-then-ops-end
returns-3 c =
    let a = c.args in
    pair_over a.pairs.now a.ops.now (a.p / 6) a.at (right (c.before.before.before.before.before.before.before.before)) (code (c.before.before.before.before.before.before.before.before)) (flag (c.before.before.before.before.before.before.before.before))
    (sym c.codes_form.ensures ∙ c.if-not-codes_form.false) (first c.before.before.before.before) c.if-word_of-at.false (count c.before) c.if-ops-end.true

ops-pass-requires : tie.Need-ops_pass-requires
ops-pass-requires c κs = search rules

returns-4 : tie.Need-returns
returns-4 c =
    let a = c.args in
    pair_ops a.pairs.now a.ops.now (a.p / 6) a.at (right (c.before.before.before.before.before.before.before.before.before)) (code (c.before.before.before.before.before.before.before.before.before)) (flag (c.before.before.before.before.before.before.before.before.before))
    (sym c.codes_form.ensures ∙ c.if-not-codes_form.false) (first c.before.before.before.before.before) c.if-word_of-at.false (count c.before.before) (left (c.before.before.before.before.before.before.before.before.before))
    c.if-ops-end.false c.ops_pass.ensures

pub pair_passes_spec : {M : Type 1} → statement M
pair_passes_spec =
    tie.close
    (tie.spec
    mul-word-of
    shared-slice-copy-out-word-of
    word-of-requires
    add-word-of
    mul-word-of-2
    shared-slice-copy-out-word-of-2
    word-of-requires-2
    add-word-of-2
    mul-word-of-3
    shared-slice-copy-out-word-of-3
    word-of-requires-3
    add-word-of-3
    mul-word-of-4
    shared-slice-copy-out-word-of-4
    word-of-requires-4
    codes-form-requires
    returns
    add-word-of-4
    mul-word-of-5
    shared-slice-copy-out-word-of-5
    word-of-requires-5
    cast-if2
    returns-2
    add-word-of-5
    mul-word-of-6
    shared-slice-copy-out-word-of-6
    word-of-requires-6
    cast-end
    add-end
    returns-3
    ops-pass-requires
    returns-4)
