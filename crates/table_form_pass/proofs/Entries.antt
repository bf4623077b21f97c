-- What a record that fits says of its ops and its last. Assumes nothing.
use mathlib.Core.Path.{◌≡◌, ◌∙◌}
use mathlib.Core.Bool.{true}
use mathlib.Core.List.{List}
use Prim.Native.Nat.{ℕ, ◌+◌, ◌≤◌}
use lib.IntN.{ℤ}
use lib.Dec.{leb}
use borrow.Author.Tests.{leb-true}
use Rattle.lang.specs.Every.{both}
use Rattle.lang.proofs.Every.{both_left, both_right}
use Rattle.captions.specs.Tables.{op_count, first_op, count_of, record_fits}
use Rattle.table_numbers.specs.Parts.{last_fits}
use Rattle.table_numbers.proofs.Records.{record_by}

module _ (pairs ops : List ℤ) (k : ℕ) (t : record_fits pairs ops k ≡ true) where
  parts : both (last_fits pairs k) (leb (first_op pairs k + count_of pairs k) (op_count ops)) ≡ true
  parts = record_by pairs ops k ∙ t

  pub record_last : last_fits pairs k ≡ true
  record_last = both_left (last_fits pairs k) (leb (first_op pairs k + count_of pairs k) (op_count ops)) parts

  pub record_end : first_op pairs k + count_of pairs k ≤ op_count ops
  record_end =
      leb-true (first_op pairs k + count_of pairs k) (op_count ops) (both_right (last_fits pairs k) (leb (first_op pairs k + count_of pairs k) (op_count ops)) parts)
