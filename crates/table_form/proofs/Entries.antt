-- The end of the ops of a record that fits, by the words that were read; crate table_seven_bit reads a pair's ops by it. Assumes nothing.
use mathlib.Core.Path.{◌≡◌}
use mathlib.Core.Bool.{true}
use mathlib.Core.List.{List}
use Prim.Native.Nat.{ℕ, ◌+◌, ◌≤◌}
use native.Mathlib.Omega.{arith}
use lib.IntN.{ℤ}
use Rattle.words.specs.Words.{Word}
use Rattle.captions.specs.Tables.{op_count, number, record_fits}
use Rattle.table_form_pass.proofs.Entries.{record_end}

pub entry_end : (pairs ops : List ℤ) (k : ℕ) {start count : ℕ} → record_fits pairs ops k ≡ true → Word (number pairs k 4) start → Word (number pairs k 5) count →
    start + count ≤ op_count ops
entry_end pairs ops k t q r = omega (arith, record_end pairs ops k t, q.is, r.is)
