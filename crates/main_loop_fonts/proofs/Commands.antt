-- An instruction's four bytes as the lent program has it.
-- Assumes nothing.
use mathlib.Core.Path.{◌≡◌, refl, sym, ap, ◌∙◌}
use mathlib.Core.Bool.{Bool, true, false, cond, not}
use mathlib.Core.List.{List}
use mathlib.Core.Option.{Option, none, some}
use Prim.Native.Nat.{ℕ, zero, suc, ◌+◌, ◌-◌, ◌*◌, ◌/◌, ◌%◌, ◌<◌, ◌≤◌}
use native.Mathlib.Nat.{mod-eq_of_lt}
use native.Mathlib.Omega.{arith}
use lib.IntN.{ℤ, pos, negsuc}
use lib.Dec.{leb, ltb, eqb}
use lib.ListN.{length, get_or}
use borrow.Author.Tests.{lt-ltb, le-ltb, le-leb, lt-leb, leb-true, leb-false, ltb-true, ltb-false}
use Rattle.words.specs.Words.{word_of}
use Rattle.words.specs.Lists.{tabulate}
use Rattle.lang.specs.declared.operation.PostLigOperation.{PostLigOperation}
use Rattle.lang.specs.declared.operation.Operation.{Operation}
use Rattle.lang.specs.declared.operation.Operation.TheVariants.{Kern, KernAtIndex, Ligature, EntrypointRedirect}
use Rattle.lang.specs.Every.{both}
use Rattle.lang.specs.Operations.{from_bytes, ligature, is_standard, retains, keeps_left, keeps_right, advance}
use Rattle.lang.specs.Records.{count, field, is_kind, instruction_at, operation_of, next_of}
use Rattle.lang.proofs.Table.{agree_below}
use Rattle.program_chain.specs.Chains.{is_redirect_op, is_rule_for, acts_as, onward_from}
use Rattle.program_chain.proofs.Rules.{redirect_kind}
use Rattle.reading.specs.Items.{Rule, lig}
use Rattle.fonts.specs.Fonts.{rule_of_operation}
use Rattle.files.specs.Lengths.{file_byte, lengths_of, command_start, kern_start}
use Rattle.files.specs.Commands.{word_byte, command_next, command_kind, command_operand, command_numbers, kern_number}
use Rattle.files.specs.Reading.{commands_from, file_instructions, file_kerns}
use Rattle.file_reading.proofs.Laws.{length_commands}
use Rattle.file_fonts.specs.Purpose.{AreBytes}
use Rattle.file_fonts.proofs.Programs.{number_at}
use Rattle.main_loop_fonts.specs.Search.{skip_byte, next_char, op_byte, rem_byte, restart_at, restarted_search, is_command_for, ligature_case}

-- ---- TeX's cases of an op byte are those of the lent program

-- what a ligature of an op byte does
abbrev case_rule : List ℤ → ℤ → ℕ → ℕ → Rule
case_rule kerns design c op = rule_of_operation design (acts_as kerns (from_bytes op c))

pub case_rule_lem : (kerns : List ℤ) (design : ℤ) (c op : ℕ) → op < 128 → case_rule kerns design c op ≡ lig (ligature_case op) c
unfolding tabulate ligature from_bytes
case_rule_lem kerns design c op h = agree_below (case_rule kerns design c) (λ (k : ℕ). lig (ligature_case k) c) 128 refl op h

-- ---- the four numbers of an instruction

abbrev pub Inside : List ℕ → ℕ → Type 0
Inside file k = k < (lengths_of file).nl

pub count_file : (file : List ℕ) → count (file_instructions file) ≡ (lengths_of file).nl
count_file file = omega (arith, length_commands file (command_start (lengths_of file)) (lengths_of file).nl)

module _ (file : List ℕ) (k : ℕ) (h : Inside file k) where
  field_at : (j : ℕ) → j < 4 → field (file_instructions file) k j ≡ get_or (command_numbers file (command_start (lengths_of file) + k)) j (pos 0)
  field_at j l =
      rw (lt-ltb k (count (file_instructions file)) (omega (arith, count_file file)))
      (number_at file (command_start (lengths_of file)) (lengths_of file).nl k j h l)

  next_is : next_of (field (file_instructions file) k 0) ≡ next_of (command_next (skip_byte file k))
  next_is = ap next_of (field_at 0 (omega arith))

  right_is : word_of (field (file_instructions file) k 1) ≡ next_char file k
  right_is = ap word_of (field_at 1 (omega arith))

  kind_is : word_of (field (file_instructions file) k 2) ≡ command_kind (skip_byte file k) (op_byte file k)
  kind_is = ap word_of (field_at 2 (omega arith))

  operand_is : field (file_instructions file) k 3 ≡ pos (command_operand (skip_byte file k) (op_byte file k) (rem_byte file k))
  operand_is = field_at 3 (omega arith)

-- ---- by the skip byte

kind_by : (a c : ℕ) (t : Bool) → leb a 128 ≡ t → eqb (command_kind a c) 3 ≡ not t
kind_by a c true t = rw (le-ltb 128 a (leb-true a 128 t)) (plain (leb 128 c))
  where
    plain : (u : Bool) → eqb (cond u 1 2) 3 ≡ false
    plain true = refl
    plain false = refl
kind_by a c false t = rw (lt-ltb 128 a (leb-false a 128 t))

not_not : (t : Bool) → not (not t) ≡ t
not_not true = refl
not_not false = refl

module _ (file : List ℕ) (bytes : AreBytes file) (k : ℕ) (h : Inside file k) where
  pub redirect_at : is_kind 3 (file_instructions file) k ≡ not (leb (skip_byte file k) 128)
  redirect_at = rw (kind_is file k h) (kind_by (skip_byte file k) (op_byte file k) (leb (skip_byte file k) 128) refl)

  pub rule_for : (r : ℕ) → is_rule_for r (instruction_at (file_instructions file) k) ≡ is_command_for file k r
  rule_for r =
      let e : next_char file k % 256 ≡ next_char file k = mod-eq_of_lt (bytes (4 * (command_start (lengths_of file) + k) + 1)) in
      rw (redirect_kind (file_instructions file) k, redirect_at, not_not (leb (skip_byte file k) 128), right_is file k h, e) refl

  -- of a kern, and of a ligature
  pub op_kern : skip_byte file k ≤ 128 → 128 ≤ op_byte file k →
      (instruction_at (file_instructions file) k).operation ≡ KernAtIndex (256 * (op_byte file k - 128) + rem_byte file k)
  op_kern l m =
      let p = bytes (4 * (command_start (lengths_of file) + k) + 2) in
      let q = bytes (4 * (command_start (lengths_of file) + k) + 3) in
      rw (kind_is file k h, operand_is file k h, le-ltb 128 (skip_byte file k) l, le-leb 128 (op_byte file k) m, le-leb (skip_byte file k) 128 l)
      (ap KernAtIndex (mod-eq_of_lt (omega arith)))

  pub op_ligature : skip_byte file k ≤ 128 → op_byte file k < 128 →
      (instruction_at (file_instructions file) k).operation ≡ from_bytes (op_byte file k) (rem_byte file k)
  op_ligature l m =
      let q = bytes (4 * (command_start (lengths_of file) + k) + 3) in
      let u : (256 * op_byte file k + rem_byte file k) / 256 % 128 ≡ op_byte file k = omega arith in
      let v : (256 * op_byte file k + rem_byte file k) % 256 ≡ rem_byte file k = omega arith in
      rw (kind_is file k h, operand_is file k h, le-ltb 128 (skip_byte file k) l, lt-leb 128 (op_byte file k) m, le-leb (skip_byte file k) 128 l, u, v) refl

  -- where it goes on
  pub goes_on : skip_byte file k < 128 → (n : ℕ) →
      onward_from n (instruction_at (file_instructions file) k).next_instruction k ≡ k + skip_byte file k + 1
  goes_on l n =
      let e : skip_byte file k % 256 ≡ skip_byte file k = mod-eq_of_lt (omega arith) in
      rw (next_is file k h, lt-ltb (skip_byte file k) 128 l, e) (omega arith)

  pub goes_out : 128 ≤ skip_byte file k → (n : ℕ) → onward_from n (instruction_at (file_instructions file) k).next_instruction k ≡ n
  goes_out l n = rw (next_is file k h, le-ltb (skip_byte file k) 128 l) refl

  -- a redirect's target
  pub target_at_lem : 128 < skip_byte file k → word_of (field (file_instructions file) k 3) % 65536 ≡ restart_at file k
  target_at_lem l =
      let p = bytes (4 * (command_start (lengths_of file) + k) + 2) in
      let q = bytes (4 * (command_start (lengths_of file) + k) + 3) in
      rw (operand_is file k h, lt-leb (skip_byte file k) 128 l) (mod-eq_of_lt (omega arith))
