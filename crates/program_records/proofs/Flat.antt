-- Laws of the numbers of a list of records: they are in fours, each four is an instruction, and they are read as the record.
-- Assumes nothing.
use mathlib.Core.Path.{◌≡◌, refl, sym, ap, ◌∙◌}
use mathlib.Core.Bool.{Bool, true, false}
use mathlib.Core.List.{List, [], ◌∷◌}
use Prim.Native.Nat.{ℕ, zero, suc, ◌+◌, ◌*◌, ◌/◌, ◌%◌, ◌<◌, ◌≤◌}
use native.Mathlib.Omega.{arith}
use lib.Dec.{ltb, eqb}
use lib.IntN.{ℤ, pos}
use lib.ListN.{length, get_or, get_or-eq_default}
use lib.Seq.{ext_get_or}
use borrow.Author.Tests.{lt-ltb, le-ltb, ltb-true, ltb-false, le-leb}
use Rattle.std.specs.Prelude.{None, Some, Option}
use Rattle.words.specs.Words.{word_of}
use Rattle.words.proofs.Lists.{length_tabulate, get_d_tabulate}
use Rattle.lang.specs.declared.operation.PostLigOperation.{PostLigOperation}
use Rattle.lang.specs.declared.operation.PostLigOperation.TheVariants.{RetainBothMoveNowhere, RetainBothMoveToInserted, RetainBothMoveToRight}
use Rattle.lang.specs.declared.operation.PostLigOperation.TheVariants.{RetainRightMoveToInserted, RetainRightMoveToRight, RetainLeftMoveNowhere}
use Rattle.lang.specs.declared.operation.PostLigOperation.TheVariants.{RetainLeftMoveToInserted, RetainNeitherMoveToInserted}
use Rattle.lang.specs.declared.operation.Operation.{Operation}
use Rattle.lang.specs.declared.operation.Operation.TheVariants.{Kern, KernAtIndex, Ligature, EntrypointRedirect}
use Rattle.lang.specs.declared.instruction.Instruction.{Instruction}
use Rattle.lang.specs.Operations.{byte_of_operation, lig, ligature, from_bytes}
use Rattle.lang.specs.Every.{every}
use Rattle.lang.specs.Records.{count, field, next_of, operation_of, instruction_at, absent_or, operand_fits, is_instruction}
use Rattle.lang.specs.Checks.{program_refusal, record_refusal, size_refusal, or_else, unless}
use Rattle.lang.proofs.Every.{every_all}
use Rattle.program_chain.specs.Chains.{is_redirect_op}
use Rattle.program_chain.proofs.Rules.{redirect_kind}
use Rattle.program_records.specs.RecordChains.{zero_record, record_at, records_refusal}
use Rattle.program_records.specs.Agreement.{next_number, mark_byte, kind_number, operand_number, flat, SkipFits, OperationFits, InRange, MarkFits}
use Rattle.program_records.specs.Agreement.{EachRecord, records_of}

-- ---- the numbers are in fours

pub length_flat : (xs : List Instruction) → length (flat xs) ≡ 4 * length xs
unfolding flat
length_flat [] = refl
length_flat (x ∷ xs) = omega (arith, length_flat xs)

pub count_flat : (xs : List Instruction) → count (flat xs) ≡ length xs
count_flat xs = omega (arith, length_flat xs)

-- number k of a record
abbrev number : Instruction → ℕ → ℤ
number x zero = next_number x.next_instruction
number x (suc zero) = pos x.right_char.0
number x (suc (suc zero)) = pos (kind_number x.operation)
number x (suc (suc (suc k))) = operand_number x.operation

number_first : (x : Instruction) (xs : List Instruction) (k : ℕ) → k < 4 → get_or (flat (x ∷ xs)) k (pos 0) ≡ number x k
unfolding flat
number_first x xs zero h = refl
number_first x xs (suc zero) h = refl
number_first x xs (suc (suc zero)) h = refl
number_first x xs (suc (suc (suc zero))) h = refl
number_first x xs (suc (suc (suc (suc k)))) h = absurd (omega arith)

number_rest : (x : Instruction) (xs : List Instruction) (j : ℕ) → get_or (flat (x ∷ xs)) (suc (suc (suc (suc j)))) (pos 0) ≡ get_or (flat xs) j (pos 0)
unfolding flat
number_rest x xs j = refl

number_at : (xs : List Instruction) (i k : ℕ) → i < length xs → k < 4 → get_or (flat xs) (4 * i + k) (pos 0) ≡ number (record_at xs i) k
number_at [] i k h l = absurd (omega arith)
number_at (x ∷ xs) zero k h l =
    let e : 4 * 0 + k ≡ k = omega arith in
    ap (λ (j : ℕ). get_or (flat (x ∷ xs)) j (pos 0)) e ∙ number_first x xs k l
number_at (x ∷ xs) (suc i) k h l =
    let e : 4 * suc i + k ≡ suc (suc (suc (suc (4 * i + k)))) = omega arith in
    ap (λ (j : ℕ). get_or (flat (x ∷ xs)) j (pos 0)) e ∙ number_rest x xs (4 * i + k) ∙ number_at xs i k (omega arith) l

field_flat : (xs : List Instruction) (i k : ℕ) → i < length xs → k < 4 → field (flat xs) i k ≡ number (record_at xs i) k
field_flat xs i k h l = rw (count_flat xs, lt-ltb i (length xs) h) (number_at xs i k h l)

-- ---- each number is in range, and read as it was

each_at : (P : Instruction → Type 0) (xs : List Instruction) → EachRecord P xs → (i : ℕ) → i < length xs → P (record_at xs i)
unfolding EachRecord
each_at P [] p i h = absurd (omega arith)
each_at P (x ∷ xs) p zero h = p.0
each_at P (x ∷ xs) p (suc i) h = each_at P xs p.1 i (omega arith)

next_reads : (x : Option ℕ) → SkipFits x → next_of (next_number x) ≡ x
next_reads None h = refl
next_reads (Some k) h = ap Some (let e : k % 256 ≡ k = omega arith in e)

next_fits : (x : Option ℕ) → SkipFits x → absent_or 255 (next_number x) ≡ true
next_fits None h = refl
next_fits (Some k) h = le-leb k 255 (omega arith)

op_byte_lem : (p : PostLigOperation) → byte_of_operation p < 12
op_byte_lem RetainNeitherMoveToInserted = omega arith
op_byte_lem RetainRightMoveToInserted = omega arith
op_byte_lem RetainLeftMoveNowhere = omega arith
op_byte_lem RetainBothMoveNowhere = omega arith
op_byte_lem RetainRightMoveToRight = omega arith
op_byte_lem RetainLeftMoveToInserted = omega arith
op_byte_lem RetainBothMoveToInserted = omega arith
op_byte_lem RetainBothMoveToRight = omega arith

operand_fits_lem : (op : Operation) → OperationFits op → operand_fits (kind_number op) (operand_number op) ≡ true
operand_fits_lem (Kern k) h = refl
operand_fits_lem (KernAtIndex i) h = le-leb i 65535 (omega arith)
operand_fits_lem (Ligature c p true) h = le-leb (256 * mark_byte + c.0) 32767 (omega arith)
operand_fits_lem (Ligature c p false) h = le-leb (256 * byte_of_operation p + c.0) 32767 (omega (arith, op_byte_lem p))
operand_fits_lem (EntrypointRedirect t true) h = le-leb (65536 * 1 + t) 131071 (omega arith)
operand_fits_lem (EntrypointRedirect t false) h = le-leb (65536 * 0 + t) 131071 (omega arith)

-- two bytes are read from the number that they make
bytes_read : (op c : ℕ) → op < 128 → c < 256 → from_bytes ((256 * op + c) / 256 % 128) ((256 * op + c) % 256) ≡ from_bytes op c
bytes_read op c h l =
    let high : (256 * op + c) / 256 % 128 ≡ op = omega arith in
    let low : (256 * op + c) % 256 ≡ c = omega arith in
    rw (high, low)

-- an op byte is read as what it was made of, and the mark as the mark
standard_read : (p : PostLigOperation) (c : ℕ) → from_bytes (byte_of_operation p) c ≡ lig p c false
unfolding from_bytes ligature
standard_read RetainNeitherMoveToInserted c = refl
standard_read RetainRightMoveToInserted c = refl
standard_read RetainLeftMoveNowhere c = refl
standard_read RetainBothMoveNowhere c = refl
standard_read RetainRightMoveToRight c = refl
standard_read RetainLeftMoveToInserted c = refl
standard_read RetainBothMoveToInserted c = refl
standard_read RetainBothMoveToRight c = refl

mark_read : (c : ℕ) → from_bytes mark_byte c ≡ lig RetainNeitherMoveToInserted c true
unfolding from_bytes ligature
mark_read c = refl

operation_reads : (op : Operation) → OperationFits op → MarkFits op → operation_of (kind_number op) (operand_number op) ≡ op
operation_reads (Kern k) h m = refl
operation_reads (KernAtIndex i) h m = ap KernAtIndex (let e : i % 65536 ≡ i = omega arith in e)
operation_reads (Ligature c p true) h m = bytes_read mark_byte c.0 (omega arith) h ∙ mark_read c.0 ∙ rw (m refl)
operation_reads (Ligature c p false) h m = bytes_read (byte_of_operation p) c.0 (omega (arith, op_byte_lem p)) h ∙ standard_read p c.0
operation_reads (EntrypointRedirect t true) h m =
    let low : (65536 * 1 + t) % 65536 ≡ t = omega arith in
    let high : (65536 * 1 + t) / 65536 ≡ 1 = omega arith in
    rw (low, high)
operation_reads (EntrypointRedirect t false) h m =
    let low : (65536 * 0 + t) % 65536 ≡ t = omega arith in
    let high : (65536 * 0 + t) / 65536 ≡ 0 = omega arith in
    rw (low, high)

-- an operation is a redirect where its kind is 3
kind_three : (op : Operation) → is_redirect_op op ≡ eqb (word_of (pos (kind_number op))) 3
kind_three (Kern k) = refl
kind_three (KernAtIndex i) = refl
kind_three (Ligature c p t) = refl
kind_three (EntrypointRedirect t f) = refl

-- ---- the whole list

or_nothing : (n : ℕ) → or_else n 0 ≡ n
or_nothing zero = refl
or_nothing (suc n) = refl

-- past the last record both are the instruction of four zeros
past_flat : (xs : List Instruction) (i : ℕ) → length xs ≤ i → record_at xs i ≡ instruction_at (flat xs) i
past_flat xs i h = get_or-eq_default xs zero_record {n = i} h ∙ rw (count_flat xs, le-ltb i (length xs) h)

module _ (xs : List Instruction) (h : EachRecord InRange xs) where
  next_by_lem : (i : ℕ) (t : Bool) → ltb i (length xs) ≡ t → (record_at xs i).next_instruction ≡ (instruction_at (flat xs) i).next_instruction
  next_by_lem i true e =
      let l = ltb-true i (length xs) e in
      sym (next_reads (record_at xs i).next_instruction (each_at InRange xs h i l).next) ∙ ap next_of (sym (field_flat xs i 0 l (omega arith)))
  next_by_lem i false e = ap (λ (x : Instruction). x.next_instruction) (past_flat xs i (ltb-false i (length xs) e))

  pub flat_next : (i : ℕ) → (record_at xs i).next_instruction ≡ (instruction_at (flat xs) i).next_instruction
  flat_next i = next_by_lem i (ltb i (length xs)) refl

  right_by : (i : ℕ) (t : Bool) → ltb i (length xs) ≡ t → (record_at xs i).right_char.0 ≡ (instruction_at (flat xs) i).right_char.0
  right_by i true e =
      let l = ltb-true i (length xs) e in
      let c = (record_at xs i).right_char.0 in
      let low : c % 256 ≡ c = omega (arith, (each_at InRange xs h i l).right) in
      sym low ∙ ap (λ (z : ℤ). word_of z % 256) (sym (field_flat xs i 1 l (omega arith)))
  right_by i false e = ap (λ (x : Instruction). x.right_char.0) (past_flat xs i (ltb-false i (length xs) e))

  pub flat_right : (i : ℕ) → (record_at xs i).right_char.0 ≡ (instruction_at (flat xs) i).right_char.0
  flat_right i = right_by i (ltb i (length xs)) refl

  redirect_by : (i : ℕ) (t : Bool) → ltb i (length xs) ≡ t → is_redirect_op (record_at xs i).operation ≡ is_redirect_op (instruction_at (flat xs) i).operation
  redirect_by i true e =
      kind_three (record_at xs i).operation
      ∙ ap (λ (z : ℤ). eqb (word_of z) 3) (sym (field_flat xs i 2 (ltb-true i (length xs) e) (omega arith)))
      ∙ sym (redirect_kind (flat xs) i)
  redirect_by i false e = ap (λ (x : Instruction). is_redirect_op x.operation) (past_flat xs i (ltb-false i (length xs) e))

  pub flat_redirect : (i : ℕ) → is_redirect_op (record_at xs i).operation ≡ is_redirect_op (instruction_at (flat xs) i).operation
  flat_redirect i = redirect_by i (ltb i (length xs)) refl

  -- each four is an instruction
  is_instruction_lem : (i : ℕ) → i < length xs → is_instruction (flat xs) i ≡ true
  is_instruction_lem i l =
      let x = record_at xs i in
      let r = each_at InRange xs h i l in
      rw (
        field_flat xs i 0 l (omega arith),
        field_flat xs i 1 l (omega arith),
        field_flat xs i 2 l (omega arith),
        field_flat xs i 3 l (omega arith),
        next_fits x.next_instruction r.next,
        le-leb x.right_char.0 255 (omega (arith, r.right)),
        operand_fits_lem x.operation r.operation,
      )

  size_refusal_lem : size_refusal (flat xs) ≡ records_refusal (length xs)
  size_refusal_lem =
      let fours : length (flat xs) % 4 ≡ 0 = omega (arith, length_flat xs) in
      rw (fours, count_flat xs)

  record_refusal_lem : record_refusal (flat xs) ≡ 0
  record_refusal_lem =
      let all : every (count (flat xs)) (is_instruction (flat xs))
      ≡ true = every_all (count (flat xs)) (is_instruction (flat xs)) (λ i l. is_instruction_lem i (omega (arith, l, count_flat xs))) in
      ap (unless 2) all

  pub flat_refusal : program_refusal (flat xs) ≡ records_refusal (length xs)
  flat_refusal = ap (or_else (size_refusal (flat xs))) record_refusal_lem ∙ or_nothing (size_refusal (flat xs)) ∙ size_refusal_lem

  pub flat_taken : length xs ≤ 32767 → program_refusal (flat xs) ≡ 0
  flat_taken few = flat_refusal ∙ rw (le-leb (length xs) 32767 few)

  module _ (m : EachRecord (λ x. MarkFits x.operation) xs) where
    record-reads : (i : ℕ) → i < length xs → instruction_at (flat xs) i ≡ record_at xs i
    record-reads i l =
        let operation : operation_of (word_of (field (flat xs) i 2)) (field (flat xs) i 3)
        ≡ (record_at xs i).operation = rw (field_flat xs i 2 l (omega arith), field_flat xs i 3 l (omega arith))
        (operation_reads (record_at xs i).operation (each_at InRange xs h i l).operation (each_at (λ x. MarkFits x.operation) xs m i l)) in
        rw (← flat_next i, ← flat_right i, operation)

    pub flat_reads : records_of (flat xs) ≡ xs
    flat_reads =
        let size = length_tabulate (count (flat xs)) (instruction_at (flat xs)) in
        ext_get_or zero_record (records_of (flat xs)) xs (size ∙ count_flat xs)
        (λ i l. get_d_tabulate (count (flat xs)) (instruction_at (flat xs)) i zero_record (omega (arith, l, size))
        ∙ record-reads i (omega (arith, l, size, count_flat xs)))
