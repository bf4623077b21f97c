-- The theorems that specs/Agreement states: the walk over records and the walk over numbers agree, both ways.
-- Assumes nothing.
use mathlib.Core.Path.{◌≡◌, refl, sym, ap, ◌∙◌}
use mathlib.Core.Bool.{Bool, true, false, cond}
use mathlib.Core.List.{List, []}
use Prim.Native.Nat.{ℕ, ◌+◌, ◌-◌, ◌*◌, ◌/◌, ◌%◌}
use native.Mathlib.Omega.{arith}
use lib.Dec.{ltb, eqb}
use lib.IntN.{ℤ}
use lib.ListN.{length, get_or-eq_default}
use borrow.Author.Tests.{ltb-true, ltb-false, le-leb}
use Rattle.words.specs.Words.{word_of}
use Rattle.words.proofs.Lists.{length_tabulate, get_d_tabulate}
use Rattle.lang.specs.declared.operation.PostLigOperation.TheVariants.{RetainNeitherMoveToInserted}
use Rattle.lang.specs.declared.operation.Operation.{Operation}
use Rattle.lang.specs.declared.operation.Operation.TheVariants.{Kern, KernAtIndex, EntrypointRedirect}
use Rattle.lang.specs.declared.instruction.Instruction.{Instruction}
use Rattle.lang.specs.Operations.{advance, keeps_left, keeps_right, is_standard, retains, lig, ligature, from_bytes}
use Rattle.lang.specs.Records.{count, field, instruction_at}
use Rattle.lang.specs.Checks.{program_refusal}
use Rattle.lang.proofs.Refusals.{program_size}
use Rattle.program_chain.specs.Chains.{is_redirect_op}
use Rattle.program_records.specs.RecordChains.{record_at, zero_record, records_refusal}
use Rattle.program_records.specs.Agreement.{records_of, Agrees, flat, MarkFits, Flattened, OnlyOnLig}
use Rattle.program_records.proofs.Alike.{alike}
use Rattle.program_records.proofs.Flat.{count_flat, flat_next, flat_right, flat_redirect, flat_refusal, flat_taken, flat_reads}

-- past the last record both walks read the same instruction
pub zero_record_lem : zero_record ≡ instruction_at [] 0
zero_record_lem = refl

-- ---- from numbers to records

-- every index reads the same, also past the last
module _ (s : List ℤ) where
  read_by : (i : ℕ) (t : Bool) → ltb i (count s) ≡ t → record_at (records_of s) i ≡ instruction_at s i
  read_by i true e = get_d_tabulate (count s) (instruction_at s) i zero_record (ltb-true i (count s) e)
  read_by i false e =
      get_or-eq_default (records_of s) zero_record {n = i} (rw (length_tabulate (count s) (instruction_at s)) (ltb-false i (count s) e)) ∙ rw e

  read : (i : ℕ) → record_at (records_of s) i ≡ instruction_at s i
  read i = read_by i (ltb i (count s)) refl

  refused : program_refusal s ≡ 0 → records_refusal (length (records_of s)) ≡ program_refusal s
  refused e =
      let few : records_refusal (length (records_of s)) ≡ 0 = rw (length_tabulate (count s) (instruction_at s), le-leb (count s) 32767 (program_size s e)) in
      few ∙ sym e

pub agrees : Agrees
agrees s e =
    alike s (records_of s) (length_tabulate (count s) (instruction_at s)) (λ i. ap (λ (x : Instruction). x.next_instruction) (read s i))
    (λ i. ap (λ (x : Instruction). x.right_char.0) (read s i)) (λ i. ap (λ (x : Instruction). is_redirect_op x.operation) (read s i)) (refused s e)

-- ---- from records to numbers

pub flattened : Flattened
flattened xs h =
    record {
      same = alike (flat xs) xs (sym (count_flat xs)) (flat_next xs h) (flat_right xs h) (flat_redirect xs h) (sym (flat_refusal xs h));
      refusal = flat_refusal xs h;
      taken = flat_taken xs h;
      reads = flat_reads xs h;
    }

-- ---- a mark stands only on LIG

mark_cond : (t : Bool) (x y : Operation) → MarkFits x → MarkFits y → MarkFits (cond t x y)
mark_cond true x y p q = p
mark_cond false x y p q = q

mark_bytes : (op c : ℕ) → MarkFits (from_bytes op c)
unfolding from_bytes ligature
mark_bytes op c =
    mark_cond (ltb op 128) (ligature op c) (KernAtIndex (256 * (op - 128) + c))
    (mark_cond (is_standard op) (lig (retains (keeps_left op) (keeps_right op) (advance op)) c false) (lig RetainNeitherMoveToInserted c true)
    (λ e. let z : ◌≡◌ {A = ℕ} 0 1 = cc in absurd (omega arith)) (λ _. refl)) tt

pub only_on_lig : OnlyOnLig
only_on_lig s i =
    let kind = word_of (field s i 2) in
    let w = word_of (field s i 3) in
    mark_cond (eqb kind 1) (KernAtIndex (w % 65536))
    (cond (eqb kind 2) (from_bytes (w / 256 % 128) (w % 256))
    (cond (eqb kind 3) (EntrypointRedirect (w % 65536) (eqb (w / 65536 % 2) 1)) (Kern (record { 0 = field s i 3 })))) tt
    (mark_cond (eqb kind 2) (from_bytes (w / 256 % 128) (w % 256))
    (cond (eqb kind 3) (EntrypointRedirect (w % 65536) (eqb (w / 65536 % 2) 1)) (Kern (record { 0 = field s i 3 }))) (mark_bytes (w / 256 % 128) (w % 256))
    (mark_cond (eqb kind 3) (EntrypointRedirect (w % 65536) (eqb (w / 65536 % 2) 1)) (Kern (record { 0 = field s i 3 })) tt tt))
