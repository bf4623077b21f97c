-- The four numbers of an instruction: next, right character, kind and operand (R25 to R31).
use Rattle.std.specs.Prelude.{Bool, true, false, cond, List, ℕ, ◌+◌, ◌*◌, ◌/◌, ◌%◌, ℤ, pos, negsuc, leb, ltb, eqb, length, get_or, None, Some, Option}
use Rattle.words.specs.Words.{word_of}
use Rattle.lang.specs.declared.operation.Operation.{Operation}
use Rattle.lang.specs.declared.operation.Operation.TheVariants.{Kern, KernAtIndex, EntrypointRedirect}
use Rattle.lang.specs.declared.instruction.Instruction.{Instruction}
use Rattle.lang.specs.Operations.{from_bytes}
use Rattle.lang.specs.Every.{both}

-- how many instructions a list of numbers holds
abbrev pub count : List ℤ → ℕ
count s = length s / 4

-- number k (0 next, 1 right character, 2 kind, 3 operand) of instruction i; 0 past the last instruction
abbrev pub field : List ℤ → ℕ → ℕ → ℤ
field s i k = cond (ltb i (count s)) (get_or s (4 * i + k) (pos 0)) (pos 0)

-- next: -1 is none, else how many instructions are skipped (R26)
abbrev pub next_of : ℤ → Option ℕ
next_of (negsuc n) = None
next_of (pos n) = Some (n % 256)

-- The operation of a kind and an operand (R27 to R31). A kind past 3 reads as 0, and what passes an operand's range is left off:
-- `isInstruction` refuses both.
abbrev pub operation_of : ℕ → ℤ → Operation
operation_of kind z =
    cond (eqb kind 1) (KernAtIndex (word_of z % 65536))
    (cond (eqb kind 2) (from_bytes (word_of z / 256 % 128) (word_of z % 256))
    (cond (eqb kind 3) (EntrypointRedirect (word_of z % 65536) (eqb (word_of z / 65536 % 2) 1))
    (Kern (record { 0 = z }))))

-- number 1 of instruction i as a character: what passes 255 is left off
abbrev pub right_of : List ℤ → ℕ → ℕ
right_of s i = word_of (field s i 1) % 256

-- the instruction at i; past the last one, that of four zeros
abbrev pub instruction_at : List ℤ → ℕ → Instruction
instruction_at s i =
    record {
      next_instruction = next_of (field s i 0);
      right_char = record { 0 = right_of s i };
      operation = operation_of (word_of (field s i 2)) (field s i 3);
    }

-- 0 to n
abbrev pub within : ℕ → ℤ → Bool
within n (pos m) = leb m n
within n (negsuc m) = false

-- -1, or 0 to n
abbrev pub absent_or : ℕ → ℤ → Bool
absent_or n (pos m) = leb m n
absent_or n (negsuc m) = eqb m 0

-- an operand's range, by kind: a kern value is any i32 (R27); a kern index (R28); an op byte below 128 and a character (R29); a target and
-- a flag (R30, R31)
abbrev pub operand_fits : ℕ → ℤ → Bool
operand_fits kind z =
    cond (eqb kind 0) true
    (cond (eqb kind 1) (within 65535 z)
    (cond (eqb kind 2) (within 32767 z)
    (cond (eqb kind 3) (within 131071 z) false)))

-- the record at i is an instruction; with a right character out of range it is none (R251)
abbrev pub is_instruction : List ℤ → ℕ → Bool
is_instruction s i =
    both (absent_or 255 (field s i 0))
    (both (within 255 (field s i 1))
    (operand_fits (word_of (field s i 2)) (field s i 3)))

-- the instruction at i is of a kind
abbrev pub is_kind : ℕ → List ℤ → ℕ → Bool
is_kind k s i = eqb (word_of (field s i 2)) k
