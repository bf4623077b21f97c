-- The walk over records and the walk over numbers agree (R282), both ways: on a program that is lent as numbers, read as records
-- (`Agrees`), and on a list of records, written as numbers (`Flattened`). Theorems `agrees`, `flattened` and `only-on-lig`.
use Rattle.std.specs.Prelude.{◌≡◌, true, cond, List, [], ◌∷◌, ℕ, ◌+◌, ◌*◌, ◌<◌, ◌≤◌, ℤ, pos, negsuc, length, None, Some, Option}
use Rattle.std.specs.Int.{w32}
use Rattle.std.proofs.Common.{SFits}
use Rattle.words.specs.Lists.{tabulate}
use Rattle.lang.specs.declared.Written.{Written}
use Rattle.lang.specs.declared.operation.PostLigOperation.TheVariants.{RetainNeitherMoveToInserted}
use Rattle.lang.specs.declared.operation.Operation.{Operation}
use Rattle.lang.specs.declared.operation.Operation.TheVariants.{Kern, KernAtIndex, Ligature, EntrypointRedirect}
use Rattle.lang.specs.declared.instruction.Instruction.{Instruction}
use Rattle.lang.specs.Operations.{byte_of_operation}
use Rattle.lang.specs.Records.{count, instruction_at}
use Rattle.lang.specs.Checks.{program_refusal}
use Rattle.program_chain.specs.Chains.{step_at, chain, rule_index, chain_of, rule_index_of, WalksChain}
use Rattle.program_records.specs.RecordChains.{record_at, records_refusal, WalksRecords}

-- numbers and records walk alike: next_instruction and rule_index promise the same of both, the chains are the same, and the contracts of
-- the two whole walks say the same of answer and list
pub record SameWalks (s : List ℤ) (xs : List Instruction) : Type 0 where
  pub steps : (i : ℕ) → step_at (length xs) (record_at xs) i ≡ step_at (count s) (instruction_at s) i
  pub chains : (entry : ℕ) → chain (length xs) (record_at xs) entry ≡ chain_of s entry
  pub rules : (entry right : ℕ) → rule_index (length xs) (record_at xs) entry right ≡ rule_index_of s entry right
  pub walks : (entry : ℤ) (out : List ℕ) (r : Written) (out' : List ℕ) →
      (WalksRecords xs entry out r out' → WalksChain s entry out r out')
      × (WalksChain s entry out r out' → WalksRecords xs entry out r out')

-- ---- from numbers to records

-- the records of a program that is lent as numbers
abbrev pub records_of : List ℤ → List Instruction
records_of s = tabulate (count s) (instruction_at s)

-- every program that is not refused, as numbers, and its records walk alike
abbrev pub Agrees : Type 0
Agrees = (s : List ℤ) → program_refusal s ≡ 0 → SameWalks s (records_of s)

-- ---- from records to numbers

-- next: -1, or how many instructions are skipped
abbrev pub next_number : Option ℕ → ℤ
next_number None = negsuc 0
next_number (Some k) = pos k

-- number 2 of an instruction: 0 a kern, 1 a kern index, 2 a ligature, 3 a redirect
abbrev pub kind_number : Operation → ℕ
kind_number (Kern k) = 0
kind_number (KernAtIndex i) = 1
kind_number (Ligature c p t) = 2
kind_number (EntrypointRedirect t f) = 3

-- the op byte of a ligature that is marked: the lowest that is none of the eight
abbrev pub mark_byte : ℕ
mark_byte = 4

-- number 3 of an instruction: the kern, its index, the op byte and inserted character, or the target and flag
abbrev pub operand_number : Operation → ℤ
operand_number (Kern k) = k.0
operand_number (KernAtIndex i) = pos i
operand_number (Ligature c p t) = pos (256 * cond t mark_byte (byte_of_operation p) + c.0)
operand_number (EntrypointRedirect t f) = pos (65536 * cond f 1 0 + t)

-- the numbers of a list of records, four a record
unfoldable pub flat : List Instruction → List ℤ
flat [] = []
flat (x ∷ xs) =
    next_number x.next_instruction ∷ pos x.right_char.0 ∷ pos (kind_number x.operation) ∷ operand_number x.operation ∷ flat xs

-- a skip is a byte
abbrev pub SkipFits : Option ℕ → Type 0
SkipFits None = Unit {0}
SkipFits (Some k) = k < 256

-- an operation's number is in the range of its type: an i32, 16 bits, or a byte
abbrev pub OperationFits : Operation → Type 0
OperationFits (Kern k) = SFits w32 k.0
OperationFits (KernAtIndex i) = i < 65536
OperationFits (Ligature c p t) = c.0 < 256
OperationFits (EntrypointRedirect t f) = t < 65536

-- a record's fields are in their types' ranges
pub record InRange (x : Instruction) : Type 0 where
  pub next : SkipFits x.next_instruction
  pub right : x.right_char.0 < 256
  pub operation : OperationFits x.operation

-- a mark stands only on LIG: an op byte that is not standard acts as LIG (R45)
abbrev pub MarkFits : Operation → Type 0
MarkFits (Kern k) = Unit {0}
MarkFits (KernAtIndex i) = Unit {0}
MarkFits (Ligature c p t) = t ≡ true → p ≡ RetainNeitherMoveToInserted
MarkFits (EntrypointRedirect t f) = Unit {0}

-- so it is of every record that is read from numbers: a record with a mark on another operation is none of these
abbrev pub OnlyOnLig : Type 0
OnlyOnLig = (s : List ℤ) (i : ℕ) → MarkFits (instruction_at s i).operation

-- something holds of each record
unfoldable pub EachRecord : (Instruction → Type 0) → List Instruction → Type 0
EachRecord P [] = Unit {0}
EachRecord P (x ∷ xs) = P x × EachRecord P xs

-- What is known of the numbers of a list of records: they walk alike; they are refused as the records are, and up to 32,767 they are
-- not; and they are read as the records, where a mark stands only on LIG.
pub record Flattening (xs : List Instruction) : Type 0 where
  pub same : SameWalks (flat xs) xs
  pub refusal : program_refusal (flat xs) ≡ records_refusal (length xs)
  pub taken : length xs ≤ 32767 → program_refusal (flat xs) ≡ 0
  pub reads : EachRecord (λ x. MarkFits x.operation) xs → records_of (flat xs) ≡ xs

-- so it is of every list of records whose fields are in range
abbrev pub Flattened : Type 0
Flattened = (xs : List Instruction) → EachRecord InRange xs → Flattening xs
