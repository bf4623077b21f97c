-- Chains over a lent list of instruction records, which instructions_for_entrypoint walks too (R282): those of crate program_chain, at the
-- count and the records of the list.
use Rattle.std.specs.Prelude.{◌≡◌, List, [], ◌∷◌, ℕ, ℤ, pos, leb, length, get_or, Some}
use Rattle.words.specs.Words.{word_of}
use Rattle.lang.specs.declared.operation.Operation.TheVariants.{Kern}
use Rattle.lang.specs.declared.instruction.Instruction.{Instruction}
use Rattle.lang.specs.declared.Written.{Written}
use Rattle.lang.specs.Checks.{unless, range_refusal, or_else}
use Rattle.lang.specs.Answers.{room_refusal, written_reply, reply_of, list_of}
use Rattle.program_chain.specs.Chains.{Program, chain}

-- the instruction of four zeros, `instructionAt [] 0`
abbrev pub zero_record : Instruction
zero_record =
    record { next_instruction = Some 0; right_char = record { 0 = 0 }; operation = Kern (record { 0 = pos 0 }) }

-- the record at an index; past the last one, the instruction of four zeros
abbrev pub record_at : List Instruction → Program
record_at xs i = get_or xs i zero_record

-- 1 (R283): over 32,767 records
abbrev pub records_refusal : ℕ → ℕ
records_refusal n = unless 1 (leb n 32767)

-- the whole walk into a list of `room` places: 1 of the records, 4 of the entry, 15
abbrev pub records_walk_refusal : List Instruction → ℤ → ℕ → ℕ
records_walk_refusal xs entry room =
    or_else (records_refusal (length xs))
    (or_else (range_refusal 65535 entry) (room_refusal (length (chain (length xs) (record_at xs) (word_of entry))) room))

-- the contract of instructions_for_entrypoint: `out` is the list as it was lent, out' as it comes back
pub record WalksRecords (xs : List Instruction) (entry : ℤ) (out : List ℕ) (r : Written) (out' : List ℕ) : Type 0 where
  pub answer : written_reply r ≡ reply_of (records_walk_refusal xs entry (length out))
      (pos (length (chain (length xs) (record_at xs) (word_of entry))) ∷ [])
  pub list : out' ≡ list_of (records_walk_refusal xs entry (length out)) 0 (length out) (chain (length xs) (record_at xs) (word_of entry))
