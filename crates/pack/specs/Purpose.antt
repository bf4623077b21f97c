-- What packing is for (R154): theorems `packed-unpacks`, `packed-chains` and `packed-rules` of proofs/Purpose. No contract cites this.
use Rattle.std.specs.Prelude.{◌≡◌, true, false, ℕ, ◌+◌, ◌-◌, ◌/◌, ◌<◌, ◌≤◌, ℤ, pos, length, Some}
use mathlib.Core.List.{List, [], ◌∷◌, map, Memᴰ}
use Rattle.std.proofs.Math.Option
use Rattle.std.proofs.Math.Option.{some}
use Rattle.words.specs.Words.{word_of}
use Rattle.lang.specs.declared.operation.Operation.TheVariants.{EntrypointRedirect}
use Rattle.lang.specs.Records.{count, within, is_kind, instruction_at}
use Rattle.lang.specs.Checks.{char_at, entry_at}
use Rattle.lang.specs.Answers.{reply_of}
use Rattle.program_chain.specs.Chains.{chain_of, rule_index_of}
use Rattle.entry_unpack.specs.Unpacking.{unpack_entry}
use Rattle.pack.specs.Packing.{Packable, font_offset, packed_instructions, packed_entries, packing_refusal}

-- ---- entries: each unpacks to where it led

-- the entry at place i
abbrev pub old_entry : Packable → ℕ → ℕ
old_entry f i = word_of (entry_at f.entries i)

-- what unpack_entrypoint answers for its packed entry, with any passthrough p and room for it: the old entry, shifted
abbrev pub UnpacksTo : Packable → ℕ → List ℕ → ℕ → Type 0
UnpacksTo f i p room =
    length p ≡ count (packed_instructions f) → length p ≤ room
    → unpack_entry (packed_instructions f) (entry_at (packed_entries f) i) p room ≡ reply_of 0 (pos (old_entry f i + font_offset f) ∷ [])

-- its character stays; its packed entry is one byte, which unpacks so; and there stands the old instruction
pub record UnpacksAt (f : Packable) (i : ℕ) : Type 0 where
  pub char : char_at (packed_entries f) i ≡ char_at f.entries i
  pub byte : within 255 (entry_at (packed_entries f) i) ≡ true
  pub entry : (p : List ℕ) (room : ℕ) → UnpacksTo f i p room
  pub same : instruction_at (packed_instructions f) (old_entry f i + font_offset f) ≡ instruction_at f.instructions (old_entry f i)

-- So it is with every entry that leads to an instruction that is no redirect, of a font that is packed into at most 32,767 instructions
-- (R163).
abbrev pub PackedUnpacks : Type 0
PackedUnpacks =
    (f : Packable) (room entryRoom : ℕ) → packing_refusal f room entryRoom ≡ 0 → count (packed_instructions f) ≤ 32767 →
    (i : ℕ) → i < length f.entries / 2 → old_entry f i < count f.instructions →
    is_kind 3 f.instructions (old_entry f i) ≡ false → UnpacksAt f i

-- ---- chains: from there each goes as it went

-- no next on the chain from e leads past the last instruction
abbrev pub StaysInside : List ℤ → ℕ → Type 0
StaysInside s e = (i k : ℕ) → Memᴰ i (chain_of s e) → (instruction_at s i).next_instruction ≡ Some k → i + 1 + k < count s

-- the packed chain from e, shifted, is the old chain from e with the offset added to each index; at each of them the old instruction
-- stands; and the rule of every right character is the old one, shifted, or there is none in both
pub record ChainShifted (f : Packable) (e : ℕ) : Type 0 where
  pub indices : chain_of (packed_instructions f) (e + font_offset f) ≡ map (λ (i : ℕ). i + font_offset f) (chain_of f.instructions e)
  pub same : (i : ℕ) → Memᴰ i (chain_of f.instructions e) →
      instruction_at (packed_instructions f) (i + font_offset f) ≡ instruction_at f.instructions i
  pub rule : (right : ℕ) →
      rule_index_of (packed_instructions f) (e + font_offset f) right
      ≡ Option.map (λ (i : ℕ). i + font_offset f) (rule_index_of f.instructions e right)

-- so it is with the chain from every index, be it an entry or the left entry, that stays inside; and a left entry is held by the last
-- instruction, shifted (R160, R161)
pub record ChainsKept (f : Packable) : Type 0 where
  pub chains : (e : ℕ) → e < count f.instructions → StaysInside f.instructions e → ChainShifted f e
  pub left : (e : ℕ) → f.left ≡ pos e →
      (instruction_at (packed_instructions f) (count (packed_instructions f) - 1)).operation ≡ EntrypointRedirect (e + font_offset f) false

-- So it is with every font that packing does not refuse. A chain that leads past the last instruction can go on into the one that holds the
-- left entry, which is passed over.
abbrev pub PackedChains : Type 0
PackedChains = (f : Packable) (room entryRoom : ℕ) → packing_refusal f room entryRoom ≡ 0 → ChainsKept f

-- ---- rules: packing changes none

-- the rule of every right character on the packed chain from e, shifted, is the old one from e, shifted, or there is none in both; and
-- where it stands, the old instruction stands
pub record SameRules (f : Packable) (e : ℕ) : Type 0 where
  pub rule : (right : ℕ) →
      rule_index_of (packed_instructions f) (e + font_offset f) right
      ≡ Option.map (λ (i : ℕ). i + font_offset f) (rule_index_of f.instructions e right)
  pub same : (right i : ℕ) → rule_index_of f.instructions e right ≡ some i →
      instruction_at (packed_instructions f) (i + font_offset f) ≡ instruction_at f.instructions i

-- so it is from each entry that leads to an instruction that is no redirect, where its packed entry unpacks to; and from the left entry
pub record RulesKept (f : Packable) : Type 0 where
  pub entries : (i : ℕ) → i < length f.entries / 2 → old_entry f i < count f.instructions →
      is_kind 3 f.instructions (old_entry f i) ≡ false → ((p : List ℕ) (room : ℕ) → UnpacksTo f i p room) × SameRules f (old_entry f i)
  pub left : (e : ℕ) → f.left ≡ pos e → SameRules f e

-- So it is with every font that is packed into at most 32,767 instructions, also where a chain leads past the last one. (An entry past the
-- end can lead to the instruction that holds the left entry: docs/DIFFERENCES.md.)
abbrev pub PackedRules : Type 0
PackedRules =
    (f : Packable) (room entryRoom : ℕ) → packing_refusal f room entryRoom ≡ 0 → count (packed_instructions f) ≤ 32767 → RulesKept f
