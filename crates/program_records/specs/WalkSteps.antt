-- What the functions on a record or on numbers are held to, from which the walks over records are made.
use Rattle.std.specs.Prelude.{◌≡◌, Bool, false, cond, not, List, [], ◌∷◌, ℕ, ◌+◌, ℤ, pos, ltb, eqb, length, set, take, Option, None, Some}
use Rattle.words.specs.Words.{word_of}
use Rattle.lang.specs.declared.Written.{Written}
use Rattle.lang.specs.Checks.{range_refusal, or_else}
use Rattle.lang.specs.Answers.{room_refusal, written_reply, reply_of, list_of}
use Rattle.lang.specs.declared.instruction.Instruction.{Instruction}
use Rattle.program_chain.specs.Chains.{is_rule_for}
use Rattle.program_records.specs.declared.steps.ChainWalk.{ChainWalk}
use Rattle.program_records.specs.RecordChains.{records_refusal}

-- ---- a search

-- a search goes on: index i is below n, and the record there can't be the rule of the right character
abbrev pub searches_on : ℕ → Instruction → ℕ → ℕ → Bool
searches_on n x i right = cond (ltb i n) (not (is_rule_for right x)) false

-- where a step goes on
abbrev pub onward_of : Option (ℕ × ℕ) → ℕ
onward_of (Some x) = x.1
onward_of None = 0

-- what a search has found that stopped at index i of n
abbrev pub rule_where : ℕ → ℕ → Option ℕ
rule_where n i = cond (ltb i n) (Some i) None

-- ---- a walk into a list

-- 1 of the records, 4 of the entry: what is asked before the walk
abbrev pub early_refusal : ℕ → ℤ → ℕ
early_refusal n entry = or_else (records_refusal n) (range_refusal 65535 entry)

-- .. and 15, where `count` indices are more than the room for them
abbrev pub refusal_by : ℕ → ℤ → ℕ → ℕ → ℕ
refusal_by n entry count room = or_else (early_refusal n entry) (room_refusal count room)

-- where a walk begins: at its entry, and past the last record where it is refused
abbrev pub start_of : ℕ → ℤ → ℕ
start_of n entry = cond (eqb (early_refusal n entry) 0) (word_of entry) n

-- the index of a step
abbrev pub step_index : Option (ℕ × ℕ) → ℕ
step_index (Some x) = x.0
step_index None = 0

-- a walk after a step
abbrev pub moved_by : ChainWalk → Option (ℕ × ℕ) → ChainWalk
moved_by walk (Some x) = record { at = x.1; count = walk.count + 1 }
moved_by walk None = walk

-- the list after a step
abbrev pub put_by : ChainWalk → Option (ℕ × ℕ) → List ℕ → List ℕ
put_by walk (Some x) out = set out walk.count x.0
put_by walk None out = out

-- the end of a walk that has written `count` indices: zeros after them, or zeros alone
pub record FinishesWalk (n : ℕ) (entry : ℤ) (count : ℕ) (out : List ℕ) (r : Written) (out' : List ℕ) : Type 0 where
  pub answer : written_reply r ≡ reply_of (refusal_by n entry count (length out)) (pos count ∷ [])
  pub list : out' ≡ list_of (refusal_by n entry count (length out)) 0 (length out) (take count out)
