-- Marks: which instructions a font's entries lead to (R148 to R150), after `reachable_array` of ligkern/lang.rs. TFtoPL 66 to 70 compute
-- the activity of each step. A skip that lands exactly at the end is not made to stop, as TFtoPL 70 does: docs/DIFFERENCES.md.
use Rattle.std.specs.Prelude.{cond, List, ℕ, zero, suc, ◌+◌, ◌/◌, ℤ, eqb, length, get_or, set, replicate}
use Rattle.words.specs.Words.{word_of}
use Rattle.lang.specs.Records.{count, instruction_at}
use Rattle.lang.specs.Checks.{entry_at}
use Rattle.program_chain.specs.Chains.{onward_from}

-- a mark at a place; past the end there is none to set
abbrev pub mark : List ℕ → ℕ → List ℕ
mark marks i = set marks i 1

-- TFtoPL 68: the first k entries are marked, of n instructions
unfoldable pub entries_marked : ℕ → List ℤ → ℕ → List ℕ
entries_marked n es zero = replicate n 0
entries_marked n es (suc k) = mark (entries_marked n es k) (word_of (entry_at es k))

-- R149, TFtoPL 69: the left boundary's entry is marked too, unless it is the last instruction, which is pass-through then
abbrev pub left_marked : ℕ → ℤ → List ℕ → List ℕ
left_marked n left marks = cond (eqb (word_of left + 1) n) marks (mark marks (word_of left))

-- TFtoPL 70, of instruction i: where it is marked, so is the one it goes on to
abbrev pub onward_marked : List ℤ → List ℕ → ℕ → List ℕ
onward_marked s marks i =
    cond (eqb (get_or marks i 0) 0) marks (mark marks (onward_from (count s) (instruction_at s i).next_instruction i))

-- of the first k instructions, in order
unfoldable pub marks_after : List ℤ → List ℤ → ℤ → ℕ → List ℕ
marks_after s es left zero = left_marked (count s) left (entries_marked (count s) es (length es / 2))
marks_after s es left (suc k) = onward_marked s (marks_after s es left k) k

-- 1 for each instruction that is reachable, 0 for each that is not
abbrev pub reachable : List ℤ → List ℤ → ℤ → List ℕ
reachable s es left = marks_after s es left (count s)
