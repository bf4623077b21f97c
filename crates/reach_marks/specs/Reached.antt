-- What is reachable (R148, R149): theorem `reached-exactly` of proofs/Reached. No contract cites this.
use Rattle.std.specs.Prelude.{◌≡◌, ℕ, ◌+◌, ◌/◌, ◌<◌, ℤ, length, get_or}
use mathlib.Core.List.{List, Memᴰ}
use Rattle.words.specs.Words.{word_of}
use Rattle.lang.specs.Records.{count}
use Rattle.lang.specs.Checks.{entry_at}
use Rattle.program_chain.specs.Chains.{chain_of}
use Rattle.reach_marks.specs.Marks.{reachable}

-- an index at which a chain starts: an entry, or the left entry unless that is the last index (an absent one, -1, is past every index)
pub data Starts (s es : List ℤ) (left : ℤ) (start : ℕ) : Type 0 where
  entry : (k : ℕ) → k < length es / 2 → start ≡ word_of (entry_at es k) → Starts s es left start
  boundary : (start + 1 ≡ count s → ⊥) → start ≡ word_of left → Starts s es left start

-- instruction i is on the chain from such an index
pub record OnChain (s es : List ℤ) (left : ℤ) (i : ℕ) : Type 0 where
  pub start : ℕ
  pub starts : Starts s es left start
  pub on : Memᴰ i (chain_of s start)

-- whatever the instructions, the entries, the left entry and the index: an instruction that is marked is on a chain, and one that is on a
-- chain is marked by 1
abbrev pub ReachedExactly : Type 0
ReachedExactly =
    (s es : List ℤ) (left : ℤ) (i : ℕ) →
    ((get_or (reachable s es left) i 0 ≡ 0 → ⊥) → OnChain s es left i) × (OnChain s es left i → get_or (reachable s es left) i 0 ≡ 1)
