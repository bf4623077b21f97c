-- The entry of a character from the packed one, with what it passes through (R142, R143), after `unpack_entrypoint`; the program's
-- seven-bit test (R128, R129), after `is_seven_bit_safe` of ligkern/lang.rs. TeX 545: an entry at a redirect stands for the redirect's
-- target.
use Rattle.std.specs.Prelude.{◌≡◌, Bool, true, cond, not, List, [], ◌∷◌, ℕ, ◌/◌, ◌%◌, ℤ, pos, leb, eqb, length, get_or}
use Rattle.words.specs.Words.{word_of}
use Rattle.words.specs.Lists.{tabulate}
use Rattle.entry_unpack.specs.declared.Unpacked.{Unpacked}
use Rattle.entry_unpack.specs.declared.Unpacked.TheVariants.{Entry, Direct, Indirect, Refused}
use Rattle.entry_unpack.specs.declared.SevenBit.{SevenBit}
use Rattle.entry_unpack.specs.declared.SevenBit.TheVariants.{Safe, Refused as RefusedFont}
use Rattle.lang.specs.Every.{both, every}
use Rattle.lang.specs.Records.{field, right_of, is_kind}
use Rattle.lang.specs.Checks.{program_refusal, range_refusal, entries_refusal, passthrough_refusal, or_else, char_at, entry_at}
use Rattle.lang.specs.Answers.{Reply, reply_of, list_of, room_refusal}
use Rattle.program_chain.specs.Chains.{chain_of}
use Rattle.entry_targets.specs.Targets.{stands_for, entry_refusal}

-- ---- unpacking an entry

-- the lowest that holds, for a list of `room` places
abbrev pub unpack_refusal : List ℤ → ℤ → List ℕ → ℕ → ℕ
unpack_refusal s e p room =
    or_else (program_refusal s)
    (or_else (range_refusal 255 e) (or_else (passthrough_refusal p s) (or_else (entry_refusal s (word_of e)) (room_refusal (length p) room))))

-- what unpack_entrypoint answers
abbrev pub unpack_entry : List ℤ → ℤ → List ℕ → ℕ → Reply
unpack_entry s e p room = reply_of (unpack_refusal s e p room) (pos (stands_for s (word_of e)) ∷ [])

-- passthrough at place i afterwards, as 0 or 1 (R39): as before, and set at an entry that is a redirect (R143)
abbrev pub passthrough_at : List ℤ → ℕ → List ℕ → ℕ → ℕ
passthrough_at s e p i =
    cond (eqb i e) (cond (is_kind 3 s e) 1 (cond (eqb (get_or p i 0) 0) 0 1)) (cond (eqb (get_or p i 0) 0) 0 1)

-- at every place
abbrev pub passthrough_after : List ℤ → ℕ → List ℕ → List ℕ
passthrough_after s e p = tabulate (length p) (passthrough_at s e p)

-- an answer as a number and values (R285)
abbrev pub unpacked_reply : Unpacked → Reply
unpacked_reply (Entry e) = reply_of 0 (pos e ∷ [])
unpacked_reply Direct = reply_of 8 []
unpacked_reply Indirect = reply_of 9 []
unpacked_reply (Refused n) = record { number = n; values = [] }

-- 8 and 9 (R237, R238) are answered by their names
abbrev pub is_named : Unpacked → Bool
is_named (Entry e) = true
is_named Direct = true
is_named Indirect = true
is_named (Refused n) = both (not (eqb n 8)) (not (eqb n 9))

-- the contract of unpack_entrypoint: the entry, or the number, 8 and 9 by name; and the passthrough afterwards and zeros, or zeros
pub record UnpacksEntry (s : List ℤ) (e : ℤ) (p out : List ℕ) (r : Unpacked) (out' : List ℕ) : Type 0 where
  pub answer : unpacked_reply r ≡ unpack_entry s e p (length out)
  pub named : is_named r ≡ true
  pub list : out' ≡ list_of (unpack_refusal s e p (length out)) 0 (length out) (passthrough_after s (word_of e) p)

-- ---- the program's seven-bit test

-- the instruction at i, for a right character below 128, inserts none above 127 (R128). Kerns and redirects insert nothing (R129).
abbrev pub inserts_seven_bit : List ℤ → ℕ → Bool
inserts_seven_bit s i =
    cond (leb (right_of s i) 127) (cond (is_kind 2 s i) (leb (word_of (field s i 3) % 256) 127) true) true

-- so it is with the instruction at each of these indices
unfoldable pub all_seven_bit : List ℤ → List ℕ → Bool
all_seven_bit s [] = true
all_seven_bit s (i ∷ is) = both (inserts_seven_bit s i) (all_seven_bit s is)

-- so it is with every instruction on the chain of entry i, where its character is below 128 (R129)
abbrev pub entry_safe : List ℤ → List ℤ → ℕ → Bool
entry_safe s es i =
    cond (leb (word_of (char_at es i)) 127) (all_seven_bit s (chain_of s (word_of (entry_at es i)))) true

-- so it is with all entries; the left boundary's does not count
abbrev pub is_seven_bit_safe : List ℤ → List ℤ → Bool
is_seven_bit_safe s es = every (length es / 2) (entry_safe s es)

-- an answer as a number and values (R285): 1 where the program is safe, 0 where it is not
abbrev pub seven_bit_reply : SevenBit → Reply
seven_bit_reply (Safe b) = reply_of 0 (cond b (pos 1) (pos 0) ∷ [])
seven_bit_reply (RefusedFont n) = record { number = n; values = [] }

-- what is_seven_bit_safe answers
abbrev pub seven_bit : List ℤ → List ℤ → Reply
seven_bit s es = reply_of (or_else (program_refusal s) (entries_refusal 65535 es)) (cond (is_seven_bit_safe s es) (pos 1) (pos 0) ∷ [])
