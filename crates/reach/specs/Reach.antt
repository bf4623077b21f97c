-- Reach: which instructions a font's entries lead to (R148 to R153), after `reachable_iter` of ligkern/lang.rs. TFtoPL 66 to 70 compute the
-- activity of each step (crate reach_marks), and TFtoPL 75 counts skips over reachable steps alone. A skip that lands exactly at the end is
-- not made to stop, as TFtoPL 70 does; it has an adjusted skip: docs/DIFFERENCES.md.
use Rattle.std.specs.Prelude.{◌≡◌, cond, List, [], ◌∷◌, ℕ, zero, suc, ◌+◌, ◌*◌, ◌/◌, ◌%◌, ℤ, pos, negsuc, leb, eqb, length, get_or, None, Some, Option}
use Rattle.words.specs.Lists.{tabulate}
use Rattle.lang.specs.declared.Written.{Written}
use Rattle.lang.specs.Records.{count, instruction_at}
use Rattle.lang.specs.Checks.{program_refusal, entries_refusal, absent_refusal, passthrough_refusal, or_else}
use Rattle.lang.specs.Answers.{room_refusal, written_reply, reply_of, list_of}
use Rattle.reach_marks.specs.Marks.{reachable}

-- how many of the k places from i on are marked
unfoldable pub marks_from : List ℕ → ℕ → ℕ → ℕ
marks_from marks i zero = 0
marks_from marks i (suc k) = marks_from marks i k + cond (eqb (get_or marks (i + k) 0) 0) 0 1

-- R152 and R153, TFtoPL 75: the skip of instruction i counted over reachable ones. None (-1) where nothing is skipped, or where the skip
-- passes the end.
abbrev pub adjusted_skip : ℕ → List ℕ → Option ℕ → ℕ → ℤ
adjusted_skip n marks None i = negsuc 0
adjusted_skip n marks (Some zero) i = negsuc 0
adjusted_skip n marks (Some (suc k)) i = cond (leb (i + 1 + suc k) n) (pos (marks_from marks (i + 1) (suc k))) (negsuc 0)

-- 0 unreachable, 1 reachable, 2 passthrough (R151)
abbrev pub state_of : List ℕ → List ℕ → ℕ → ℕ
state_of marks p i = cond (eqb (get_or marks i 0) 0) (cond (eqb (get_or p i 0) 0) 0 2) 1

-- the adjusted skip of instruction i; none (-1) where it is not reachable
abbrev pub skip_of : List ℤ → List ℕ → ℕ → ℤ
skip_of s marks i = cond (eqb (get_or marks i 0) 0) (negsuc 0) (adjusted_skip (count s) marks (instruction_at s i).next_instruction i)

-- number j of the answer: two numbers an instruction, its state and its adjusted skip
abbrev pub reach_number : List ℤ → List ℕ → List ℕ → ℕ → ℤ
reach_number s marks p j = cond (eqb (j % 2) 0) (pos (state_of marks p (j / 2))) (skip_of s marks (j / 2))

-- the whole answer: two numbers for each instruction of the program
abbrev pub reach_list : List ℤ → List ℤ → ℤ → List ℕ → List ℤ
reach_list s es left p = tabulate (2 * count s) (reach_number s (reachable s es left) p)

-- 1, 2, 4 or 15, the lowest that holds, for a list of `room` places
abbrev pub reach_refusal : List ℤ → List ℤ → ℤ → List ℕ → ℕ → ℕ
reach_refusal s es left p room =
    or_else (program_refusal s)
    (or_else (entries_refusal 65535 es)
    (or_else (absent_refusal 65535 left) (or_else (passthrough_refusal p s) (room_refusal (2 * count s) room))))

-- the contract of reachable_iter: how many instructions there are, and two numbers for each, then zeros; or the number, and zeros
pub record Reaches (s es : List ℤ) (left : ℤ) (p : List ℕ) (out : List ℤ) (r : Written) (out' : List ℤ) : Type 0 where
  pub answer : written_reply r ≡ reply_of (reach_refusal s es left p (length out)) (pos (count s) ∷ [])
  pub list : out' ≡ list_of (reach_refusal s es left p (length out)) (pos 0) (length out) (reach_list s es left p)
