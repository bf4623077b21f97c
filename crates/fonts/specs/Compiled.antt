-- What compiling answers, and what it leaves in every list: the contract of `compile` (R90 to R94).
use Rattle.std.specs.Prelude.{◌≡◌, Bool, true, false, cond, List, [], ◌∷◌, ℕ, ◌*◌, ◌/◌, ℤ, pos, leb, length, replicate, Result, Ok, Err}
use Rattle.tfm.specs.declared.ScalingError.{ScalingError}
use Rattle.tfm.specs.Scaled.{to_scaled}
use Rattle.lang.specs.declared.operation.Operation.{Operation}
use Rattle.lang.specs.declared.operation.Operation.TheVariants.{Kern, KernAtIndex, Ligature, EntrypointRedirect}
use Rattle.lang.specs.Every.{both, every}
use Rattle.lang.specs.Records.{count, instruction_at}
use Rattle.lang.specs.Checks.{program_refusal, kerns_refusal, entries_refusal, absent_refusal, design_refusal, or_else}
use Rattle.lang.specs.Answers.{Reply, reply_of, list_of, room_refusal}
use Rattle.program_chain.specs.Chains.{acts_as}
use Rattle.reading.specs.Depth.{Finished, Pair}
use Rattle.reading.specs.Loops.{finished, loop_list}
use Rattle.fonts.specs.declared.Compiled.{Compiled}
use Rattle.fonts.specs.declared.Compiled.TheVariants.{Tables, Refused}
use Rattle.fonts.specs.Fonts.{Font, pairs_of, rules_of}
use Rattle.fonts.specs.Numbers.{nth, ops_before, ops_table, pair_table, loop_numbers}

-- how long the four lists are that are lent to be written
pub record Room : Type 0 where
  pub pairs : ℕ
  pub ops : ℕ
  pub loops : ℕ
  pub work : ℕ

-- the room of these lengths: pairs, ops, loops, work
abbrev pub room_of : ℕ → ℕ → ℕ → ℕ → Room
room_of pairs ops loops work = record { pairs = pairs; ops = ops; loops = loops; work = work }

-- the finished pairs of the font's rules: what the table holds (R79)
abbrev pub finished_of : Font → Finished
finished_of f = finished (rules_of f) (pairs_of f)

-- the loop list: one pair of each cycle of pairs that never end
abbrev pub loops_of_font : Font → List Pair
loops_of_font f = loop_list (rules_of f) (pairs_of f)

-- how many ops all pairs of the table have
abbrev pub total_ops : Font → ℕ
total_ops f = ops_before (finished_of f) (pairs_of f) (length (pairs_of f))

-- the pair table that compiling writes: six numbers a pair, those alone that finish
abbrev pub font_table : Font → List ℤ
font_table f = pair_table (finished_of f) (pairs_of f) (length (pairs_of f))

-- how many pairs the table holds: those that finish
abbrev pub table_pairs : Font → ℕ
table_pairs f = length (font_table f) / 6

-- the ops that it writes, two numbers each
abbrev pub font_ops : Font → List ℤ
font_ops f = ops_table (finished_of f) (pairs_of f) (length (pairs_of f))

-- the loop list that it writes, two numbers a pair
abbrev pub font_loops : Font → List ℤ
font_loops f = loop_numbers (loops_of_font f)

-- ---- refusals, the lowest first (R93)

-- 1 to 5
abbrev pub font_refusal : Font → ℕ
font_refusal f =
    or_else (program_refusal f.instructions)
    (or_else (kerns_refusal f.kerns)
    (or_else (entries_refusal 65535 f.entries)
    (or_else (absent_refusal 255 f.boundary)
    (or_else (absent_refusal 65535 f.left) (design_refusal f.design)))))

-- 1 alone, of the instructions' count: what the stages of compiling ask of a font that is not checked yet
abbrev pub long_refusal : List ℤ → ℕ
long_refusal s = cond (leb (count s) 32767) 0 1

-- 12 (R92, R241): more pairs with a rule than the work buffer holds at sixteen u32 each, or than the pair table holds
abbrev pub pairs_refusal : Font → Room → ℕ
pairs_refusal f room =
    cond (both (leb (length (pairs_of f)) (room.work / 16)) (leb (length (pairs_of f)) (room.pairs / 6))) 0 12

-- a kern was scaled (R94, R242)
abbrev pub is_scaled : Result ℤ ScalingError → Bool
is_scaled (Ok v) = true
is_scaled (Err e) = false

-- an operation is no kern, or its kern scales at this design size
abbrev pub scales : ℤ → Operation → Bool
scales design (Kern k) = is_scaled (to_scaled k.0 design)
scales design (KernAtIndex i) = true
scales design (Ligature c p t) = true
scales design (EntrypointRedirect t g) = true

-- so it is with what the rule of pair k does
abbrev pub pair_scales : Font → ℕ → Bool
pair_scales f k = scales f.design (acts_as f.kerns (instruction_at f.instructions (nth (pairs_of f) k).index).operation)

-- so it is with every pair that has a rule
abbrev pub all_scale : Font → Bool
all_scale f = every (length (pairs_of f)) (pair_scales f)

-- 13: a kern that is the rule of some pair has a top byte neither 0 nor 255
abbrev pub kern_refusal : Font → ℕ
kern_refusal f = cond (all_scale f) 0 13

-- 14 (R243): the finished pairs' ops exceed the op table, or 2,147,483,647
abbrev pub ops_refusal : Font → Room → ℕ
ops_refusal f room = cond (both (leb (total_ops f) 2147483647) (leb (2 * total_ops f) room.ops)) 0 14

-- 15 (R244): the loop list is too short
abbrev pub loops_refusal : Font → Room → ℕ
loops_refusal f room = room_refusal (2 * length (loops_of_font f)) room.loops

-- 12 to 15, the lowest that holds
abbrev pub tables_refusal : Font → Room → ℕ
tables_refusal f room = or_else (pairs_refusal f room) (or_else (kern_refusal f) (or_else (ops_refusal f room) (loops_refusal f room)))

-- 1 of too many instructions, then 12 to 15: what is refused of a font that is not checked yet
abbrev pub build_refusal : Font → Room → ℕ
build_refusal f room = or_else (long_refusal f.instructions) (tables_refusal f room)

-- 1 to 5, then 12 to 15: what compile refuses; 0 where it accepts the font
abbrev pub compile_refusal : Font → Room → ℕ
compile_refusal f room = or_else (font_refusal f) (tables_refusal f room)

-- 1 to 5, 12 to 15, then the size's number, 19 or 0 (R356): none of the others hangs on the size
abbrev pub sized_refusal : Font → Room → ℕ → ℕ
sized_refusal f room size = or_else (compile_refusal f room) size

-- what compile answers, as a number and values (R285): the counts (R91), or the number
abbrev pub compiled_reply : Compiled → Reply
compiled_reply (Tables p o l) = reply_of 0 (pos p ∷ pos o ∷ pos l ∷ [])
compiled_reply (Refused n) = record { number = n; values = [] }

-- the counts: pairs in the table, ops, loops
abbrev pub font_counts : Font → List ℤ
font_counts f = pos (table_pairs f) ∷ pos (total_ops f) ∷ pos (length (loops_of_font f)) ∷ []

-- the three lists, by the refusal: what is written and zeros (R255), or zeros alone (R252)
pub record ListsWritten (f : Font) (n : ℕ) (pairs ops loops pairs' ops' loops' : List ℤ) : Type 0 where
  pub table : pairs' ≡ list_of n (pos 0) (length pairs) (font_table f)
  pub ops_table_lem : ops' ≡ list_of n (pos 0) (length ops) (font_ops f)
  pub loop_list_lem : loops' ≡ list_of n (pos 0) (length loops) (font_loops f)

-- the lengths of the four lists that are lent
abbrev pub room_in : List ℤ → List ℤ → List ℤ → List ℕ → Room
room_in pairs ops loops work = room_of (length pairs) (length ops) (length loops) (length work)

-- The contract of compile: the answer, and the final content of every lent list, taken or refused (R6). The font's design size is that of
-- the size asked for (`designAt` of tfm/specs/Scaled, R357), and `size` is that size's number.
pub record Compiles (f : Font) (size : ℕ) (pairs ops loops : List ℤ) (work : List ℕ) (r : Compiled) (pairs' ops' loops' : List ℤ)
    (work' : List ℕ) : Type 0 where
  pub answer : compiled_reply r ≡ reply_of (sized_refusal f (room_in pairs ops loops work) size) (font_counts f)
  pub lists : ListsWritten f (sized_refusal f (room_in pairs ops loops work) size) pairs ops loops pairs' ops' loops'
  pub cleared : work' ≡ replicate (length work) 0
