-- The plain search (R483 to R486) and THE contract of `blamed_instruction`. Each instruction is removed alone, from the lowest on: what
-- compile says of the rest, and then the items of the word, decide.
use Rattle.std.specs.Prelude.{◌≡◌, Bool, cond, List, [], ◌∷◌, ℕ, zero, suc, min, ℤ, pos, eqb, length, replicate}
use Rattle.lang.specs.Records.{count}
use Rattle.lang.specs.Checks.{lower}
use Rattle.lang.specs.Answers.{Reply, reply_of, room_refusal}
use Rattle.fonts.specs.Fonts.{Font}
use Rattle.fonts.specs.Compiled.{Room, room_of, sized_refusal}
use Rattle.captions.specs.declared.RunOptions.{RunOptions}
use Rattle.captions.specs.Begin.{begin_refusal}
use Rattle.removals.specs.declared.Blamed.{Blamed}
use Rattle.removals.specs.declared.Blamed.TheVariants.{At, Nothing, Refused}
use Rattle.removals.specs.Removed.{font_without}
use Rattle.removals.specs.Items.{font_items, same_items}

-- The room of both tables (R484): each kind counts by the smaller one, and there is none for a loop, so that compile answers 15 exactly
-- where there is a loop.
abbrev pub blame_room : List ℤ → List ℤ → List ℤ → List ℤ → List ℕ → Room
blame_room pairs ops pairsWithout opsWithout work =
    room_of (min (length pairs) (length pairsWithout)) (min (length ops) (length opsWithout)) 0 (length work)

-- ---- one removal (R485)

-- by compile's number of the font without instruction i, and whether the items are the same: 15, a loop, alters, and any other number is
-- returned
abbrev pub removal_answer : ℕ → ℕ → Bool → Blamed
removal_answer i zero same = cond same Nothing (At i)
removal_answer i (suc n) same = cond (eqb n 14) (At i) (Refused (suc n))

-- what removing instruction i alone answers; nothing where it alters nothing
abbrev pub answer_without : Font → Room → ℕ → List ℕ → RunOptions → ℕ → Blamed
answer_without f room size word options i =
    removal_answer i (sized_refusal (font_without f i) room size)
    (same_items (font_items f word options) (font_items (font_without f i) word options))

-- ---- the search

-- the first answer, where there is one, else the next
abbrev pub or_next : Blamed → Blamed → Blamed
or_next (At i) b = At i
or_next Nothing b = b
or_next (Refused n) b = Refused n

-- the first answer of the removals below n
unfoldable pub first_answer : (ℕ → Blamed) → ℕ → Blamed
first_answer answer zero = Nothing
first_answer answer (suc n) = or_next (first_answer answer n) (answer n)

-- ---- refusals before any removal (R486), the lowest that holds

-- 28: the font as given has a loop, which compile, lent no room for one, calls 15
abbrev pub loop_number : ℕ → ℕ
loop_number n = cond (eqb n 15) 28 n

-- 1 to 5, 12 to 14 and 28 of the font as given; 4, 6 and 20 of the word and the options, which is what begin refuses over an empty
-- table; 15
-- where the list for edited instructions is shorter than the instructions; 19 of the size, asked apart, since a loop would hide it
abbrev pub blame_refusal : Font → Room → ℕ → List ℕ → RunOptions → ℕ → ℕ
blame_refusal f room size word options edited =
    lower (loop_number (sized_refusal f room size))
    (lower (begin_refusal [] [] f.boundary word options)
    (lower (room_refusal (length f.instructions) edited) size))

-- ---- the answer

-- by the refusal: the first answer of all removals, or its number
abbrev pub blamed_by : ℕ → Blamed → Blamed
blamed_by zero b = b
blamed_by (suc n) b = Refused (suc n)

-- what is answered of a font, a word and options
abbrev pub blamed_of : Font → Room → ℕ → List ℕ → RunOptions → ℕ → Blamed
blamed_of f room size word options edited =
    blamed_by (blame_refusal f room size word options edited)
    (first_answer (answer_without f room size word options) (count f.instructions))

-- as a number and values (R285): 1 and the index, or 0 and 0, or the number of a refusal
abbrev pub blamed_reply : Blamed → Reply
blamed_reply (At i) = reply_of 0 (pos 1 ∷ pos i ∷ [])
blamed_reply Nothing = reply_of 0 (pos 0 ∷ pos 0 ∷ [])
blamed_reply (Refused n) = record { number = n; values = [] }

-- every number of the six lists that are lent as work is zero, taken or refused
pub record WorkZeroed (pairs ops pairsWithout opsWithout edited : List ℤ) (work : List ℕ)
    (pairs' ops' pairsWithout' opsWithout' edited' : List ℤ) (work' : List ℕ) : Type 0 where
  pub table : pairs' ≡ replicate (length pairs) (pos 0)
  pub ops_table_lem : ops' ≡ replicate (length ops) (pos 0)
  pub second_table : pairsWithout' ≡ replicate (length pairsWithout) (pos 0)
  pub second_ops : opsWithout' ≡ replicate (length opsWithout) (pos 0)
  pub edits : edited' ≡ replicate (length edited) (pos 0)
  pub cleared : work' ≡ replicate (length work) 0

-- THE contract of blamed_instruction: the answer is that of the plain search, and the six lists are zeros. The font's design size is
-- that of
-- the size asked for, and `size` is that size's number.
pub record Blames (f : Font) (size : ℕ) (word : List ℕ) (options : RunOptions) (pairs ops pairsWithout opsWithout edited : List ℤ)
    (work : List ℕ) (r : Blamed) (pairs' ops' pairsWithout' opsWithout' edited' : List ℤ) (work' : List ℕ) : Type 0 where
  pub answer : r ≡ blamed_of f (blame_room pairs ops pairsWithout opsWithout work) size word options (length edited)
  pub zeroed : WorkZeroed pairs ops pairsWithout opsWithout edited work pairs' ops' pairsWithout' opsWithout' edited' work'
