-- A fresh run (R95 to R97); after `run_with_options` of ligkern/mod.rs.
use Rattle.std.specs.Prelude.{false, cond, List, [], ◌∷◌, ℕ, zero, suc, ℤ, pos, negsuc, leb, length, get_or}
use Rattle.lang.specs.Every.{every}
use Rattle.lang.specs.Checks.{unless, or_else, absent_refusal, is_letter}
use Rattle.lang.specs.Answers.{Reply, reply_of}
use Rattle.captions.specs.declared.RunOptions.{RunOptions}
use Rattle.captions.specs.declared.NextLeft.{NextLeft}
use Rattle.captions.specs.declared.NextLeft.TheVariants as next
use Rattle.captions.specs.declared.Consumes.TheVariants as consumes
use Rattle.captions.specs.declared.State.{State}
use Rattle.captions.specs.declared.Begun.{Begun}
use Rattle.captions.specs.declared.Begun.TheVariants.{Run, Refused}
use Rattle.captions.specs.Form.{table_refusal}
use Rattle.captions.specs.Replies.{state_numbers}

-- 4 (R233): the boundary character outside -1 to 255, or the override of the options below -1 (an i32 is never above 2,147,483,647)
abbrev pub edges_refusal : ℤ → RunOptions → ℕ
edges_refusal boundary options = or_else (absent_refusal 255 boundary) (absent_refusal 2147483647 options.right_boundary_override)

-- 20 (R373): what should be a letter (R371) is none: a letter of the word
abbrev pub letters_refusal : List ℕ → ℕ
letters_refusal word = unless 20 (every (length word) (λ i. is_letter (get_or word i 0)))

-- .. or the override
abbrev pub override_refusal : ℤ → ℕ
override_refusal (pos c) = unless 20 (is_letter c)
override_refusal (negsuc n) = 0

-- 6 (R235): a word over 65,535
abbrev pub word_refusal : List ℕ → ℕ
word_refusal word = unless 6 (leb (length word) 65535)

-- 4, 6, 7 or 20, the lowest that holds (R246)
abbrev pub begin_refusal : List ℤ → List ℤ → ℤ → List ℕ → RunOptions → ℕ
begin_refusal pairs ops boundary word options =
    or_else (edges_refusal boundary options)
    (or_else (word_refusal word)
    (or_else (table_refusal pairs ops)
    (or_else (letters_refusal word) (override_refusal options.right_boundary_override))))

-- a state with no ops, no letters given and no pending ligature
abbrev pub fresh : NextLeft → ℕ → State
fresh n r =
    record {
      next_left = n;
      op = 0;
      ops = 0;
      read = r;
      given = 0;
      pending = 0;
      pending_boundary = false;
      consumes_left = consumes.Nothing;
    }

-- without the left boundary the first letter stands left of the cursor (R97)
abbrev pub without_boundary : List ℕ → State
without_boundary [] = fresh next.None 0
without_boundary (c ∷ cs) = fresh (next.Char c) 1

-- where a run begins: at the left boundary, or, where the options turn that off, at the first letter
abbrev pub fresh_state : List ℕ → RunOptions → State
fresh_state word options = cond options.disable_left_boundary (without_boundary word) (fresh next.Boundary 0)

-- with the left boundary and no override: how a text's word and the chip's words are set (R200, R391)
abbrev pub plain_options : RunOptions
plain_options = record { disable_left_boundary = false; right_boundary_override = negsuc 0 }

-- THE contract of begin: its answer, as a number and values (R285)
abbrev pub begin_reply : List ℤ → List ℤ → ℤ → List ℕ → RunOptions → Reply
begin_reply pairs ops boundary word options = reply_of (begin_refusal pairs ops boundary word options) (state_numbers (fresh_state word options))

-- by the refusal: the state, or its number
abbrev pub begun_by : ℕ → State → Begun
begun_by zero s = Run s
begun_by (suc n) s = Refused (suc n)

-- what begin answers as a value of its type, which its reply determines: a fresh state, or the number of a refusal
abbrev pub begin_of : List ℤ → List ℤ → ℤ → List ℕ → RunOptions → Begun
begin_of pairs ops boundary word options = begun_by (begin_refusal pairs ops boundary word options) (fresh_state word options)
