-- What a step does most often, over any table and any state: a character that stands left of a letter with nothing pending, and the
-- last op of a pair where it is a kern. Each is said by a test, and by the step that is then given; specs/Purpose says that `step_of` is
-- that step.
use Rattle.std.specs.Prelude.{Bool, true, false, cond, List, ℕ, suc, ◌-◌, ℤ, ltb, leb, eqb, length, get_or}
use Rattle.std.proofs.Math.Option.{Option, none, some}
use Rattle.words.specs.Words.{word_of}
use Rattle.lang.specs.Every.{both}
use Rattle.lang.specs.Records.{absent_or}
use Rattle.reading.specs.Items.{item}
use Rattle.captions.specs.declared.RunOptions.{RunOptions}
use Rattle.captions.specs.declared.NextLeft.{NextLeft}
use Rattle.captions.specs.declared.NextLeft.TheVariants as next
use Rattle.captions.specs.declared.Consumes.TheVariants as consumes
use Rattle.captions.specs.declared.State.{State}
use Rattle.captions.specs.declared.Answer.TheVariants.{Char, Kern}
use Rattle.captions.specs.declared.Step.{Step}
use Rattle.captions.specs.Tables.{pair_count, op_count, op_kind, op_value, key_by, find, first_op, count_of, last_code, last_flag, op_holds}
use Rattle.captions.specs.Tables.{record_fits}
use Rattle.captions.specs.Steps.{refused, after_op, after_right, step_refusal, placed}

-- ---- which states

-- the code of a character; 256 of any other next left
abbrev pub plain_code : NextLeft → ℕ
plain_code next.Boundary = 256
plain_code (next.Char c) = c
plain_code (next.Lig c) = 256
plain_code (next.FinalLig c) = 256
plain_code next.None = 256

-- the letter right of the next left
abbrev pub next_letter : List ℕ → State → ℕ
next_letter word s = get_or word s.read 0

-- nothing is pending, the next left is a character, and the state points inside
abbrev pub is_calm : List ℤ → List ℕ → State → Bool
is_calm ops word s = both (eqb s.pending 0) (both (leb (plain_code s.next_left) 255) (placed ops word s))

-- nothing else is refused before a left is looked up or an op is read; an override above 255 goes by turns
abbrev pub is_taken : ℤ → List ℕ → RunOptions → Bool
is_taken boundary word options =
    both (absent_or 255 options.right_boundary_override) (eqb (step_refusal boundary word options) 0)

-- a calm state, and a call that is taken
abbrev pub is_plain : List ℤ → ℤ → List ℕ → RunOptions → State → Bool
is_plain ops boundary word options s = both (is_calm ops word s) (is_taken boundary word options)

-- there is a letter to be read, and one that was read and not given
abbrev pub has_letter : List ℕ → State → Bool
has_letter word s = both (ltb s.read (length word)) (ltb s.given s.read)

-- a character with a letter to its right, and no op to be given
abbrev pub is_quick : List ℤ → ℤ → List ℕ → RunOptions → State → Bool
is_quick ops boundary word options s =
    both (eqb s.ops 0) (both (has_letter word s) (both (leb (next_letter word s) 255) (is_plain ops boundary word options s)))

-- the left's place in the order of pairs, one more than its code, where the state is such; else 0
abbrev pub quick_left : List ℤ → ℤ → List ℕ → RunOptions → State → ℕ
quick_left ops boundary word options s = cond (is_quick ops boundary word options s) (suc (plain_code s.next_left)) 0

-- one op is to be given, a kern
abbrev pub is_kern : List ℤ → ℤ → List ℕ → RunOptions → State → Bool
is_kern ops boundary word options s =
    both (eqb s.ops 1) (both (is_plain ops boundary word options s) (eqb (word_of (op_kind ops s.op)) 2))

-- ---- which entries

-- the place of a pair that was found; the number of pairs where there is none
abbrev pub place_or : ℕ → Option ℕ → ℕ
place_or n none = n
place_or n (some k) = k

-- the place of the pair of a left's place (0 the boundary, else 1 + character) and a right; the number of pairs where there is none
abbrev pub found_place : List ℤ → ℕ → ℕ → ℕ
found_place pairs left right = place_or (pair_count pairs) (find pairs (key_by left right))

-- the first of n ops from i on is a character, and it and the op after it, if there is one, hold what they must
abbrev pub first_plain : List ℤ → ℕ → ℕ → Bool
first_plain ops i n =
    both (ltb 0 n)
    (both (eqb (word_of (op_kind ops i)) 0)
    (both (op_holds ops i) (cond (leb 2 n) (op_holds ops (suc i)) true)))

-- entry k can be read, and its first op is a character
abbrev pub is_entered : List ℤ → List ℤ → ℕ → Bool
is_entered pairs ops k = both (record_fits pairs ops k) (first_plain ops (first_op pairs k) (count_of pairs k))

-- no entry, past the pairs, is as good
abbrev pub is_ready : List ℤ → List ℤ → ℕ → Bool
is_ready pairs ops k = cond (ltb k (pair_count pairs)) (is_entered pairs ops k) true

-- ---- what is given

-- one letter more is read and given: what is next, and the ops after it
abbrev pub moved_on : NextLeft → ℕ → ℕ → State → State
moved_on n o m s =
    record {
      next_left = n;
      op = o;
      ops = m;
      read = suc s.read;
      given = suc s.given;
      pending = 0;
      pending_boundary = false;
      consumes_left = consumes.Nothing;
    }

-- the character as it stands; the letter is next
abbrev pub given_plain : List ℕ → State → Step
given_plain word s =
    record { answer = Char (plain_code s.next_left) s.given; state = moved_on (next.Char (next_letter word s)) s.op 0 s }

-- the first op of entry k, a character; its other ops are to be given, and its last is next
abbrev pub given_first : List ℤ → List ℤ → ℕ → State → Step
given_first pairs ops k s =
    record {
      answer = Char (word_of (op_value ops (first_op pairs k))) s.given;
      state = moved_on (after_right true (item (last_flag pairs k) (last_code pairs k))) (suc (first_op pairs k)) (count_of pairs k - 1) s;
    }

-- by the place that was found; 7 where there is no letter
abbrev pub quick_step : List ℤ → List ℤ → List ℕ → ℕ → State → Step
quick_step pairs ops word k s =
    cond (has_letter word s) (cond (ltb k (pair_count pairs)) (given_first pairs ops k s) (given_plain word s)) (refused 7 s)

-- the kern; 7 where there is no such op
abbrev pub given_kern : List ℤ → State → Step
given_kern ops s =
    cond (ltb s.op (op_count ops)) (record { answer = Kern (op_value ops s.op); state = after_op s }) (refused 7 s)
