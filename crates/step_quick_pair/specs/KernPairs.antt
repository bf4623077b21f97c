-- Entries that are the left as it stands and one kern, and whose last is the right as it stands (R417), over any table.
use Rattle.std.specs.Prelude.{Bool, not, cond, List, ℕ, suc, ℤ, ltb, eqb}
use Rattle.words.specs.Words.{word_of}
use Rattle.lang.specs.Every.{both}
use Rattle.captions.specs.declared.State.{State}
use Rattle.captions.specs.Tables.{pair_count, op_kind, first_op, count_of, last_flag}
use Rattle.captions.specs.Steps.{after_op}
use Rattle.step_quick.specs.Quick.{is_entered, given_first}

-- there is an entry k, it can be read, and it is a character and a kern with an unflagged last
abbrev pub is_kern_pair : List ℤ → List ℤ → ℕ → Bool
is_kern_pair pairs ops k =
    both (ltb k (pair_count pairs))
    (both (is_entered pairs ops k)
    (both (eqb (count_of pairs k) 2)
    (both (not (last_flag pairs k)) (eqb (word_of (op_kind ops (suc (first_op pairs k)))) 2))))

-- one more than the place of its first op; 0 of every other entry
abbrev pub kern_op : List ℤ → List ℤ → ℕ → ℕ
kern_op pairs ops k = cond (is_kern_pair pairs ops k) (suc (first_op pairs k)) 0

-- the state between the two items of a kern pair, and after them
abbrev pub amid_pair : List ℤ → List ℤ → ℕ → State → State
amid_pair pairs ops k s = (given_first pairs ops k s).state

abbrev pub after_pair : List ℤ → List ℤ → ℕ → State → State
after_pair pairs ops k s = after_op (amid_pair pairs ops k s)
