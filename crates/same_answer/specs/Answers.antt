-- Two answers of steps beside each other: the same item, with its original and its flags, or both the end. Each test is a function of
-- the code.
use Rattle.std.specs.Prelude.{Bool, false, cond, not, ℕ, ℤ, eqb}
use Rattle.lang.specs.Every.{both}
use Rattle.repairs.specs.Committing.{same_number}
use Rattle.captions.specs.declared.Answer.{Answer}
use Rattle.captions.specs.declared.Answer.TheVariants.{Char, Ligature, Kern, End, Refused}
use Rattle.captions.specs.Replies.{is_end}

-- both flags are set, or neither is
abbrev pub same_flag : Bool → Bool → Bool
same_flag a b = cond a b (not b)

-- an answer is the character of a code at a place
abbrev pub is_character_item : ℕ → ℕ → Answer → Bool
is_character_item code start (Char c at) = both (eqb code c) (eqb start at)
is_character_item code start (Ligature c at n l r) = false
is_character_item code start (Kern k) = false
is_character_item code start End = false
is_character_item code start (Refused n) = false

-- an answer is the ligature of a code, with an original and flags
abbrev pub is_ligature_item : ℕ → ℕ → ℕ → Bool → Bool → Answer → Bool
is_ligature_item code start n left right (Char c at) = false
is_ligature_item code start n left right (Ligature c at m l r) =
    both (eqb code c) (both (eqb start at) (both (eqb n m) (both (same_flag left l) (same_flag right r))))
is_ligature_item code start n left right (Kern k) = false
is_ligature_item code start n left right End = false
is_ligature_item code start n left right (Refused m) = false

-- an answer is a kern
abbrev pub is_kern_item : ℤ → Answer → Bool
is_kern_item kern (Char c at) = false
is_kern_item kern (Ligature c at n l r) = false
is_kern_item kern (Kern k) = same_number kern k
is_kern_item kern End = false
is_kern_item kern (Refused n) = false

-- two answers are the same item, or both the end; a refusal is the same as nothing
abbrev pub same_answer : Answer → Answer → Bool
same_answer (Char c at) b = is_character_item c at b
same_answer (Ligature c at n l r) b = is_ligature_item c at n l r b
same_answer (Kern k) b = is_kern_item k b
same_answer End b = is_end b
same_answer (Refused n) b = false
