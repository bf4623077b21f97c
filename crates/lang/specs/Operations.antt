-- What op bytes mean (R42 to R45, R47). TeX 545: an op byte below 128 is 4a + 2b + c, with 0 ≤ a ≤ b + c and b, c at most 1: b = 0
-- deletes the left character, c = 0 the right, and a is the cursor's advance. TFtoPL 77: any other acts as 0, and is reported.
use Rattle.std.specs.Prelude.{Bool, true, false, cond, ℕ, zero, suc, ◌+◌, ◌-◌, ◌*◌, ◌/◌, ◌%◌, leb, ltb}
use Rattle.lang.specs.declared.operation.PostLigOperation.{PostLigOperation}
use Rattle.lang.specs.declared.operation.PostLigOperation.TheVariants.{RetainBothMoveNowhere, RetainBothMoveToInserted}
use Rattle.lang.specs.declared.operation.PostLigOperation.TheVariants.{RetainBothMoveToRight, RetainRightMoveToInserted}
use Rattle.lang.specs.declared.operation.PostLigOperation.TheVariants.{RetainRightMoveToRight, RetainLeftMoveNowhere}
use Rattle.lang.specs.declared.operation.PostLigOperation.TheVariants.{RetainLeftMoveToInserted, RetainNeitherMoveToInserted}
use Rattle.lang.specs.declared.operation.Operation.{Operation}
use Rattle.lang.specs.declared.operation.Operation.TheVariants.{KernAtIndex, Ligature}

-- a of an op byte below 128: how far the cursor advances (R42)
abbrev pub advance : ℕ → ℕ
advance op = op / 4

-- b: 1 where the left character is retained, 0 where it is deleted
abbrev pub keeps_left : ℕ → ℕ
keeps_left op = op / 2 % 2

-- c: 1 where the right character is retained, 0 where it is deleted
abbrev pub keeps_right : ℕ → ℕ
keeps_right op = op % 2

-- R44, TeX 545: the cursor passes over no more than what is retained
abbrev pub is_standard : ℕ → Bool
is_standard op = leb (advance op) (keeps_left op + keeps_right op)

-- the Rust's name of what b, c and a say (R43)
abbrev pub retains : ℕ → ℕ → ℕ → PostLigOperation
retains zero zero a = RetainNeitherMoveToInserted
retains zero (suc c) zero = RetainRightMoveToInserted
retains zero (suc c) (suc a) = RetainRightMoveToRight
retains (suc b) zero zero = RetainLeftMoveNowhere
retains (suc b) zero (suc a) = RetainLeftMoveToInserted
retains (suc b) (suc c) zero = RetainBothMoveNowhere
retains (suc b) (suc c) (suc zero) = RetainBothMoveToInserted
retains (suc b) (suc c) (suc (suc a)) = RetainBothMoveToRight

-- the other way round: 4a + 2b + c, the standard op byte of an operation (R42, R44)
abbrev pub byte_of_operation : PostLigOperation → ℕ
byte_of_operation RetainNeitherMoveToInserted = 0
byte_of_operation RetainRightMoveToInserted = 1
byte_of_operation RetainLeftMoveNowhere = 2
byte_of_operation RetainBothMoveNowhere = 3
byte_of_operation RetainRightMoveToRight = 5
byte_of_operation RetainLeftMoveToInserted = 6
byte_of_operation RetainBothMoveToInserted = 7
byte_of_operation RetainBothMoveToRight = 11

-- a ligature operation, the character that it inserts, and a mark where its op byte is invalid
abbrev pub lig : PostLigOperation → ℕ → Bool → Operation
lig operation inserted invalid = Ligature (record { 0 = inserted }) operation invalid

-- an op byte below 128
unfoldable pub ligature : ℕ → ℕ → Operation
ligature op inserted =
    cond (is_standard op) (lig (retains (keeps_left op) (keeps_right op) (advance op)) inserted false)
    (lig RetainNeitherMoveToInserted inserted true)

-- Any op byte and its remainder. From 128 on it is a kern index (R47).
unfoldable pub from_bytes : ℕ → ℕ → Operation
from_bytes op remainder = cond (ltb op 128) (ligature op remainder) (KernAtIndex (256 * (op - 128) + remainder))
