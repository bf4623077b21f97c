-- In the order in which to read:
--   Fixing     THE contract of `fix_program`
--   StepFixes  what its passes are held to: the steps repaired so far, and one step by what is wrong with it
pub mod Fixing
pub mod StepFixes
