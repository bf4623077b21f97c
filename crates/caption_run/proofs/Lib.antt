-- The laws of begin and step.
--   BeginLaws  the letters, or-ed together and one by one; the override; a fresh run: by the tests of the code, and by its refusal
--   StepLaws   the right item by its bits, and the answer by its refusals
pub mod BeginLaws
pub mod StepLaws
