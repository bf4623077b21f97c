-- RecordTurns  the turns of the loops: a search for a rule, a walk into a list
-- Alike        two programs that walk alike
-- Flat         the numbers of a list of records
-- Theorems     what specs/Agreement states
pub mod RecordTurns
pub mod Alike
pub mod Flat
pub mod Theorems
