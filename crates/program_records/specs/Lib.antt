-- What crate program_records is held to, in the order to read in:
--   RecordChains  the record at an index, and the contract of the whole walk
--   Agreement     the walk over records and the walk over numbers agree (theorems `agrees`, `flattened`, `only-on-lig`)
--   WalkSteps     the functions on a record or on numbers, of which the walks are made
pub mod RecordChains
pub mod Agreement
pub mod WalkSteps
