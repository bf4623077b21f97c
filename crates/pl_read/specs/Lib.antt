-- Crate pl_read is held to `ReadsValues` of ValueLists: what a text says (property_lists/specs/ListReading), its kerns as values. Going is cited by
-- private functions alone.
pub mod ValueLists
pub mod Going
