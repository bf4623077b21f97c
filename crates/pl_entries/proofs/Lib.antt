-- The laws of the entries of labels.
pub mod EntryLaws
