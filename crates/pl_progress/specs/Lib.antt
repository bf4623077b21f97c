-- The definitions are those of property_lists/specs/ListReading.
pub mod Changes
