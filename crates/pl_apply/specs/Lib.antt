-- A property applied is held to `Follows`; what it changes is `applied` of property_lists/specs/ListReading.
pub mod Standing
