-- The definitions are those of property_lists/specs/Values; Places is cited by private functions alone.
pub mod Places
