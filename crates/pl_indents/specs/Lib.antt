-- The contract is that of property_lists/specs/Indents; Bounds is cited by private functions alone.
pub mod Bounds
