-- The laws of what asking answers and leaves: Asking.
pub mod Asking
