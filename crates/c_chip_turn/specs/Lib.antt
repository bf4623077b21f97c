-- The commands but begin on the chip that stands in a list: ListTurns.
pub mod ListTurns
