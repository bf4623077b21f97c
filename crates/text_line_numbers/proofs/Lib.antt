-- Storing: fields read one after the other and stored; and the line feed after them.
pub mod Storing
