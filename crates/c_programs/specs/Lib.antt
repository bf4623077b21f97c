-- Crate c_programs is held to one file, Programs: the replies of the calls. How a reply is told is `Telling` of crate c_values.
pub mod Programs
