-- Crate c_queries is held to one file, Questions: the replies of the calls. How a reply is told is `Telling` of crate c_values.
pub mod Questions
