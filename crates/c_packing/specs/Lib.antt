-- Crate c_packing is held to one file, Changes: the replies of the calls. How a reply is told is `Telling` of crate c_values.
pub mod Changes
