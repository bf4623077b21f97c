-- A file read into a list.
--   Loading  how many bytes an answer says
pub mod Loading
