-- Laws of crate c_font_step_any.
--   Small    what a step that may change the font answers keeps to the numbers of an item
--   Telling  a step told into both lists
pub mod Small
pub mod Telling
