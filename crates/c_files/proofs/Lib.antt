-- Laws of font files for a host in C.
--   Fonts       what reading one tells
--   Replacing   what writing one tells
pub mod Fonts
pub mod Replacing
