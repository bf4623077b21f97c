-- Definitions of crate test_font_answers: Fonts (what compiling a font answers).
pub mod Fonts
