-- Crate c_display is held to one file, Display.
pub mod Display
