-- What is shown in a block of any length: Showing, over chips/specs/Blocks.
pub mod Showing
