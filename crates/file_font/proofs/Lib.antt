pub mod Lengths
pub mod Designs
pub mod Reading
