-- Whether a font that is asked for is known to wait through a step: Waiting (told by one look-up, and what that is for).
pub mod Waiting
