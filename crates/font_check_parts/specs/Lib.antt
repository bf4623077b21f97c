-- Two parts of checking a font file: CheckParts.
pub mod CheckParts
