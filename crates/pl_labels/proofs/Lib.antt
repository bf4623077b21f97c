-- The laws of a character, a label and the boundary character.
--   Labels  their parts, one after the other
pub mod Labels
