-- The laws of scanners over a text and a place are those of pl_blanks/proofs/Places.
--   CharLaws   comments, single bytes and names
pub mod CharLaws
