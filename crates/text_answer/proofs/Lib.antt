-- The laws of a text's answer (TextLaws), and the number and the length of every answer.
pub mod TextLaws
