-- Crate pack_labels is held to one file, Labels: the label table of packing and the offset (R155 to R158; PLtoTF 140, 141), and the
-- contract of `label` at its end.
pub mod Labels
