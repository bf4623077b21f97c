-- Crate font_unpack is held to the contract of crate font_unpackings; OwnPart is what its passes find.
pub mod OwnPart
