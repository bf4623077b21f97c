-- Crate program_kerns is held to Kerns: read the contracts `PacksKerns` and `UnpacksKerns` at its end, and then upwards. Sharing is cited
-- by private functions alone. SharedKerns is the contract of crate kern_share.
pub mod Kerns
pub mod Sharing
pub mod SharedKerns
