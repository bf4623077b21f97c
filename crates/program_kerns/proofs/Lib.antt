pub mod Changes
pub mod Places
pub mod Tree
pub mod Sharing
pub mod SharedKerns
