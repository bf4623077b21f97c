pub mod Theorems
pub mod RefusalNumbers
