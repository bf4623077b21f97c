-- Small: what keeps an item's numbers i32. Theorems: what specs/Purpose states.
pub mod Small
pub mod Theorems
