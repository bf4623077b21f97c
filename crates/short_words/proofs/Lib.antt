-- Chains (a list whose elements follow each other), Alphabets (the ascending letters), Products (letters before words), Listing (the short words follow each
-- other), Orders (they ascend), Theorems (what specs/Purpose states).
pub mod Chains
pub mod Alphabets
pub mod Products
pub mod Listing
pub mod Orders
pub mod Theorems
