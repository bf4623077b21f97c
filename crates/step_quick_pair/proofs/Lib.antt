-- Laws: the tests of the code, and what a kern pair is. Theorems: what specs/Purpose states.
pub mod Laws
pub mod Theorems
