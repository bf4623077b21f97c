-- Laws: the answers of the code. Theorems: on the index of a table it is the step, as specs/Purpose states.
pub mod Laws
pub mod Theorems
