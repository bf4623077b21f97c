-- From a text that is read and shared to the text anew (Laws).
pub mod Laws
