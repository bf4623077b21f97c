-- Laws: the number of a text that is written anew, from the numbers that it is made of.
pub mod Laws
