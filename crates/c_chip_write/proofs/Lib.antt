-- Laws of crate c_chip_write: Laws (a list that was written part by part), Altered (a list whose chip is another's but for some parts).
pub mod Laws
pub mod Altered
