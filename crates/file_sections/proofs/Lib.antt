-- Laws of parts that are lent (Lending), and of a file that can be written (Fitting).
pub mod Lending
pub mod Fitting
