-- The laws of the property list as text.
--   Putting       texts put into a list, one after the other, and counted
--   RealDigits    what decimals come to when they are read (`reads-exactly`), and the digits of a number
--   RealTheorems  proves what specs/RealPurpose states
pub mod Putting
pub mod RealDigits
pub mod RealTheorems
