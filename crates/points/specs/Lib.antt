-- Sizes in points as bytes, to be read in this order:
--   Printing  the bytes that TeX prints for a scaled number
--   Scanning  the scaled number of a decimal
--   Purpose   what is proved of both
pub mod Printing
pub mod Scanning
pub mod Purpose
