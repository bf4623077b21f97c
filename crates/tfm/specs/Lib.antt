-- Crate tfm is held to one file, Scaled: what scaling a kern gives, at the design size (R48 to R54) and at another size (R350 to R357),
-- from TeX 568, 571 and 572. Read `toScaled` and `scaledAt` in it, and from each upwards. Purpose states what is proved of them.
pub mod Scaled
pub mod Purpose
