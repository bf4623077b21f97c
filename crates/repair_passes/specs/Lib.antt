-- What the passes of repair together are held to.
--   Mending  THE contract of `mend`
pub mod Mending
