-- What the search for the loops of a repaired font is held to.
--   WarnsLoops  THE contract of `warn_loops`
pub mod WarnsLoops
