-- Which pairs are given to compiling: those that have a rule, and maybe others. The definition is that of specs/Cycles.
-- Assumes nothing.
pub use Rattle.reading.specs.Cycles.{Covers}
