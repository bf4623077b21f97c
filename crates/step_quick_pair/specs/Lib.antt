-- Kern pairs, to be read in this order: KernPairs (which entries they are), Purpose (the two steps that such a pair is).
pub mod KernPairs
pub mod Purpose
