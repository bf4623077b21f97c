-- What a removal brings: Purpose (which numbers it can bring, and that its pairs are among those of the font).
pub mod Purpose
