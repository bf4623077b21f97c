-- What one turn of the pass over instructions writes (Placing), and what sharing is over no kerns (Purpose). The contract is that of
-- program_kerns/specs/SharedKerns.
pub mod Placing
pub mod Purpose
