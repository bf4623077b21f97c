-- The quick path of a step, to be read in this order: Quick (which steps are quick, and what they give), Purpose (that they give what
-- the step gives).
pub mod Quick
pub mod Purpose
