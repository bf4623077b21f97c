-- The contract of compile is that of fonts; Late is of its last step.
pub mod Late
