-- The laws of `write_ops`.
--   KernOps     the parts of a row with a kern
--   WrittenOps  the ops of a font whose rows were counted
pub mod KernOps
pub mod WrittenOps
