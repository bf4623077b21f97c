-- What the functions of compile_op_parts answer, over any rows: FoundParts.
pub mod FoundParts
