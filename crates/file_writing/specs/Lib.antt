-- Crate file_writing is held to files/specs/Writing. Holding is cited by a private function alone.
pub mod Holding
